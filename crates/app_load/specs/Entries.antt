-- What can be entered, recorded, kept and removed: a file, and a function of a file.
use Rattle.std.specs.Prelude.{ℕ, Bool, true, false, ◌&&◌, List, [], string_bytes}
use Rattle.std.specs.Str.{bytes_eq}
use Rattle.app_load.specs.declared.entry.Entry as code
use Rattle.app_load.specs.declared.entry.Entry.TheVariants as c

-- A file by its path, or a function of a file by its name in lower case, `class::method` for a method.
pub data Entry : Type 0 where
  file : (path : List ℕ) → Entry
  function : (path name : List ℕ) → Entry

-- what an entry of the code stands for
abbrev pub entry_of : code.Entry → Entry
entry_of (c.File path) = file (string_bytes path)
entry_of (c.Function path name) = function (string_bytes path) (string_bytes name)

abbrev pub is_same : Entry → Entry → Bool
is_same (file p) (file q) = bytes_eq p q
is_same (function p n) (function q m) = bytes_eq p q && bytes_eq n m
is_same _ _ = false
