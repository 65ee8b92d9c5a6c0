-- The word `less_removed`, and the placeholders of a copy in their exact form.
use Rattle.std.specs.Prelude.{ℕ, ◌+◌, ◌==◌, Bool, true, false, ◌&&◌, List, [], ◌∷◌, length, drop, codes, nat_eq, Option, Some, None, if◌then◌else◌}
use Rattle.std.specs.List.{starts_with}
use Rattle.std.specs.Str.{bytes_eq, str_to_ascii_lowercase}
use Rattle.php_lexer.specs.declared.kinds.Kind.{Kind}
use Rattle.php_lexer.specs.declared.kinds.Kind.TheVariants.{Word}
use Rattle.php_lexer.specs.Marks.{Mark}
use Rattle.php_tree.specs.declared.file.FunSpan.{FunSpan}
use Rattle.app_load.specs.Copies.{file_stub, stub_front, span_text}

abbrev pub is_word : Kind → Bool
is_word Word = true
is_word _ = false

-- the word in any case of its letters
abbrev pub is_reserved : Mark → Bool
is_reserved m = is_word m.kind && bytes_eq (str_to_ascii_lowercase m.text) (codes "less_removed")

-- the first such word
abbrev pub first_reserved : List Mark → Option Mark
first_reserved [] = None
first_reserved (m ∷ ms) = if is_reserved m then Some m else first_reserved ms

-- line ends, and then the brace that closes the body
abbrev pub is_stub_end : List ℕ → Bool
is_stub_end [] = false
is_stub_end (byte ∷ []) = byte == 125
is_stub_end (byte ∷ next ∷ rest) = byte == 10 && is_stub_end (next ∷ rest)

-- a body that is the placeholder of its function: that of this path and this name, and nothing else
abbrev pub is_stub : List ℕ → List ℕ → List ℕ → Bool
is_stub path name body = starts_with nat_eq body (stub_front path name) && is_stub_end (drop (length (stub_front path name)) body)

-- the places of the word in the placeholders of a file's functions, in text order
abbrev pub stub_places : List ℕ → List ℕ → List FunSpan → List ℕ
stub_places path text [] = []
stub_places path text (f ∷ fs) = if is_stub path f.name (span_text text f.span) then (f.span.from + 1) ∷ stub_places path text fs else stub_places path text fs

-- the same, where the whole file may be a placeholder
abbrev pub placeholders : List ℕ → List ℕ → List FunSpan → List ℕ
placeholders path text functions = if bytes_eq text (file_stub path) then 6 ∷ [] else stub_places path text functions

-- the first such word that does not stand in a placeholder: both come in text order, and each placeholder has one
abbrev pub first_stray : List ℕ → List Mark → Option Mark
first_stray places [] = None
first_stray [] (m ∷ ms) = if is_reserved m then Some m else first_stray [] ms
first_stray (p ∷ places) (m ∷ ms) = if is_reserved m then (if m.at == p then first_stray places ms else Some m) else first_stray (p ∷ places) ms
