-- Headers of requests and replies: a name, compared in any ASCII case, and a value.
use Rattle.std.specs.Prelude.{ℕ, Bool, List}
use Rattle.std.specs.Str.{str_eq_ignore_ascii_case}

pub record Header : Type 0 where
  pub name : List ℕ
  pub value : List ℕ

-- the header has this name, in any case of ASCII letters
abbrev pub is_named : List ℕ → Header → Bool
is_named name header = str_eq_ignore_ascii_case header.name name
