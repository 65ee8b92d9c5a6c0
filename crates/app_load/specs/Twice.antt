-- Names that are declared twice, and jumps that leave too much: the first of each in text order.
use Rattle.std.specs.Prelude.{ℕ, Bool, true, false, ◌||◌, List, [], ◌∷◌, ◌++◌, Option, Some, None, if◌then◌else◌}
use Rattle.std.specs.List.{list_any}
use Rattle.std.specs.Str.{bytes_eq, str_to_ascii_lowercase}
use Rattle.app_load.specs.declared.finding.Sort.{Sort}
use Rattle.app_load.specs.declared.finding.Sort.TheVariants as sort
use Rattle.app_load.specs.Findings.{Name, Finding, declares, leaves}

-- functions, classes and methods are compared in any case of ASCII letters, the others as they are written
abbrev pub compared : Sort → List ℕ → List ℕ
compared sort.Function word = str_to_ascii_lowercase word
compared sort.Class word = str_to_ascii_lowercase word
compared sort.Method word = str_to_ascii_lowercase word
compared sort.Constant word = word
compared sort.Property word = word
compared sort.Parameter word = word

-- a letter of each sort
abbrev pub letter : Sort → ℕ
letter sort.Function = 102
letter sort.Class = 99
letter sort.Constant = 107
letter sort.Property = 112
letter sort.Method = 109
letter sort.Parameter = 118

-- Two names are of one thing where their keys are the same. A space parts the words, since no word has one.
abbrev pub key : Name → List ℕ
key n = letter n.sort ∷ (str_to_ascii_lowercase n.class ++ 32 ∷ (str_to_ascii_lowercase n.function ++ 32 ∷ compared n.sort n.word))

-- the first of some names that is one of those before it; `before` are the keys of names that stand before them
abbrev pub first_again : List (List ℕ) → List Finding → Option Name
first_again before [] = None
first_again before (leaves l ∷ fs) = first_again before fs
first_again before (declares n ∷ fs) = if list_any (bytes_eq (key n)) before then Some n else first_again (key n ∷ before) fs

-- the first name of a file that is declared a second time
abbrev pub first_twice : List Finding → Option Name
first_twice fs = first_again [] fs

-- the line of the first jump out of more than there is around it
abbrev pub first_leaving : List Finding → Option ℕ
first_leaving [] = None
first_leaving (leaves l ∷ fs) = Some l
first_leaving (declares n ∷ fs) = first_leaving fs
