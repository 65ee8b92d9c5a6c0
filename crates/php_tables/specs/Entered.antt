-- The files that were entered.
use denote.Ref.{Bor}
use Rattle.std.specs.Prelude.{◌≡◌, ℕ, List, is_some}
use Rattle.std.specs.List.{list_any}
use Rattle.std.specs.Str.{bytes_eq}
use Rattle.php_names.specs.Tables.{found}

abbrev pub path_at : Bor (List ℕ) → List ℕ
path_at path = path.now

-- what is found by name is what stands in the list
abbrev pub AreTheSame : {V : Type 0} → List (List ℕ × V) → List (List ℕ) → Type 0
AreTheSame names paths = (path : List ℕ) → is_some (found path names) ≡ list_any (λ p. bytes_eq p path) paths
