-- A single file stands once.
use Rattle.std.proofs.Common.{◌≡◌, List, [], ◌∷◌, map, sym, subst, String, Vec, ℕ}
use Rattle.std.specs.declared.alloc.Global.{Global}
use Rattle.std.specs.List.Sorted.{IsStrictlySortedBy}
use Rattle.std.proofs.lemmas.List.Sorted.{IsPermutation-refl}
use Rattle.app_load.specs.Applications.{text_of, AreInOrder, IsOnce}

abbrev Pair : Type 0
Pair = String Global × Vec ℕ Global

one : (p : Pair) → AreInOrder (p ∷ []) (text_of p ∷ [])
unfolding IsStrictlySortedBy
one p = record { all = IsPermutation-refl (text_of p ∷ []); ascending = (tt, tt) }

pub one_file : (given : List Pair) (p : Pair) → given ≡ p ∷ [] → IsOnce given
one_file given p e = subst IsOnce (sym e) (text_of p ∷ [], one p)
