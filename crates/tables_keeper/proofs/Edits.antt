-- One element put in or taken out, and back.
use Rattle.std.proofs.Common.{◌≡◌, ℕ, ◌<◌, ◌≤◌, ◌+◌, List, [], ◌∷◌, length, get_or, map, refl, ap, arith, inl, inr, ◌∙◌, sym, take, drop, ◌++◌, suc, zero}
use Rattle.std.specs.List.{insert, remove, AllPairs}
use Rattle.std.proofs.lemmas.Bool.{cases_lt}
use Rattle.std.proofs.lemmas.List.{map-append, take-map, drop-map}
use Rattle.std.proofs.lemmas.List.Edits.{length-remove, get_or-remove_below, get_or-remove_above}

pub remove_inserted : {X : Type 0} (xs : List X) (i : ℕ) (y : X) → i ≤ length xs → remove (insert xs i y) i ≡ xs
remove_inserted xs zero y le = refl
remove_inserted [] (suc i) y le = absurd (omega arith)
remove_inserted (x ∷ xs) (suc i) y le = ap (λ l. x ∷ l) (remove_inserted xs i y (omega arith))

pub insert_removed : {X : Type 0} (xs : List X) (i : ℕ) (d : X) → i < length xs → insert (remove xs i) i (get_or xs i d) ≡ xs
insert_removed [] i d lt = absurd (omega arith)
insert_removed (x ∷ xs) zero d lt = refl
insert_removed (x ∷ xs) (suc i) d lt = ap (λ l. x ∷ l) (insert_removed xs i d (omega arith))

pub map_remove : {X Y : Type 0} (f : X → Y) (xs : List X) (i : ℕ) → map f (remove xs i) ≡ remove (map f xs) i
map_remove f xs i =
    map-append f (take i xs) (drop (suc i) xs)
    ∙ ap (λ l. l ++ map f (drop (suc i) xs)) (sym (take-map f i xs))
    ∙ ap (λ l. take i (map f xs) ++ l) (sym (drop-map f (suc i) xs))

-- what holds of each two elements, without one of them
pub AllPairs-remove : {X : Type 0} (R : X → X → Type 0) (xs : List X) (p : ℕ) → p < length xs → AllPairs R xs → AllPairs R (remove xs p)
AllPairs-remove {X} R xs p lt pairs i j d before within =
    let n = length-remove xs p lt in
    elim (cases_lt j p) [
      | inl below ↦ rw (get_or-remove_below xs p d i (omega arith) lt, get_or-remove_below xs p d j below lt) (pairs i j d before (omega arith))
      | inr from ↦ elim (cases_lt i p) [
        | inl below ↦ rw (get_or-remove_below xs p d i below lt, get_or-remove_above xs p d j from lt) (pairs i (j + 1) d (omega arith) (omega arith))
        | inr i_from ↦ rw (get_or-remove_above xs p d i i_from lt, get_or-remove_above xs p d j from lt) (pairs (i + 1) (j + 1) d (omega arith) (omega arith))
      ]
    ]
