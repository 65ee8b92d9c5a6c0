-- Files in byte order of their paths.
use Rattle.std.proofs.Common.{◌≡◌, ℕ, zero, suc, ◌+◌, ◌<◌, false, ◌⊎◌, inl, inr, List, [], ◌∷◌, length, map, get_or, refl, sym, ap, ◌∙◌, subst, arith, String, string_bytes, Vec, Ordering}
use Rattle.std.specs.List.{Contains, AllByRecursion}
use Rattle.std.specs.List.Sorted.{IsPermutation, IsSortedBy, IsStrictlySortedBy}
use Rattle.std.specs.declared.cmp.Ordering.TheVariants.{Less, Equal, Greater}
use Rattle.std.specs.Ordering.{nat_cmp, is_lt, is_eq, eq_by_cmp, ordering_then, ordering_reverse}
use Rattle.std.specs.Cmp.Lexicographic.{slice_cmp}
use Rattle.std.proofs.lemmas.Cmp.{nat_list_cmp_total, eq_by_cmp_equiv, tied_itself}
use Rattle.std.proofs.lemmas.List.{get_or-map, length-map}
use Rattle.std.proofs.lemmas.List.Sorted.{IsPermutation-map, IsPermutation-sym, IsPermutation-trans, Contains-permutation}
use Rattle.std.proofs.lemmas.Map.Keys.{sorted_head, sorted_tail, IsDistinct-from_sorted, IsDistinct-IsPermutation, apart_from_distinct, sorted_from_all_adjacent}
use Rattle.std.specs.declared.alloc.Global.{Global}
use Rattle.app_load.specs.Applications.{Text, text_of, AreInOrder, IsOnce}

abbrev Pair : Type 0
Pair = String Global × Vec ℕ Global

abbrev path : Pair → List ℕ
path p = string_bytes p.0

abbrev first : Text → List ℕ
first t = t.0

abbrev cmp : List ℕ → List ℕ → Ordering
cmp = slice_cmp nat_cmp

paths_are : (xs : List Pair) → map first (map text_of xs) ≡ map path xs
paths_are [] = refl
paths_are (x ∷ xs) = ap (λ ps. path x ∷ ps) (paths_are xs)

-- ---- sorting

turned : (a b : Ordering) → is_lt (ordering_then a b) ≡ false → is_eq a ≡ false → ordering_reverse a ≡ Less
turned Less b h e = cc
turned Equal b h e = cc
turned Greater b h e = refl

abbrev IsUp : List Pair → Type 0
IsUp xs = IsSortedBy (λ x y. is_lt (ordering_then (cmp (path x) (path y)) (cmp x.1.items y.1.items))) xs

adjacent : (xs : List Pair) (d : Pair) (k : ℕ) → ((p : List ℕ) → k + 1 < length (map path xs) → eq_by_cmp cmp (get_or (map path xs) k p) (get_or (map path xs) (k + 1) p) ≡ false)
    → IsUp xs → k + 1 < length (map path xs) → cmp (get_or (map path xs) k (path d)) (get_or (map path xs) (k + 1) (path d)) ≡ Less
adjacent xs d k apart up h =
    let n : k + 1 < length xs = omega (arith, length-map {A = Pair} xs path) in
    let here = get_or-map path xs k d (path d) (omega arith) in
    let next = get_or-map path xs (k + 1) d (path d) n in
    let p = path (get_or xs k d) in
    let q = path (get_or xs (k + 1) d) in
    let unlike : eq_by_cmp cmp p q ≡ false = subst (λ v. eq_by_cmp cmp p v ≡ false) next (subst (λ v. eq_by_cmp cmp v (get_or (map path xs) (k + 1) (path d)) ≡ false) here (apart (path d) h)) in
    let less = nat_list_cmp_total.antisymm p q ∙ turned (cmp q p) _ (up k d (omega arith) n) (sym ((eq_by_cmp_equiv nat_list_cmp_total).symm p q) ∙ unlike) in
    subst (λ v. cmp v (get_or (map path xs) (k + 1) (path d)) ≡ Less) (sym here) (subst (λ v. cmp p v ≡ Less) (sym next) less)

ascending : (xs : List Pair) → ((k : ℕ) (p : List ℕ) → k + 1 < length (map path xs) → eq_by_cmp cmp (get_or (map path xs) k p) (get_or (map path xs) (k + 1) p) ≡ false)
    → IsUp xs → IsStrictlySortedBy cmp (map path xs)
unfolding IsStrictlySortedBy
ascending [] apart up = tt
ascending (x ∷ xs) apart up = sorted_from_all_adjacent nat_list_cmp_total (map path (x ∷ xs)) (path x) (λ k. adjacent (x ∷ xs) x k (apart k) up)

same_paths : (given sorted : List Pair) (texts : List Text) → IsPermutation (map text_of given) texts → IsPermutation given sorted → IsPermutation (map first texts) (map path sorted)
same_paths given sorted texts once same =
    let known = subst (λ ps. IsPermutation ps (map first texts)) (paths_are given) (IsPermutation-map first _ _ once) in
    IsPermutation-trans _ _ _ (IsPermutation-sym _ _ known) (IsPermutation-map path _ _ same)

pub in_order : (given sorted : List Pair) → IsOnce given → IsPermutation given sorted → IsUp sorted → AreInOrder given (map text_of sorted)
in_order given sorted once same up =
    let distinct = IsDistinct-IsPermutation (eq_by_cmp cmp) (eq_by_cmp_equiv nat_list_cmp_total).symm _ _ (same_paths given sorted once.0 once.1.all same) (IsDistinct-from_sorted cmp _ once.1.ascending) in
    record {
      all = IsPermutation-map text_of given sorted same;
      ascending = subst (IsStrictlySortedBy cmp) (sym (paths_are sorted)) (ascending sorted (λ k p h. apart_from_distinct (eq_by_cmp cmp) (map path sorted) k (k + 1) p distinct (omega arith) h) up);
    }

-- ---- one order

Among : List Text → Text → Type 0
Among [] t = ⊥
Among (x ∷ xs) t = (x ≡ t) ⊎ Among xs t

contained : (xs : List Text) (t : Text) → Among xs t → Contains xs t
unfolding Among
contained [] t h = absurd h
contained (x ∷ xs) t (inl e) = (0, omega arith, e)
contained (x ∷ xs) t (inr m) = let r = contained xs t m in (suc r.0, omega arith, r.2)

among : (xs : List Text) (t : Text) (k : ℕ) → k < length xs → get_or xs k t ≡ t → Among xs t
unfolding Among
among [] t k h e = absurd (omega arith)
among (x ∷ xs) t zero h e = inl e
among (x ∷ xs) t (suc k) h e = inr (among xs t k (omega arith) e)

moved : (xs ys : List Text) → IsPermutation xs ys → (t : Text) → Among xs t → Among ys t
moved xs ys same t m = let c = Contains-permutation xs ys t same (contained xs t m) in among ys t c.0 c.1 c.2

below : (k : List ℕ) (xs : List Text) (t : Text) → AllByRecursion (λ p. cmp k p ≡ Less) (map first xs) → Among xs t → cmp k t.0 ≡ Less
unfolding Among
below k [] t all m = absurd m
below k (x ∷ xs) t all (inl e) = subst (λ u. cmp k u.0 ≡ Less) e all.0
below k (x ∷ xs) t all (inr m) = below k xs t all.1 m

not_below : (k : List ℕ) → cmp k k ≡ Less → ⊥
not_below k h = let e = tied_itself nat_list_cmp_total k in cc

module _ (x y : Text) (xs ys : List Text) (up : IsStrictlySortedBy cmp (map first (x ∷ xs))) (rise : IsStrictlySortedBy cmp (map first (y ∷ ys))) where
  heads : Among (y ∷ ys) x → Among (x ∷ xs) y → x ≡ y
  unfolding Among
  heads (inl e) m = sym e
  heads (inr k) (inl e) = e
  heads (inr k) (inr m) =
      absurd (not_below x.0 (nat_list_cmp_total.trans x.0 y.0 x.0 (below x.0 xs y (sorted_head cmp x.0 (map first xs) up) m) (below y.0 ys x (sorted_head cmp y.0 (map first ys) rise) k)))

  behind : (t : Text) → x ≡ y → Among xs t → Among (y ∷ ys) t → Among ys t
  unfolding Among
  behind t e m (inl f) = absurd (not_below x.0 (subst (λ u. cmp x.0 u.0 ≡ Less) (sym (e ∙ f)) (below x.0 xs t (sorted_head cmp x.0 (map first xs) up) m)))
  behind t e m (inr k) = k

here : (x : Text) (xs : List Text) → Among (x ∷ xs) x
unfolding Among
here x xs = inl refl

later : (x : Text) (xs : List Text) (t : Text) → Among xs t → Among (x ∷ xs) t
unfolding Among
later x xs t m = inr m

none : (t : Text) → Among [] t → ⊥
unfolding Among
none t m = m

one : (xs ys : List Text) → IsStrictlySortedBy cmp (map first xs) → IsStrictlySortedBy cmp (map first ys)
    → ((t : Text) → Among xs t → Among ys t) → ((t : Text) → Among ys t → Among xs t) → xs ≡ ys
one [] [] up rise to back = refl
one [] (y ∷ ys) up rise to back = absurd (none y (back y (here y ys)))
one (x ∷ xs) [] up rise to back = absurd (none x (to x (here x xs)))
one (x ∷ xs) (y ∷ ys) up rise to back =
    let e = heads x y xs ys up rise (to x (here x xs)) (back y (here y ys)) in
    let rest = one xs ys (sorted_tail cmp x.0 (map first xs) up) (sorted_tail cmp y.0 (map first ys) rise)
    (λ t m. behind x y xs ys up rise t e m (to t (later x xs t m)))
    (λ t m. behind y x ys xs rise up t (sym e) m (back t (later y ys t m))) in
    ap (λ h. h ∷ xs) e ∙ ap (λ ts. y ∷ ts) rest

-- two lists in byte order of the paths, none twice, with the same members are one list
pub same_members : (xs ys : List Text) → IsStrictlySortedBy cmp (map first xs) → IsStrictlySortedBy cmp (map first ys)
    → ((t : Text) → Contains xs t → Contains ys t) → ((t : Text) → Contains ys t → Contains xs t) → xs ≡ ys
same_members xs ys up rise to back =
    one xs ys up rise
    (λ t m. let c = to t (contained xs t m) in among ys t c.0 c.1 c.2)
    (λ t m. let c = back t (contained ys t m) in among xs t c.0 c.1 c.2)

pub one_order : (given : List Pair) (xs ys : List Text) → AreInOrder given xs → AreInOrder given ys → xs ≡ ys
one_order given xs ys a b =
    let same = IsPermutation-trans xs (map text_of given) ys (IsPermutation-sym (map text_of given) xs a.all) b.all in
    one xs ys a.ascending b.ascending (moved xs ys same) (moved ys xs (IsPermutation-sym xs ys same))
