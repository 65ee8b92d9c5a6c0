-- What a list has, after it was filtered, mapped, put in order and freed of repeats.
use Rattle.std.proofs.Common.{◌≡◌, ℕ, zero, suc, ◌+◌, ◌<◌, ◌↔◌, Bool, true, false, cond, List, [], ◌∷◌, length, map, filter, take, ◌++◌, get_or, nat_eq, Option, None, Some, refl, sym, ap, ◌∙◌, subst, arith, String, string_bytes}
use Rattle.std.specs.List.{Contains, AllByRecursion, filter_map, cons_option, dedup}
use Rattle.std.specs.List.Sorted.{IsPermutation, IsSorted, IsStrictlySortedBy}
use Rattle.std.specs.declared.cmp.Ordering.TheVariants.{Less}
use Rattle.std.specs.Ordering.{nat_cmp}
use Rattle.std.specs.Cmp.{unsigned_Decides}
use Rattle.std.specs.Cmp.Lexicographic.{slice_cmp, pointwise, on_texts, on_texts_equal, texts_ties}
use Rattle.std.proofs.lemmas.List.Kept.{IsStrictlySortedBy-dedup, Any-dedup, Contains-from_dedup}
use Rattle.std.proofs.lemmas.List.Sorted.{Contains-permutation, IsPermutation-sym}
use Rattle.std.proofs.lemmas.Slice.Eq.{slice_eq-Decides}
use Rattle.std.proofs.lemmas.List.Elements.{filter_map-append}
use Rattle.std.specs.declared.alloc.Global.{Global}

-- ---- the first item, and later ones

pub here : {A : Type 0} (x : A) (xs : List A) → Contains (x ∷ xs) x
here x xs = (0, omega arith, refl)

pub later : {A : Type 0} (x : A) (xs : List A) (y : A) → Contains xs y → Contains (x ∷ xs) y
later x xs y (k, h, e) = (suc k, omega arith, e)

none : {A : Type 0} (y : A) → Contains [] y → ⊥
none y (k, h, e) = absurd (omega arith)

-- ---- map

module _ {A B : Type 0} (f : A → B) where
  from_map_at : (xs : List A) (y : B) (k : ℕ) → k < length (map f xs) → get_or (map f xs) k y ≡ y → (x : A) × Contains xs x × (f x ≡ y)
  from_map_at [] y k h e = absurd (omega arith)
  from_map_at (x ∷ xs) y zero h e = (x, here x xs, e)
  from_map_at (x ∷ xs) y (suc k) h e = let r = from_map_at xs y k (omega arith) e in (r.0, later x xs r.0 r.1, r.2)

  pub from_map : (xs : List A) (y : B) → Contains (map f xs) y → (x : A) × Contains xs x × (f x ≡ y)
  from_map xs y (k, h, e) = from_map_at xs y k h e

  into_map_at : (xs : List A) (x : A) (k : ℕ) → k < length xs → get_or xs k x ≡ x → Contains (map f xs) (f x)
  into_map_at [] x k h e = absurd (omega arith)
  into_map_at (y ∷ xs) x zero h e = (0, omega arith, ap f e)
  into_map_at (y ∷ xs) x (suc k) h e = later (f y) (map f xs) (f x) (into_map_at xs x k (omega arith) e)

  pub into_map : (xs : List A) (x : A) → Contains xs x → Contains (map f xs) (f x)
  into_map xs x (k, h, e) = into_map_at xs x k h e

-- ---- filters

module _ {A B : Type 0} (h : A → Option B) where
  from_kept : (x : A) (xs : List A) (y : B) (o : Option B) → h x ≡ o → Contains (cons_option o (filter_map h xs)) y
      → (Contains (filter_map h xs) y → (z : A) × Contains xs z × (h z ≡ Some y)) → (z : A) × Contains (x ∷ xs) z × (h z ≡ Some y)
  from_kept x xs y None is m rest = let r = rest m in (r.0, later x xs r.0 r.1, r.2)
  from_kept x xs y (Some v) is (zero, n, e) rest = (x, here x xs, is ∙ ap Some e)
  from_kept x xs y (Some v) is (suc k, n, e) rest = let r = rest (k, omega arith, e) in (r.0, later x xs r.0 r.1, r.2)

  pub from_filter_map : (xs : List A) (y : B) → Contains (filter_map h xs) y → (x : A) × Contains xs x × (h x ≡ Some y)
  from_filter_map [] y m = absurd (none y m)
  from_filter_map (x ∷ xs) y m = from_kept x xs y (h x) refl m (from_filter_map xs y)

  into_kept : (o : Option B) (ys : List B) (y : B) → Contains ys y → Contains (cons_option o ys) y
  into_kept None ys y m = m
  into_kept (Some v) ys y m = later v ys y m

  into_filter_map_at : (xs : List A) (x : A) (y : B) (k : ℕ) → k < length xs → get_or xs k x ≡ x → h x ≡ Some y → Contains (filter_map h xs) y
  into_filter_map_at [] x y k n e is = absurd (omega arith)
  into_filter_map_at (z ∷ xs) x y zero n e is = subst (λ o. Contains (cons_option o (filter_map h xs)) y) (sym (ap h e ∙ is)) (here y (filter_map h xs))
  into_filter_map_at (z ∷ xs) x y (suc k) n e is = into_kept (h z) (filter_map h xs) y (into_filter_map_at xs x y k (omega arith) e is)

  pub into_filter_map : (xs : List A) (x : A) (y : B) → Contains xs x → h x ≡ Some y → Contains (filter_map h xs) y
  into_filter_map xs x y (k, n, e) is = into_filter_map_at xs x y k n e is

module _ {A : Type 0} (test : A → Bool) where
  from_tested : (x : A) (xs : List A) (y : A) (b : Bool) → test x ≡ b → Contains (cond b (x ∷ filter test xs) (filter test xs)) y
      → (Contains (filter test xs) y → Contains xs y × (test y ≡ true)) → Contains (x ∷ xs) y × (test y ≡ true)
  from_tested x xs y false is m rest = let r = rest m in (later x xs y r.0, r.1)
  from_tested x xs y true is (zero, n, e) rest = ((0, omega arith, e), sym (ap test e) ∙ is)
  from_tested x xs y true is (suc k, n, e) rest = let r = rest (k, omega arith, e) in (later x xs y r.0, r.1)

  pub from_filter : (xs : List A) (y : A) → Contains (filter test xs) y → Contains xs y × (test y ≡ true)
  from_filter [] y m = absurd (none y m)
  from_filter (x ∷ xs) y m = from_tested x xs y (test x) refl m (from_filter xs y)

  into_tested : (b : Bool) (x : A) (ys : List A) (y : A) → Contains ys y → Contains (cond b (x ∷ ys) ys) y
  into_tested false x ys y m = m
  into_tested true x ys y m = later x ys y m

  into_filter_at : (xs : List A) (y : A) (k : ℕ) → k < length xs → get_or xs k y ≡ y → test y ≡ true → Contains (filter test xs) y
  into_filter_at [] y k n e is = absurd (omega arith)
  into_filter_at (x ∷ xs) y zero n e is = subst (λ b. Contains (cond b (x ∷ filter test xs) (filter test xs)) y) (sym (ap test e ∙ is)) (0, omega arith, e)
  into_filter_at (x ∷ xs) y (suc k) n e is = into_tested (test x) x (filter test xs) y (into_filter_at xs y k (omega arith) e is)

  pub into_filter : (xs : List A) (y : A) → Contains xs y → test y ≡ true → Contains (filter test xs) y
  into_filter xs y (k, n, e) is = into_filter_at xs y k n e is

-- ---- texts in order, each once

abbrev Text : Type 0
Text = String Global

abbrev alike : Text → Text → Bool
alike x y = pointwise nat_eq (string_bytes x) (string_bytes y)

below_all : (x : Text) (xs : List Text) → AllByRecursion (λ y. slice_cmp nat_cmp (string_bytes x) (string_bytes y) ≡ Less) xs → AllByRecursion (λ y. slice_cmp nat_cmp (string_bytes x) y ≡ Less) (map string_bytes xs)
below_all x [] h = tt
below_all x (y ∷ ys) h = (h.0, below_all x ys h.1)

bytes_sorted : (xs : List Text) → IsStrictlySortedBy (λ x y. slice_cmp nat_cmp (string_bytes x) (string_bytes y)) xs → IsStrictlySortedBy (slice_cmp nat_cmp) (map string_bytes xs)
unfolding IsStrictlySortedBy
bytes_sorted [] h = tt
bytes_sorted (x ∷ xs) h = (below_all x xs h.0, bytes_sorted xs h.1)

pub once_ascending : (xs : List Text) → IsSorted (λ x y. slice_cmp nat_cmp (string_bytes x) (string_bytes y)) xs → IsStrictlySortedBy (slice_cmp nat_cmp) (map string_bytes (dedup alike xs))
once_ascending xs h = bytes_sorted _ (IsStrictlySortedBy-dedup (on_texts string_bytes) (λ x y. texts_ties (string_bytes x) (string_bytes y)) xs h)

same_bytes : (x y : Text) → alike x y ≡ true → string_bytes x ≡ string_bytes y
same_bytes x y h = (slice_eq-Decides unsigned_Decides (string_bytes x) (string_bytes y) (alike x y) refl).0 h

kept_bytes : (xs : List Text) (x : Text) → Contains xs x → Contains (map string_bytes (dedup alike xs)) (string_bytes x)
kept_bytes xs x m =
    let r = Any-dedup (on_texts_equal string_bytes) xs x m in
    subst (Contains (map string_bytes (dedup alike xs))) (sym (same_bytes x r.1 r.4)) (into_map string_bytes (dedup alike xs) r.1 (r.0, r.2, r.3))

pub once_same : (xs ys : List Text) → IsPermutation xs ys → (p : List ℕ) → Contains (map string_bytes (dedup alike ys)) p ↔ Contains (map string_bytes xs) p
once_same xs ys moved p = (
  λ m. let r = from_map string_bytes (dedup alike ys) p m in subst (Contains (map string_bytes xs)) r.2 (into_map string_bytes xs r.0 (Contains-permutation ys xs r.0 (IsPermutation-sym xs ys moved) (Contains-from_dedup alike ys r.0 r.1))),
  λ m. let r = from_map string_bytes xs p m in subst (Contains (map string_bytes (dedup alike ys))) r.2 (kept_bytes ys r.0 (Contains-permutation xs ys r.0 moved r.1)),
)

-- ---- a step of a loop that filters

taken_next : {A B : Type 0} (f : A → B) (xs : List A) (i : ℕ) (x : A) → i < length xs → x ≡ get_or xs i x → map f (take (i + 1) xs) ≡ map f (take i xs) ++ f x ∷ []
taken_next f [] i x h e = absurd (omega arith)
taken_next f (y ∷ xs) zero x h e = ap (λ z. f z ∷ []) (sym e)
taken_next f (y ∷ xs) (suc i) x h e =
    let n : suc (i + 1) ≡ suc i + 1 = omega arith in
    subst (λ k. map f (take k (y ∷ xs)) ≡ map f (take (suc i) (y ∷ xs)) ++ f x ∷ []) n (ap (λ l. f y ∷ l) (taken_next f xs i x (omega arith) e))

pub kept_next : {B : Type 0} (h : List ℕ → Option B) (xs : List Text) (i : ℕ) (x : Text) (path : List ℕ) (before after : List B) → before ≡ filter_map h (map string_bytes (take i xs)) → i < length xs → x ≡ get_or xs i x
    → path ≡ string_bytes x → after ≡ before ++ cons_option (h path) [] → after ≡ filter_map h (map string_bytes (take (i + 1) xs))
kept_next h xs i x path before after known n e is next =
    next
    ∙ ap (λ l. l ++ cons_option (h path) []) known
    ∙ ap (λ p. filter_map h (map string_bytes (take i xs)) ++ cons_option (h p) []) is
    ∙ sym (filter_map-append h (map string_bytes (take i xs)) (string_bytes x ∷ []))
    ∙ ap (filter_map h) (sym (taken_next string_bytes xs i x n e))
