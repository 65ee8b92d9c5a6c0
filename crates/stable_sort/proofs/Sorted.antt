-- A list that is in order and has what ties in the order of another one is that one, sorted.
use Rattle.std.proofs.Common.{rules, ◌≡◌, ◌∙◌, ℕ, suc, ◌<◌, ◌≤◌, Bool, true, false, not, ◌&&◌, List, [], ◌∷◌, length, get_or, refl, sym, ap, arith, OnOk, if◌then◌else◌}
use Rattle.std.specs.declared.result.Result.{Result}
use Rattle.std.specs.declared.result.Result.TheVariants.{Ok, Err}
use Rattle.std.specs.Cmp.{IsStrictWeakOrder}
use Rattle.std.specs.List.{filter}
use Rattle.std.specs.List.Sorted.{IsSortedBy, IsStableBy, ties}
use Rattle.std.proofs.lemmas.List.Sorted.{sorted_far}
use Rattle.stable_sort.specs.Sorting.{insert_by, sort_by}

module _ {X : Type 0} (lt : X → X → Bool) where
  -- none of some elements is less than another one, and none of a list than an earlier one
  abbrev NoneBelow : X → List X → Type 0
  NoneBelow x [] = Unit {0}
  NoneBelow x (y ∷ ys) = (lt y x ≡ false) × NoneBelow x ys

  abbrev Rises : List X → Type 0
  Rises [] = Unit {0}
  Rises (x ∷ xs) = NoneBelow x xs × Rises xs

  none_below : (x : X) (ys : List X) → ((j : ℕ) (d : X) → j < length ys → lt (get_or ys j d) x ≡ false) → NoneBelow x ys
  none_below x [] h = tt
  none_below x (y ∷ ys) h = (h 0 y (omega arith), none_below x ys (λ j d b. h (suc j) d (omega (arith, b))))

  rises : (xs : List X) → ((i j : ℕ) (d : X) → i ≤ j → j < length xs → lt (get_or xs j d) (get_or xs i d) ≡ false) → Rises xs
  rises [] h = tt
  rises (x ∷ xs) h = (none_below x xs (λ j d b. h 0 (suc j) d (omega arith) (omega (arith, b))), rises xs (λ i j d le b. h (suc i) (suc j) d (omega (arith, le)) (omega (arith, b))))

module _ {X : Type 0} (lt : X → X → Bool) (o : IsStrictWeakOrder lt) where
  itself_by : (b : Bool) (x : X) → lt x x ≡ b → lt x x ≡ false
  itself_by true x e = o.one_way x x e
  itself_by false x e = e

  itself : (x : X) → lt x x ≡ false
  itself x = itself_by (lt x x) x refl

  tied : (x y : X) → lt x y ≡ false → lt y x ≡ false → ties lt x y ≡ true
  tied x y e f = (λ i. not (e i) && not (f i))

  both_by : (b c : Bool) → (not b && not c) ≡ true → (b ≡ false) × (c ≡ false)
  both_by false false e = (refl, refl)
  both_by false true e = search (rules, e)
  both_by true c e = search (rules, e)

  untied : (x y : X) → ties lt x y ≡ true → (lt x y ≡ false) × (lt y x ≡ false)
  untied x y e = both_by (lt x y) (lt y x) e

  -- ---- what is first

  found_by : (b : Bool) (a y : X) (z : X) (ys : List X) → ties lt z y ≡ b → lt y a ≡ false → ((c : X) (rest : List X) → filter (ties lt z) ys ≡ c ∷ rest → lt z a ≡ false)
      → (c : X) (rest : List X) → (if b then y ∷ filter (ties lt z) ys else filter (ties lt z) ys) ≡ c ∷ rest → lt z a ≡ false
  found_by true a y z ys e h more c rest f = o.chain z y a (untied z y e).0 h
  found_by false a y z ys e h more c rest f = more c rest f

  found : (a z : X) (ys : List X) → NoneBelow lt a ys → (c : X) (rest : List X) → filter (ties lt z) ys ≡ c ∷ rest → lt z a ≡ false
  found a z [] h c rest e = absurd (cc)
  found a z (y ∷ ys) h c rest e = found_by (ties lt z y) a y z ys refl h.0 (found a z ys h.1) c rest e

  kept_first : (z : X) (ys : List X) → filter (ties lt z) (z ∷ ys) ≡ z ∷ filter (ties lt z) ys
  kept_first z ys = ap (λ b. if b then z ∷ filter (ties lt z) ys else filter (ties lt z) ys) (tied z z (itself z) (itself z))

  kept_tied : (z y : X) (ys : List X) → ties lt z y ≡ true → filter (ties lt z) (y ∷ ys) ≡ y ∷ filter (ties lt z) ys
  kept_tied z y ys e = ap (λ b. if b then y ∷ filter (ties lt z) ys else filter (ties lt z) ys) e

  firsts : (a b : X) (qs bs : List X) → NoneBelow lt a qs → NoneBelow lt b bs → ((z : X) → filter (ties lt z) (a ∷ qs) ≡ filter (ties lt z) (b ∷ bs)) → a ≡ b
  firsts a b qs bs ha hb h =
      let ba : lt b a ≡ false = found a b (a ∷ qs) (itself a, ha) b (filter (ties lt b) bs) (h b ∙ kept_first b bs) in
      let ab : lt a b ≡ false = found b a (b ∷ bs) (itself b, hb) a (filter (ties lt a) qs) (sym (h a) ∙ kept_first a qs) in
      let e = sym (kept_first a qs) ∙ h a ∙ kept_tied a b bs (tied a b ab ba) in
      cc

  cancel_by : (b : Bool) (x : X) (xs ys : List X) → (if b then x ∷ xs else xs) ≡ (if b then x ∷ ys else ys) → xs ≡ ys
  cancel_by true x xs ys e = cc
  cancel_by false x xs ys e = e

  rests : (z a b : X) (qs bs : List X) → a ≡ b → filter (ties lt z) (a ∷ qs) ≡ filter (ties lt z) (b ∷ bs) → filter (ties lt z) qs ≡ filter (ties lt z) bs
  rests z a b qs bs e h = cancel_by (ties lt z a) a (filter (ties lt z) qs) (filter (ties lt z) bs) (h ∙ ap (λ b. filter (ties lt z) (b ∷ bs)) (sym e))

  -- two lists in order that have the same of each kind are the same
  one_order : (qs bs : List X) → Rises lt qs → Rises lt bs → ((z : X) → filter (ties lt z) qs ≡ filter (ties lt z) bs) → qs ≡ bs
  one_order [] [] ra rb h = refl
  one_order [] (b ∷ bs) ra rb h = let e = h b ∙ kept_first b bs in absurd (cc)
  one_order (a ∷ qs) [] ra rb h = let e = sym (h a) ∙ kept_first a qs in absurd (cc)
  one_order (a ∷ qs) (b ∷ bs) ra rb h =
      let e = firsts a b qs bs ra.0 rb.0 h in
      let t = one_order qs bs ra.1 rb.1 (λ z. rests z a b qs bs e (h z)) in
      (λ i. e i ∷ t i)

  -- ---- what is sorted

  none-insert_by : (b : Bool) (z x y : X) (ys : List X) → lt x z ≡ false → lt y z ≡ false → NoneBelow lt z ys → NoneBelow lt z (insert_by lt x ys) → NoneBelow lt z (if b then y ∷ insert_by lt x ys else x ∷ (y ∷ ys))
  none-insert_by true z x y ys e f h more = (f, more)
  none-insert_by false z x y ys e f h more = (e, (f, h))

  none-insert : (z x : X) (ys : List X) → lt x z ≡ false → NoneBelow lt z ys → NoneBelow lt z (insert_by lt x ys)
  none-insert z x [] e h = (e, tt)
  none-insert z x (y ∷ ys) e h = none-insert_by (lt y x) z x y ys e h.0 h.1 (none-insert z x ys e h.1)

  none_further : (x y : X) (ys : List X) → lt y x ≡ false → NoneBelow lt y ys → NoneBelow lt x ys
  none_further x y [] e h = tt
  none_further x y (w ∷ ys) e h = (o.chain w y x h.0 e, none_further x y ys e h.1)

  rises-insert_by : (b : Bool) (x y : X) (ys : List X) → lt y x ≡ b → NoneBelow lt y ys → Rises lt ys → Rises lt (insert_by lt x ys) → Rises lt (if b then y ∷ insert_by lt x ys else x ∷ (y ∷ ys))
  rises-insert_by true x y ys e h r more = (none-insert y x ys (o.one_way y x e) h, more)
  rises-insert_by false x y ys e h r more = ((e, none_further x y ys e h), (h, r))

  rises-insert : (x : X) (ys : List X) → Rises lt ys → Rises lt (insert_by lt x ys)
  rises-insert x [] r = (tt, tt)
  rises-insert x (y ∷ ys) r = rises-insert_by (lt y x) x y ys refl r.0 r.1 (rises-insert x ys r.1)

  rises-sort : (xs : List X) → Rises lt (sort_by lt xs)
  rises-sort [] = tt
  rises-sort (x ∷ xs) = rises-insert x (sort_by lt xs) (rises-sort xs)

  -- one kind is not less than itself
  apart_by : (b : Bool) (x y z : X) → ties lt z y ≡ b → lt y x ≡ true → ties lt z x ≡ true → b ≡ false
  apart_by true x y z e f g = let no = o.chain y z x (untied z y e).1 (untied z x g).0 in absurd (search (rules, f, no))
  apart_by false x y z e f g = refl

  -- what is passed over does not tie with what ties with the other
  swaps : (b c : Bool) (x y : X) (fs : List X) → (c ≡ true → b ≡ false) → (if b then y ∷ (if c then x ∷ fs else fs) else (if c then x ∷ fs else fs)) ≡ (if c then x ∷ (if b then y ∷ fs else fs) else (if b then y ∷ fs else fs))
  swaps true true x y fs h = let no = h refl in absurd (search (rules, no))
  swaps true false x y fs h = refl
  swaps false true x y fs h = refl
  swaps false false x y fs h = refl

  filter-insert_by : (b : Bool) (z x y : X) (ys : List X) → lt y x ≡ b → filter (ties lt z) (insert_by lt x ys) ≡ filter (ties lt z) (x ∷ ys)
      → filter (ties lt z) (if b then y ∷ insert_by lt x ys else x ∷ (y ∷ ys)) ≡ filter (ties lt z) (x ∷ (y ∷ ys))
  filter-insert_by false z x y ys e more = refl
  filter-insert_by true z x y ys e more =
      ap (λ fs. if ties lt z y then y ∷ fs else fs) more
      ∙ swaps (ties lt z y) (ties lt z x) x y (filter (ties lt z) ys) (λ g. apart_by (ties lt z y) x y z refl e g)

  filter-insert : (z x : X) (ys : List X) → filter (ties lt z) (insert_by lt x ys) ≡ filter (ties lt z) (x ∷ ys)
  filter-insert z x [] = refl
  filter-insert z x (y ∷ ys) = filter-insert_by (lt y x) z x y ys refl (filter-insert z x ys)

  filter-sort : (z : X) (xs : List X) → filter (ties lt z) (sort_by lt xs) ≡ filter (ties lt z) xs
  filter-sort z [] = refl
  filter-sort z (x ∷ xs) = filter-insert z x (sort_by lt xs) ∙ ap (λ fs. if ties lt z x then x ∷ fs else fs) (filter-sort z xs)

  -- what a stable sort gives
  pub sorted-is : (xs ys : List X) → IsSortedBy lt ys → IsStableBy lt xs ys → ys ≡ sort_by lt xs
  sorted-is xs ys sorted stable =
      one_order ys (sort_by lt xs) (rises lt ys (λ i j d le b. sorted_far lt o ys sorted i j d le b)) (rises-sort xs) (λ z. stable z ∙ sym (filter-sort z xs))

pub on_ok : {A E : Type 0} {P Q : Type 0} (r : Result A E) → (P → Q) → OnOk r P → OnOk r Q
on_ok (Ok a) f h = f h
on_ok (Err e) f h = tt
