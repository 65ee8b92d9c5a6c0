-- Sorting, and taking each element to another.
use Rattle.std.proofs.Common.{◌≡◌, ◌∙◌, Bool, true, false, List, [], ◌∷◌, map, refl, ap, if◌then◌else◌}
use Rattle.stable_sort.specs.Sorting.{insert_by, sort_by}

module _ {X Y : Type 0} (f : X → Y) (lt : X → X → Bool) (lu : Y → Y → Bool) (same : (x y : X) → lt x y ≡ lu (f x) (f y)) where
  insert_by-map : (b : Bool) (x y : X) (ys : List X) → map f (insert_by lt x ys) ≡ insert_by lu (f x) (map f ys)
      → map f (if b then y ∷ insert_by lt x ys else x ∷ (y ∷ ys)) ≡ (if b then f y ∷ insert_by lu (f x) (map f ys) else f x ∷ (f y ∷ map f ys))
  insert_by-map true x y ys e = ap (λ l. f y ∷ l) e
  insert_by-map false x y ys e = refl

  insert-map : (x : X) (ys : List X) → map f (insert_by lt x ys) ≡ insert_by lu (f x) (map f ys)
  insert-map x [] = refl
  insert-map x (y ∷ ys) = insert_by-map (lt y x) x y ys (insert-map x ys) ∙ ap (λ b. if b then f y ∷ insert_by lu (f x) (map f ys) else f x ∷ (f y ∷ map f ys)) (same y x)

  -- where both tests agree, it makes no difference what is done first
  pub sort-map : (xs : List X) → map f (sort_by lt xs) ≡ sort_by lu (map f xs)
  sort-map [] = refl
  sort-map (x ∷ xs) = insert-map x (sort_by lt xs) ∙ ap (insert_by lu (f x)) (sort-map xs)
