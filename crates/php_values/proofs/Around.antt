-- Answers that wait for those of walks inside.
use Rattle.std.proofs.Common.{◌≡◌, ◌∙◌, List, [], ◌∷◌, ◌++◌, refl, sym, ap}
use Rattle.php_values.specs.Meeting.{around}

module _ {W A : Type 0} (both : A → A → A) (tells : W → A) where
  -- a walk put on the stack is the innermost
  pub around-push : (ws : List W) (w : W) (inner : A) → around both tells (ws ++ w ∷ []) inner ≡ around both tells ws (both inner (tells w))
  around-push [] w inner = refl
  around-push (v ∷ ws) w inner = ap (λ x. both x (tells v)) (around-push ws w inner)

  -- an answer that ends all stays
  pub around-stop : (ws : List W) (e : A) → ((x : A) → both e x ≡ e) → around both tells ws e ≡ e
  around-stop [] e h = refl
  around-stop (w ∷ ws) e h = ap (λ x. both x (tells w)) (around-stop ws e h) ∙ h (tells w)

  -- a walk that has an end with the neutral answer: the one around it goes on
  pub goes-up : (unit : A) → ((x : A) → both unit x ≡ x) → (ws vs : List W) (w : W) (inner : A) → vs ≡ ws ++ w ∷ [] → inner ≡ unit → around both tells vs inner ≡ around both tells ws (tells w)
  goes-up unit u ws vs w inner e i = (λ k. around both tells (e k) (i k)) ∙ around-push ws w unit ∙ ap (around both tells ws) (u (tells w))

  -- a pair with the neutral answer
  pub goes-on : (unit : A) → ((x : A) → both unit x ≡ x) → (ws : List W) (inner x y : A) → inner ≡ both x y → x ≡ unit → around both tells ws inner ≡ around both tells ws y
  goes-on unit u ws inner x y s e = ap (around both tells ws) (s ∙ ap (λ z. both z y) e ∙ u y)

  -- a pair whose answer ends all
  pub ends : (e : A) → ((x : A) → both e x ≡ e) → (ws : List W) (inner x y : A) → inner ≡ both x y → x ≡ e → around both tells ws inner ≡ e
  ends e h ws inner x y s xe = ap (around both tells ws) (s ∙ ap (λ z. both z y) xe ∙ h y) ∙ around-stop ws e h

  -- a pair of two arrays: what is left around them waits
  pub goes-in : (ws vs : List W) (w v : W) (inner x : A) → inner ≡ both x (tells w) → x ≡ tells v → vs ≡ ws ++ w ∷ [] → around both tells ws inner ≡ around both tells vs (tells v)
  goes-in ws vs w v inner x s e p = ap (around both tells ws) (s ∙ ap (λ z. both z (tells w)) e) ∙ sym (ap (λ l. around both tells l (tells v)) p ∙ around-push ws w (tells v))
