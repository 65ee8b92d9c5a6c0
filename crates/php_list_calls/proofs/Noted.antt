-- Texts that were noted as keys.
use Rattle.std.proofs.Common.{◌≡◌, ◌∙◌, Bool, true, false, ◌||◌, List, [], ◌∷◌, ◌++◌, Option, Some, None, is_some, refl, ap, if◌then◌else◌}
use Rattle.order_map.specs.declared.key.Key.{Key}
use Rattle.order_map.specs.Keys.{same_key, has_key}
use Rattle.order_map.specs.Arrays.{keys_of, look, put}

within : (h : Bool) (k : Key) (ks ls : List Key) → k ∷ (if h then ks else ls) ≡ (if h then k ∷ ks else k ∷ ls)
within true k ks ls = refl
within false k ks ls = refl

module _ {V : Type 0} where
  looked_by : (b : Bool) (v : V) (o : Option V) (c : Bool) → is_some o ≡ c → is_some (if b then Some v else o) ≡ (b || c)
  looked_by true v o c e = refl
  looked_by false v o c e = e

  pub looked : (key : Key) (ps : List (Key × V)) → is_some (look key ps) ≡ has_key key (keys_of ps)
  looked key [] = refl
  looked key (p ∷ ps) = looked_by (same_key p.0 key) p.1 (look key ps) (has_key key (keys_of ps)) (looked key ps)

  noted_by : (b h : Bool) (key k : Key) (x v : V) (ps : List (Key × V)) → keys_of (put key v ps) ≡ (if h then keys_of ps else keys_of ps ++ key ∷ [])
      → keys_of (if b then (k, v) ∷ ps else (k, x) ∷ put key v ps) ≡ (if (b || h) then k ∷ keys_of ps else k ∷ (keys_of ps ++ key ∷ []))
  noted_by true h key k x v ps e = refl
  noted_by false h key k x v ps e = ap (λ ks. k ∷ ks) e ∙ within h k (keys_of ps) (keys_of ps ++ key ∷ [])

  pub noted : (key : Key) (v : V) (ps : List (Key × V)) → keys_of (put key v ps) ≡ (if has_key key (keys_of ps) then keys_of ps else keys_of ps ++ key ∷ [])
  noted key v [] = refl
  noted key v (p ∷ ps) = noted_by (same_key p.0 key) (has_key key (keys_of ps)) key p.0 p.1 v ps (noted key v ps)
