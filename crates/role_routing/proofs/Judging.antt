-- Steps that may be refused.
use Rattle.std.proofs.Common.{◌≡◌, List, [], ◌∷◌, ◌++◌, refl, sym, ap, append_assoc}
use Rattle.std.specs.declared.result.Result.TheVariants.{Ok, Err}
use Rattle.role_routing.specs.Files.{Judged, ◌>>=◌}

-- what an `Ok` behind two steps shows of each
pub bind-ok : {A B : Type 0} (r : Judged A) (f : A → Judged B) (y : B) → (r >>= f) ≡ Ok y → (x : A) × (r ≡ Ok x) × (f x ≡ Ok y)
bind-ok (Ok x) f y e = (x, refl, e)
bind-ok (Err z) f y e = absurd (cc)

-- one more in front of the rest of a list, and behind its first part
pub bind-more : {A : Type 0} (r : Judged (List A)) (done : List A) (x : A)
    → ((r >>= (λ xs. Ok (x ∷ xs))) >>= (λ xs. Ok (done ++ xs))) ≡ (r >>= (λ xs. Ok ((done ++ x ∷ []) ++ xs)))
bind-more (Ok xs) done x = ap Ok (sym (append_assoc done (x ∷ []) xs))
bind-more (Err z) done x = refl
