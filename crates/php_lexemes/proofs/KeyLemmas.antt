-- Numbers with a minus before them.
use mir.Val.{SFits, of_z, to_z}
use mir.Syntax.{w64}
use lib.IntN.{ℤ, pos, negsuc, ◌+ℤ◌, ◌-ℤ◌}
use Rattle.std.proofs.Common.{◌≡◌, ℕ, zero, suc, ◌+◌, ◌-◌, ◌^◌, ◌<◌, ◌≤◌, refl, ap, sym, ◌∙◌, subst, arith}
use Rattle.std.proofs.lemmas.Int.{to_z-of_z, to_z_pos}

minus_one_plus : (n : ℕ) → negsuc 0 +ℤ negsuc n ≡ negsuc (suc n)
minus_one_plus n = ap (λ (k : ℕ). negsuc (suc k)) (go n)
  where
    go : (a : ℕ) → 0 + a ≡ a
    go a = omega arith

step_down : (k : ℕ) → negsuc 0 -ℤ pos k ≡ negsuc k
step_down zero = refl
step_down (suc n) = minus_one_plus n

module _ (u : ℕ) (lo : 0 < u) (hi : u ≤ 2 ^ 63) where
  less : u - 1 < 2 ^ 63
  less = go u (2 ^ 63) lo hi
    where
      go : (a c : ℕ) → 0 < a → a ≤ c → a - 1 < c
      go a c p q = omega arith

  is : negsuc 0 -ℤ to_z w64 (u - 1) ≡ negsuc (u - 1)
  is = ap (λ (z : ℤ). negsuc 0 -ℤ z) (to_z_pos w64 (u - 1) less) ∙ step_down (u - 1)

  pub minus_fits : SFits w64 (negsuc 0 -ℤ to_z w64 (u - 1))
  minus_fits = subst (λ (z : ℤ). SFits w64 z) (sym is) (record { sfits = less })

  pub minus_is : to_z w64 (of_z w64 (negsuc 0 -ℤ to_z w64 (u - 1))) ≡ negsuc (u - 1)
  minus_is = to_z-of_z w64 (negsuc 0 -ℤ to_z w64 (u - 1)) minus_fits ∙ is
