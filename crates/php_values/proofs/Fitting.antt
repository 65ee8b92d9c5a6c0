-- Numbers of 64 bits.
use Rattle.std.proofs.Common.{◌≡◌, ◌∙◌, ℕ, ℤ, pos, negsuc, ◌<◌, ◌^◌, Bool, true, false, Ok, Err, ap, refl, sym, arith, w64, FitsSigned, nat_lt, if◌then◌else◌}
use Rattle.std.proofs.lemmas.Bool.Decides.{nat_tests}
use Rattle.php_values.specs.declared.value.Value.{fold-roll-Value}
use Rattle.php_values.specs.declared.value.Value.TheVariants as kind
use Rattle.php_values.specs.declared.value.Value.TheOpen.{Value-F}
use Rattle.php_values.specs.declared.fault.ValueFault.TheVariants.{Float}
use Rattle.php_values.specs.Data.{Data, ArrayData, int, data_of, data_step, array_step}
use Rattle.php_values.specs.Arithmetic.{fits, fitting}

fits-yes : (z : ℤ) → FitsSigned w64 z → fits z ≡ true
fits-yes (pos n) f = grind (arith, nat_tests)
fits-yes (negsuc n) f = grind (arith, nat_tests)

no_step : (b : Bool) (n m : ℕ) → nat_lt n m ≡ b → (n < m → ⊥) → nat_lt n m ≡ false
no_step true n m e f = let l : n < m = grind (arith, nat_tests) in absurd (f l)
no_step false n m e f = e

fits-no : (z : ℤ) → (FitsSigned w64 z → ⊥) → fits z ≡ false
fits-no (pos n) f = no_step (nat_lt n (2 ^ 63)) n (2 ^ 63) refl (λ l. f (record { sfits = l }))
fits-no (negsuc n) f = no_step (nat_lt n (2 ^ 63)) n (2 ^ 63) refl (λ l. f (record { sfits = l }))

data-Int : (n : ℤ) → data_of (kind.Int n) ≡ int n
data-Int n = ap data_of (sym (kind.rolls-Int n)) ∙ fold-roll-Value Data ArrayData data_step array_step (Value-F.Int n)

pub fitting_some : (z n : ℤ) → FitsSigned w64 z → z ≡ n → fitting z ≡ Ok (data_of (kind.Int n))
fitting_some z n f e = ap (λ b. if b then Ok (int z) else Err Float) (fits-yes z f) ∙ ap (λ n. Ok (int n)) e ∙ ap Ok (sym (data-Int n))

pub fitting_none : (z : ℤ) → (FitsSigned w64 z → ⊥) → fitting z ≡ Err Float
fitting_none z f = ap (λ b. if b then Ok (int z) else Err Float) (fits-no z f)
