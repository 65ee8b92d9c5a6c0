-- Sums of 64 bits.
use Rattle.std.proofs.Common.{◌≡◌, ◌∙◌, ℤ, Bool, true, false, Ok, Err, FitsSigned, w64, refl, ap, if◌then◌else◌}
use Rattle.php_values.specs.declared.value.Value.TheVariants as kind
use Rattle.php_values.specs.declared.fault.ValueFault.{ValueFault}
use Rattle.php_values.specs.declared.fault.ValueFault.TheVariants as value
use Rattle.php_values.specs.Data.{Data, int, data_of}
use Rattle.php_values.specs.Answers.{Answer}
use Rattle.php_values.specs.Arithmetic.{fits}
use Rattle.php_values.proofs.Fitting.{fitting_some, fitting_none}
use Rattle.php_arguments.specs.declared.fault.CallFault.TheVariants.{Float}
use Rattle.php_arguments.specs.Answers.{CallAnswer}
use Rattle.php_list_calls.specs.Numbers.{whole}

some_by : (b : Bool) (z : ℤ) (d : Data) → (let x : Answer Data = (if b then Ok (int z) else Err value.Float) in x) ≡ Ok d → (let x : CallAnswer ℤ = (if b then Ok z else Err Float) in x) ≡ Ok z
some_by true z d e = refl
some_by false z d e = absurd (cc)

none_by : (b : Bool) (z : ℤ) → (let x : Answer Data = (if b then Ok (int z) else Err value.Float) in x) ≡ Err value.Float → (let x : CallAnswer ℤ = (if b then Ok z else Err Float) in x) ≡ Err Float
none_by true z e = absurd (cc)
none_by false z e = refl

pub whole_some : (z n : ℤ) → FitsSigned w64 z → z ≡ n → whole z ≡ Ok n
whole_some z n f e = some_by (fits z) z _ (fitting_some z n f e) ∙ ap Ok e

pub whole_none : (z : ℤ) → (FitsSigned w64 z → ⊥) → whole z ≡ Err Float
whole_none z f = none_by (fits z) z (fitting_none z f)
