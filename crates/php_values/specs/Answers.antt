-- What definitions answer, a value or a fault, and what a call's result has to do with it.
use Rattle.std.specs.Prelude.{◌≡◌, ◌≢◌}
use Rattle.std.specs.declared.result.Result.{Result}
use Rattle.std.specs.declared.result.Result.TheVariants.{Ok, Err}
use Rattle.php_values.specs.declared.fault.ValueFault.{ValueFault}
use Rattle.php_values.specs.declared.fault.ValueFault.TheVariants.{Memory}
use Rattle.php_values.specs.declared.value.Value.{Value}
use Rattle.php_values.specs.Data.{Data, data_of}

abbrev pub Answer : Type 0 → Type 0
Answer A = Result A ValueFault

-- the next step with the value of an answer, if it has one
abbrev pub and_then : {A B : Type 0} → Answer A → (A → Answer B) → Answer B
and_then (Ok a) next = next a
and_then (Err fault) next = Err fault

-- a call answers what its definition does, or that memory is short
abbrev pub Gives : {A : Type 0} → Answer A → Result A ValueFault → Type 0
Gives expected (Ok a) = expected ≡ Ok a
Gives expected (Err fault) = fault ≢ Memory → expected ≡ Err fault

-- the same of a call whose value is seen as data
abbrev pub GivesData : Answer Data → Result Value ValueFault → Type 0
GivesData expected (Ok value) = expected ≡ Ok (data_of value)
GivesData expected (Err fault) = fault ≢ Memory → expected ≡ Err fault
