-- What definitions of places answer, and what a call's result has to do with it.
use Rattle.std.specs.Prelude.{◌≡◌, ◌≢◌}
use Rattle.std.specs.declared.result.Result.{Result}
use Rattle.std.specs.declared.result.Result.TheVariants.{Ok, Err}
use Rattle.php_values.specs.declared.value.Value.{Value}
use Rattle.php_values.specs.declared.value.ArrayValue.{ArrayValue}
use Rattle.php_values.specs.Data.{Data, ArrayData, data_of, array_of}
use Rattle.php_world.specs.declared.fault.PlaceFault.{PlaceFault}
use Rattle.php_world.specs.declared.fault.PlaceFault.TheVariants.{Memory}

abbrev pub Answer : Type 0 → Type 0
Answer A = Result A PlaceFault

-- the next step with the value of an answer, if it has one
abbrev pub and_then : {A B : Type 0} → Answer A → (A → Answer B) → Answer B
and_then (Ok a) next = next a
and_then (Err fault) next = Err fault

-- the value of an answer, if it has one, taken to another
abbrev pub when_ok : {A B : Type 0} → (A → B) → Answer A → Answer B
when_ok f (Ok a) = Ok (f a)
when_ok f (Err fault) = Err fault

-- a call answers what its definition does, or that memory is short
abbrev pub Tells : {A : Type 0} → Answer A → Answer A → Type 0
Tells expected (Ok a) = expected ≡ Ok a
Tells expected (Err fault) = fault ≢ Memory → expected ≡ Err fault

-- the same of a call whose value is seen as data
abbrev pub TellsData : Answer Data → Answer Value → Type 0
TellsData expected (Ok value) = expected ≡ Ok (data_of value)
TellsData expected (Err fault) = fault ≢ Memory → expected ≡ Err fault

-- what was refused: for the fault that the definition answers, and nothing changed
pub record IsRefused {A : Type 0} (expected : Answer A) (before after : A) (fault : PlaceFault) : Type 0 where
  pub fault_is : expected ≡ Err fault
  pub unchanged : after ≡ before

-- a call that changes something makes of it what its definition answers, or refuses as it does, or memory is short
abbrev pub Makes : {A B : Type 0} → Answer A → A → A → Result B PlaceFault → Type 0
Makes expected before after (Ok b) = expected ≡ Ok after
Makes expected before after (Err fault) = fault ≢ Memory → IsRefused expected before after fault

-- the array of a value is taken out of it; a value that is none stays
abbrev pub Takes : Answer ArrayData → Data → Data → Answer ArrayValue → Type 0
Takes expected before after (Ok a) = expected ≡ Ok (array_of a.map.value)
Takes expected before after (Err fault) = (expected ≡ Err fault) × (after ≡ before)
