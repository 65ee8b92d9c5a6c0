-- What the definitions of library calls answer, a value or a fault, and what a call's result has to do with it.
use Rattle.std.specs.Prelude.{◌≡◌, ◌≢◌, List, map}
pub use Rattle.std.specs.declared.result.Result.{Result}
pub use Rattle.std.specs.declared.result.Result.TheVariants.{Ok, Err}
use Rattle.std.specs.Borrow.{Bor}
use Rattle.order_map.specs.MapView.{MapView}
use Rattle.php_values.specs.declared.fault.ValueFault.{ValueFault}
use Rattle.php_values.specs.declared.fault.ValueFault.TheVariants as value
use Rattle.php_values.specs.declared.value.Value.{Value}
use Rattle.php_values.specs.Data.{Data, data_of, ArrayData, array_of}
use Rattle.php_values.specs.Answers.{Answer}
use Rattle.php_arguments.specs.declared.fault.CallFault.{CallFault}
use Rattle.php_arguments.specs.declared.fault.CallFault.TheVariants as fault

abbrev pub CallAnswer : Type 0 → Type 0
CallAnswer A = Result A CallFault

-- the next step with the value of an answer, if it has one
abbrev pub go_on : {A B : Type 0} → CallAnswer A → (A → CallAnswer B) → CallAnswer B
go_on (Ok a) next = next a
go_on (Err f) next = Err f

-- the fault of a call where a conversion of a value has one
abbrev pub call_fault : ValueFault → CallFault
call_fault value.Float = fault.Float
call_fault value.Kind = fault.Mistyped
call_fault value.Size = fault.Size
call_fault value.Zero = fault.Zero
call_fault value.Memory = fault.Memory

abbrev pub as_call : {A : Type 0} → Answer A → CallAnswer A
as_call (Ok a) = Ok a
as_call (Err f) = Err (call_fault f)

-- a call answers what its definition does, or that memory is short
abbrev pub GivesAnswer : {A : Type 0} → CallAnswer A → Result A CallFault → Type 0
GivesAnswer expected (Ok a) = expected ≡ Ok a
GivesAnswer expected (Err f) = f ≢ fault.Memory → expected ≡ Err f

-- the same of a call whose value is seen as data
abbrev pub GivesValue : CallAnswer Data → Result Value CallFault → Type 0
GivesValue expected (Ok v) = expected ≡ Ok (data_of v)
GivesValue expected (Err f) = f ≢ fault.Memory → expected ≡ Err f

-- the same of a call that lends an array
abbrev pub GivesArray : CallAnswer ArrayData → Result (Bor (MapView Value)) CallFault → Type 0
GivesArray expected (Ok m) = expected ≡ Ok (array_of m.now)
GivesArray expected (Err f) = f ≢ fault.Memory → expected ≡ Err f

-- values as data
abbrev pub datas : List Value → List Data
datas vs = map data_of vs
