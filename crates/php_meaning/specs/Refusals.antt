-- What a run does where a step is refused: it ends with a fatal, or the engine throws.
use Rattle.std.specs.Prelude.{ℕ, List, codes}
use Rattle.std.specs.declared.result.Result.{Result}
use Rattle.std.specs.declared.result.Result.TheVariants.{Ok, Err}
use Rattle.php_values.specs.declared.fault.ValueFault.{ValueFault}
use Rattle.php_values.specs.declared.fault.ValueFault.TheVariants as value
use Rattle.php_world.specs.declared.fault.PlaceFault.{PlaceFault}
use Rattle.php_world.specs.declared.fault.PlaceFault.TheVariants as place
use Rattle.php_arguments.specs.declared.fault.CallFault.{CallFault}
use Rattle.php_arguments.specs.declared.fault.CallFault.TheVariants as call
use Rattle.php_meaning.specs.declared.fatal.FatalName.{FatalName}
use Rattle.php_meaning.specs.declared.fatal.FatalName.TheVariants as name
use Rattle.php_meaning.specs.Events.{Fatal}
use Rattle.php_meaning.specs.Course.{Stops, Does}

-- the classes of what the engine throws
pub data ErrorClass : Type 0 where
  plain_error : ErrorClass
  type_error : ErrorClass
  argument_count_error : ErrorClass
  arithmetic_error : ErrorClass
  division_by_zero_error : ErrorClass

-- the run ends at the innermost statement that runs
abbrev pub fatal : FatalName → Does
fatal why w k = Stops (Fatal why w.at.file w.at.line) w

-- The engine throws an error of a class with a message. As long as there are no objects, nothing catches it.
abbrev pub throws : ErrorClass → List ℕ → Does
throws class message = fatal name.Uncaught

-- goes on with the value of an answer, if it has one
abbrev pub answered : {A F : Type 0} → (F → Does) → (A → Does) → Result A F → Does
answered refused go (Ok a) = go a
answered refused go (Err fault) = refused fault

-- ---- by faults; definitions never want memory

-- a conversion or comparison
abbrev pub value_refused : ValueFault → Does
value_refused value.Float = fatal name.Float
value_refused value.Kind = fatal name.Mistyped
value_refused value.Size = fatal name.Size
value_refused value.Zero = throws division_by_zero_error (codes "Modulo by zero")
value_refused value.Memory = fatal name.Size

-- arithmetic on numbers and arrays
abbrev pub operand_refused : ValueFault → Does
operand_refused value.Float = fatal name.Float
operand_refused value.Kind = throws plain_error (codes "Unsupported operand types")
operand_refused value.Size = fatal name.Size
operand_refused value.Zero = throws division_by_zero_error (codes "Modulo by zero")
operand_refused value.Memory = fatal name.Size

-- where a text is wanted
abbrev pub text_refused : ValueFault → Does
text_refused value.Float = fatal name.Float
text_refused value.Kind = throws plain_error (codes "No text form")
text_refused value.Size = fatal name.Size
text_refused value.Zero = fatal name.Mistyped
text_refused value.Memory = fatal name.Size

-- a reading or writing of a place
abbrev pub place_refused : PlaceFault → Does
place_refused place.Kind = fatal name.Mistyped
place_refused place.Keys = fatal name.Keys
place_refused place.Size = fatal name.Size
place_refused place.ObjectAsArray = throws plain_error (codes "Object as array")
place_refused place.NotAnObject = throws plain_error (codes "Not an object")
place_refused place.Memory = fatal name.Size

-- a library call
abbrev pub call_refused : CallFault → Does
call_refused call.Arity = fatal name.Arity
call_refused call.Mistyped = fatal name.Mistyped
call_refused call.Float = fatal name.Float
call_refused call.Sort = fatal name.Sort
call_refused call.Size = fatal name.Size
call_refused call.Keys = fatal name.Keys
call_refused call.Zero = throws division_by_zero_error (codes "Division by zero")
call_refused call.Range = throws arithmetic_error (codes "Out of range")
call_refused call.Memory = fatal name.Size
