-- What an operation on values does in a run.
use Rattle.std.specs.Prelude.{◌≡◌, IfOk, Bool, true, false, not}
use Rattle.std.specs.declared.cmp.Ordering.{Ordering}
use Rattle.std.specs.declared.result.Result.{Result}
use Rattle.std.specs.declared.alloc.AllocError.{AllocError}
use Rattle.php_tree.specs.declared.expr.CompareOp.{CompareOp}
use Rattle.php_tree.specs.declared.expr.CompareOp.TheVariants as compare
use Rattle.php_values.specs.Data.{Data, truth, int, data_of}
use Rattle.php_meaning.specs.declared.fatal.FatalName.{FatalName}
use Rattle.php_meaning.specs.Course.{Does, give}
use Rattle.php_meaning.specs.Refusals.{fatal}
use Rattle.php_meaning.specs.Operators.{number_of, is_less, is_greater}
use Rattle.php_rest.specs.declared.outcome.Outcome.{Outcome}
use Rattle.php_rest.specs.declared.outcome.Outcome.TheVariants.{Gives, Fails}

-- the run ends with a fatal
abbrev pub fails : FatalName → Does
fails why = fatal why

-- what follows has the value, or the run ends
abbrev pub done_by : Outcome → Does
done_by (Gives v) = give (data_of v)
done_by (Fails why) = fails why

-- an operation does what its definition says, or memory is short
abbrev pub Answers : Does → Result Outcome AllocError → Type 0
Answers expected result = IfOk result (λ o. done_by o ≡ expected)

-- `==`, or `!=` at false
abbrev pub equal_or_not : Bool → Bool → Bool
equal_or_not true same = same
equal_or_not false same = not same

-- what a comparison by order makes of it
abbrev pub order_data : CompareOp → Ordering → Data
order_data compare.Equal o = int (number_of o)
order_data compare.NotEqual o = int (number_of o)
order_data compare.Identical o = int (number_of o)
order_data compare.NotIdentical o = int (number_of o)
order_data compare.Order o = int (number_of o)
order_data compare.Less o = truth (is_less o)
order_data compare.LessEqual o = truth (not (is_greater o))
order_data compare.Greater o = truth (is_greater o)
order_data compare.GreaterEqual o = truth (not (is_less o))
