-- Arguments that are variables.
use Rattle.std.specs.declared.option.Option.{Option}
use Rattle.std.specs.declared.option.Option.TheVariants.{Some, None}
use Rattle.php_tree.specs.Expressions as e
use Rattle.php_tree.specs.Expressions.{Expression}

-- the variable that an expression is, if it is one
abbrev pub var_of : {V : Type 0} → Expression V → Option V
var_of (e.var x l) = Some x
var_of _ = None
