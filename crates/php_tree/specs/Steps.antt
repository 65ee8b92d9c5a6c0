-- A test of one access of the code.
use Rattle.std.specs.Prelude.{Bool, true, false}
use Rattle.php_tree.specs.declared.expr.Access.{Access}
use Rattle.php_tree.specs.declared.expr.Access.TheVariants.{Index, Append, Property, Method}
use Rattle.php_tree.specs.declared.expr.Expr.{Expr}

-- an index or a property
abbrev pub is_step : Access Expr → Bool
is_step (Index e) = true
is_step Append = false
is_step (Property n) = true
is_step (Method n es) = false
