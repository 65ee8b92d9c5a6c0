-- The steps of a place, of the code and as plain data.
use Rattle.std.proofs.Common.{◌≡◌, List, [], ◌∷◌, refl}
use Rattle.std.specs.List.{list_all}
use Rattle.php_tree.specs.declared.expr.Access.{Access}
use Rattle.php_tree.specs.declared.expr.Access.TheVariants.{Index, Append, Property, Method}
use Rattle.php_tree.specs.declared.expr.Expr.{Expr}
use Rattle.php_tree.specs.ExpressionOf.{accesses_of}
use Rattle.php_tree.specs.Place.{only_steps}
use Rattle.php_tree.specs.Steps.{is_step}

pub steps_are : (es : List (Access Expr)) → list_all is_step es ≡ only_steps (accesses_of es)
steps_are [] = refl
steps_are (Index e ∷ es) = steps_are es
steps_are (Append ∷ es) = refl
steps_are (Property n ∷ es) = steps_are es
steps_are (Method n us ∷ es) = refl

pub ruleset steps = (steps_are)
