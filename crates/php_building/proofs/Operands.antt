-- A head with accesses is one node.
use Rattle.std.proofs.Common.{◌≡◌, ℕ, List, ◌∷◌, refl}
use Rattle.php_grammar.specs.Act.{posted}
use Rattle.php_tree.specs.declared.expr.Access.{Access}
use Rattle.php_tree.specs.declared.expr.Access.TheVariants.{Index, Append, Property, Method}
use Rattle.php_tree.specs.declared.expr.Expr.{Expr}
use Rattle.php_tree.specs.ExpressionOf.{accesses_of}
use Rattle.php_tree.specs.Expressions.{Expression, post}
use Rattle.php_tree.specs.Line.{line_of}
use Rattle.php_tree.proofs.Expressions.{expressions}

pub posted_more : (h : Expression ℕ) (a : Access Expr) (es : List (Access Expr)) → posted h (accesses_of (a ∷ es)) ≡ post h (accesses_of (a ∷ es)) (line_of h)
posted_more h (Index e) es = refl
posted_more h Append es = refl
posted_more h (Property n) es = refl
posted_more h (Method n us) es = refl

pub ruleset operands = (expressions, posted_more)
