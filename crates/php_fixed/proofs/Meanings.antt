-- What each node of the code gives as a constant expression, with the names of its variables.
use Rattle.std.proofs.Common.{◌≡◌, ℕ, List, ap}
use Rattle.php_tree.specs.declared.name.ConstName.{ConstName}
use Rattle.php_tree.specs.declared.expr.ChainOp.{ChainOp}
use Rattle.php_tree.specs.declared.expr.Item.{Item}
use Rattle.php_tree.specs.declared.expr.Branch.{Branch}
use Rattle.php_tree.specs.declared.expr.Expr.{Expr}
use Rattle.php_tree.specs.declared.expr.Expr.TheVariants as x
use Rattle.php_tree.specs.Renamed.{renamed}
use Rattle.php_tree.proofs.Expressions as seen
use Rattle.php_world.specs.Naming.{Naming}
use Rattle.php_meaning.specs.World.{World}
use Rattle.php_meaning.specs.Course.{Then, on_value}
use Rattle.php_meaning.specs.Constants.{fixed, fixed_items, fixed_links, fixed_branches, constant_named, no_elements}
use Rattle.php_rest.specs.Named.{named, items_named, links_named, branches_named}

pub fixed-Constant : (t : Naming) (c : ConstName) (l : ℕ) (w : World) (k : Then) → fixed (named t (x.Constant c l)) w k ≡ constant_named c.text l w k
fixed-Constant t c l w k = ap (λ e. fixed (renamed t.name e) w k) (seen.expression_of-Constant c l)

pub fixed-Array : (t : Naming) (es : List (Item Expr)) (l : ℕ) (w : World) (k : Then) → fixed (named t (x.Array es l)) w k ≡ fixed_items (items_named t es) no_elements w k
fixed-Array t es l w k = ap (λ e. fixed (renamed t.name e) w k) (seen.expression_of-Array es l)

pub fixed-Chain : (t : Naming) (e : Expr) (es : List (ChainOp × Expr)) (l : ℕ) (w : World) (k : Then) → fixed (named t (x.Chain e es l)) w k ≡ fixed (named t e) w (on_value (fixed_links (links_named t es)) k)
fixed-Chain t e es l w k = ap (λ e. fixed (renamed t.name e) w k) (seen.expression_of-Chain e es l)

pub fixed-Choice : (t : Naming) (e : Expr) (es : List (Branch Expr)) (l : ℕ) (w : World) (k : Then) → fixed (named t (x.Choice e es l)) w k ≡ fixed (named t e) w (on_value (fixed_branches (branches_named t es)) k)
fixed-Choice t e es l w k = ap (λ e. fixed (renamed t.name e) w k) (seen.expression_of-Choice e es l)
