-- Which nodes have steps of their own: those that write variables, call, include, or name a constant.
use Rattle.std.specs.Prelude.{Bool, true, false}
use Rattle.php_tree.specs.Expressions as e
use Rattle.php_tree.specs.Expressions.{Expression}
use Rattle.php_rest.specs.declared.now.Now.{Now}
use Rattle.php_rest.specs.declared.now.Now.TheVariants as now

abbrev pub has_steps_of_its_own : {V : Type 0} → Expression V → Bool
has_steps_of_its_own (e.constant c l) = true
has_steps_of_its_own (e.call f xs l) = true
has_steps_of_its_own (e.call_var x xs l) = true
has_steps_of_its_own (e.assign x op y l) = true
has_steps_of_its_own (e.assign_reference x y l) = true
has_steps_of_its_own (e.step op x l) = true
has_steps_of_its_own (e.included kind x l) = true
has_steps_of_its_own _ = false

-- such a node is next
abbrev pub is_node : Now → Bool
is_node (now.Node how e) = true
is_node _ = false
