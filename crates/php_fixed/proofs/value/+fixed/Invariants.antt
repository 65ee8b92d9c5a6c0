use Rattle.std.proofs.Common.{◌≡◌, ◌+◌, ◌*◌, [], ◌∷◌, drop}
use Rattle.php_tree.specs.ExpressionOf.{expression_of, items_of, links_of, branches_of}
use Rattle.php_tree.specs.Height.{height, items_height, links_height, branches_height}
use Rattle.php_values.specs.Data.{data_of}
use Rattle.php_world.specs.Naming.{Naming}
use Rattle.php_constants.specs.Named.{Knows}
use Rattle.php_meaning.specs.World.{World}
use Rattle.php_meaning.specs.Course.{Then}
use Rattle.php_meaning.specs.Constants.{fixed_items, fixed_links, fixed_branches, no_elements}
use Rattle.php_rest.specs.Named.{items_named, links_named, branches_named}
use Rattle.php_fixed.proofs.value.+fixed.Given as goal

abbrev pub invariant-array-loop-item : goal.invariant-array-loop-item
invariant-array-loop-item l =
    (t : Naming) (w : World) (k : Then) → Knows l.path l.constants w → fixed_items (items_named t (drop l.item-index l.items)) (data_of l.array) w k ≡ fixed_items (items_named t l.items) no_elements w k

abbrev pub invariant-chain-loop-link : goal.invariant-chain-loop-link
invariant-chain-loop-link l =
    (t : Naming) (w : World) (k : Then) → Knows l.path l.constants w → fixed_links (links_named t (drop l.link-index l.links)) (data_of l.left) w k ≡ fixed_links (links_named t l.links) (data_of l.fn.first) w k

abbrev pub invariant-choice-loop-branch : goal.invariant-choice-loop-branch
invariant-choice-loop-branch l =
    (t : Naming) (w : World) (k : Then) → Knows l.path l.constants w → fixed_branches (branches_named t (drop l.branch-index l.branches)) (data_of l.value) w k ≡ fixed_branches (branches_named t l.branches) (data_of l.fn.first) w k

abbrev pub decreases-fixed : goal.decreases-fixed
decreases-fixed l = 4 * height (expression_of l.e.now)

abbrev pub decreases-array : goal.decreases-array
decreases-array l = 4 * items_height (items_of l.items.now) + 3

abbrev pub decreases-with_item : goal.decreases-with_item
decreases-with_item l = 4 * items_height (items_of (l.item.now ∷ [])) + 2

abbrev pub decreases-with_pair : goal.decreases-with_pair
decreases-with_pair l = 4 * height (expression_of l.value.now) + 1

abbrev pub decreases-chain : goal.decreases-chain
decreases-chain l = 4 * links_height (links_of l.links.now) + 3

abbrev pub decreases-with_link : goal.decreases-with_link
decreases-with_link l = 4 * height (expression_of l.link.now.1) + 2

abbrev pub decreases-choice : goal.decreases-choice
decreases-choice l = 4 * branches_height (branches_of l.branches.now) + 3

abbrev pub decreases-with_branch : goal.decreases-with_branch
decreases-with_branch l = 4 * branches_height (branches_of (l.branch.now ∷ [])) + 2
