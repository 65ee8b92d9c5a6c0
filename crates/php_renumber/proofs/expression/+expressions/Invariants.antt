use Rattle.std.proofs.Common.{◌≡◌, ℕ, ◌+◌, ◌*◌, take}
use Rattle.php_renumber.specs.Numbers.{number_in}
use Rattle.php_renumber.specs.Copies.{IsPart, IsItem, IsAccess, IsLink, IsBranch}
use Rattle.php_renumber.proofs.Each.{Each}
use Rattle.php_renumber.proofs.Lists.{IsExpr}
use Rattle.php_renumber.proofs.expression.+expressions.Given as goal

abbrev pub invariant-exprs-loop-e : goal.invariant-exprs-loop-e
invariant-exprs-loop-e l = Each (IsExpr (number_in l.numbers)) (take l.e-index l.es) l.copies

abbrev pub invariant-parts-loop-one : goal.invariant-parts-loop-one
invariant-parts-loop-one l = Each (IsPart (number_in l.numbers)) (take l.one-index l.all) l.copies

abbrev pub invariant-items-loop-one : goal.invariant-items-loop-one
invariant-items-loop-one l = Each (IsItem (number_in l.numbers)) (take l.one-index l.all) l.copies

abbrev pub invariant-accesses-loop-one : goal.invariant-accesses-loop-one
invariant-accesses-loop-one l = Each (IsAccess (number_in l.numbers)) (take l.one-index l.all) l.copies

abbrev pub invariant-links-loop-one : goal.invariant-links-loop-one
invariant-links-loop-one l = Each (IsLink (number_in l.numbers)) (take l.one-index l.all) l.copies

abbrev pub invariant-branches-loop-one : goal.invariant-branches-loop-one
invariant-branches-loop-one l = Each (IsBranch (number_in l.numbers)) (take l.one-index l.all) l.copies

abbrev pub decreases-expr : goal.decreases-expr
decreases-expr l = 4 * goal.size-expr l + 0

abbrev pub decreases-boxed : goal.decreases-boxed
decreases-boxed l = 4 * goal.size-boxed l + 1

abbrev pub decreases-exprs : goal.decreases-exprs
decreases-exprs l = 4 * goal.size-exprs l + 1

abbrev pub decreases-part : goal.decreases-part
decreases-part l = 4 * goal.size-part l + 2

abbrev pub decreases-item : goal.decreases-item
decreases-item l = 4 * goal.size-item l + 2

abbrev pub decreases-access : goal.decreases-access
decreases-access l = 4 * goal.size-access l + 2

abbrev pub decreases-link : goal.decreases-link
decreases-link l = 4 * goal.size-link l + 2

abbrev pub decreases-branch : goal.decreases-branch
decreases-branch l = 4 * goal.size-branch l + 2

abbrev pub decreases-parts : goal.decreases-parts
decreases-parts l = 4 * goal.size-parts l + 3

abbrev pub decreases-items : goal.decreases-items
decreases-items l = 4 * goal.size-items l + 3

abbrev pub decreases-accesses : goal.decreases-accesses
decreases-accesses l = 4 * goal.size-accesses l + 3

abbrev pub decreases-links : goal.decreases-links
decreases-links l = 4 * goal.size-links l + 3

abbrev pub decreases-branches : goal.decreases-branches
decreases-branches l = 4 * goal.size-branches l + 3
