use denote.Param.Weighed.{most}
use Rattle.std.proofs.Common.{◌≡◌, ℕ, ◌+◌, ◌*◌, ◌<◌, ◌≤◌, length, arith}
use Rattle.php_tree.specs.declared.expr.ChainOp.{ChainOp}
use Rattle.php_tree.specs.declared.expr.QuotePart.{QuotePart}
use Rattle.php_tree.specs.declared.expr.Item.{Item}
use Rattle.php_tree.specs.declared.expr.Branch.{Branch}
use Rattle.php_tree.specs.declared.expr.Access.{Access}
use Rattle.php_tree.specs.declared.expr.Expr.{Expr}
use Rattle.php_tree.specs.declared.expr.Expr.TheShapes as shape
use Rattle.php_tree.proofs.expr.Expr.TheLaws.{the_size}
use Rattle.php_renumber.specs.Numbers.{number_in}
use Rattle.php_renumber.specs.Copies.{IsPart, IsItem, IsAccess, IsLink, IsBranch}
use Rattle.php_renumber.proofs.Each.{each_begins, each_goes_on, each_ends}
use Rattle.php_renumber.proofs.Lists.{IsExpr, exprs_are, parts_are, items_are, accesses_are, links_are, branches_are}
use Rattle.php_renumber.proofs.Sizes.{within}
use Rattle.php_renumber.proofs.expression.+expressions.Goals as goal

pub exprs-loop-e-init : goal.exprs-loop-e-init
exprs-loop-e-init t c = each_begins (IsExpr (number_in c.args.numbers.now)) c.args.es.now c.new-copies.result c.new-copies.ensures

pub exprs-loop-e-preserved : goal.exprs-loop-e-preserved
exprs-loop-e-preserved t c = each_goes_on (IsExpr (number_in c.args.numbers.now)) c.args.es.now c.loop-e.e-index c.e-item.result c.loop-e.copies c.in_ok-copy.copy c.push.new.self c.loop-e-test.true c.e-item.is c.loop-e.invariant c.in_ok-copy.ensures c.in_ok-push.ensures.ok

pub exprs-returns : goal.exprs-returns
exprs-returns t c = exprs_are (number_in c.args.numbers.now) c.args.es.now c.loop-e.copies (each_ends (IsExpr (number_in c.args.numbers.now)) c.args.es.now c.loop-e.e-index c.loop-e.copies c.loop-e-test.false c.loop-e.invariant)

pub parts-loop-one-init : goal.parts-loop-one-init
parts-loop-one-init t c = each_begins (IsPart (number_in c.args.numbers.now)) c.args.all.now c.new-copies.result c.new-copies.ensures

pub parts-part-requires : goal.parts-part-requires
parts-part-requires t c =
    let h = within (λ (x : QuotePart Expr). shape.weighed-Expr-Quote-0-at-7.weight Expr the_size x) c.args.all.now c.loop-one.one-index c.one-item.result c.loop-one-test.true c.one-item.is in
    let d : 4 * most (λ (x : QuotePart Expr). shape.weighed-Expr-Quote-0-at-7.weight Expr the_size x) c.args.all.now + 3 ≡ t = c.decreases in
    (omega (arith, h, d), tt)

pub parts-loop-one-preserved : goal.parts-loop-one-preserved
parts-loop-one-preserved t c = each_goes_on (IsPart (number_in c.args.numbers.now)) c.args.all.now c.loop-one.one-index c.one-item.result c.loop-one.copies c.in_ok-copy.copy c.push.new.self c.loop-one-test.true c.one-item.is c.loop-one.invariant c.in_ok-copy.ensures c.in_ok-push.ensures.ok

pub parts-returns : goal.parts-returns
parts-returns t c = parts_are (number_in c.args.numbers.now) c.args.all.now c.loop-one.copies (each_ends (IsPart (number_in c.args.numbers.now)) c.args.all.now c.loop-one.one-index c.loop-one.copies c.loop-one-test.false c.loop-one.invariant)

pub items-loop-one-init : goal.items-loop-one-init
items-loop-one-init t c = each_begins (IsItem (number_in c.args.numbers.now)) c.args.all.now c.new-copies.result c.new-copies.ensures

pub items-item-requires : goal.items-item-requires
items-item-requires t c =
    let h = within (λ (x : Item Expr). shape.weighed-Expr-Array-0-at-3.weight Expr the_size x) c.args.all.now c.loop-one.one-index c.one-item.result c.loop-one-test.true c.one-item.is in
    let d : 4 * most (λ (x : Item Expr). shape.weighed-Expr-Array-0-at-3.weight Expr the_size x) c.args.all.now + 3 ≡ t = c.decreases in
    (omega (arith, h, d), tt)

pub items-loop-one-preserved : goal.items-loop-one-preserved
items-loop-one-preserved t c = each_goes_on (IsItem (number_in c.args.numbers.now)) c.args.all.now c.loop-one.one-index c.one-item.result c.loop-one.copies c.in_ok-copy.copy c.push.new.self c.loop-one-test.true c.one-item.is c.loop-one.invariant c.in_ok-copy.ensures c.in_ok-push.ensures.ok

pub items-returns : goal.items-returns
items-returns t c = items_are (number_in c.args.numbers.now) c.args.all.now c.loop-one.copies (each_ends (IsItem (number_in c.args.numbers.now)) c.args.all.now c.loop-one.one-index c.loop-one.copies c.loop-one-test.false c.loop-one.invariant)

pub accesses-loop-one-init : goal.accesses-loop-one-init
accesses-loop-one-init t c = each_begins (IsAccess (number_in c.args.numbers.now)) c.args.all.now c.new-copies.result c.new-copies.ensures

pub accesses-access-requires : goal.accesses-access-requires
accesses-access-requires t c =
    let h = within (λ (x : Access Expr). shape.weighed-Expr-Post-1-at-5.weight Expr the_size x) c.args.all.now c.loop-one.one-index c.one-item.result c.loop-one-test.true c.one-item.is in
    let d : 4 * most (λ (x : Access Expr). shape.weighed-Expr-Post-1-at-5.weight Expr the_size x) c.args.all.now + 3 ≡ t = c.decreases in
    (omega (arith, h, d), tt)

pub accesses-loop-one-preserved : goal.accesses-loop-one-preserved
accesses-loop-one-preserved t c = each_goes_on (IsAccess (number_in c.args.numbers.now)) c.args.all.now c.loop-one.one-index c.one-item.result c.loop-one.copies c.in_ok-copy.copy c.push.new.self c.loop-one-test.true c.one-item.is c.loop-one.invariant c.in_ok-copy.ensures c.in_ok-push.ensures.ok

pub accesses-returns : goal.accesses-returns
accesses-returns t c = accesses_are (number_in c.args.numbers.now) c.args.all.now c.loop-one.copies (each_ends (IsAccess (number_in c.args.numbers.now)) c.args.all.now c.loop-one.one-index c.loop-one.copies c.loop-one-test.false c.loop-one.invariant)

pub links-loop-one-init : goal.links-loop-one-init
links-loop-one-init t c = each_begins (IsLink (number_in c.args.numbers.now)) c.args.all.now c.new-copies.result c.new-copies.ensures

pub links-link-requires : goal.links-link-requires
links-link-requires t c =
    let h = within (λ (x : ChainOp × Expr). shape.weighed-Expr-Chain-1-at-2.weight Expr the_size x) c.args.all.now c.loop-one.one-index c.one-item.result c.loop-one-test.true c.one-item.is in
    let d : 4 * most (λ (x : ChainOp × Expr). shape.weighed-Expr-Chain-1-at-2.weight Expr the_size x) c.args.all.now + 3 ≡ t = c.decreases in
    (omega (arith, h, d), tt)

pub links-loop-one-preserved : goal.links-loop-one-preserved
links-loop-one-preserved t c = each_goes_on (IsLink (number_in c.args.numbers.now)) c.args.all.now c.loop-one.one-index c.one-item.result c.loop-one.copies c.in_ok-copy.copy c.push.new.self c.loop-one-test.true c.one-item.is c.loop-one.invariant c.in_ok-copy.ensures c.in_ok-push.ensures.ok

pub links-returns : goal.links-returns
links-returns t c = links_are (number_in c.args.numbers.now) c.args.all.now c.loop-one.copies (each_ends (IsLink (number_in c.args.numbers.now)) c.args.all.now c.loop-one.one-index c.loop-one.copies c.loop-one-test.false c.loop-one.invariant)

pub branches-loop-one-init : goal.branches-loop-one-init
branches-loop-one-init t c = each_begins (IsBranch (number_in c.args.numbers.now)) c.args.all.now c.new-copies.result c.new-copies.ensures

pub branches-branch-alloc-requires : goal.branches-branch-alloc-requires
branches-branch-alloc-requires t c =
    let h = within (λ (x : Branch Expr). shape.weighed-Expr-Choice-1-at-3.weight Expr the_size x) c.args.all.now c.loop-one.one-index c.one-item.result c.loop-one-test.true c.one-item.is in
    let d : 4 * most (λ (x : Branch Expr). shape.weighed-Expr-Choice-1-at-3.weight Expr the_size x) c.args.all.now + 3 ≡ t = c.decreases in
    (omega (arith, h, d), tt)

pub branches-loop-one-preserved : goal.branches-loop-one-preserved
branches-loop-one-preserved t c = each_goes_on (IsBranch (number_in c.args.numbers.now)) c.args.all.now c.loop-one.one-index c.one-item.result c.loop-one.copies c.in_ok-copy.copy c.push.new.self c.loop-one-test.true c.one-item.is c.loop-one.invariant c.in_ok-copy.ensures c.in_ok-push.ensures.ok

pub branches-returns : goal.branches-returns
branches-returns t c = branches_are (number_in c.args.numbers.now) c.args.all.now c.loop-one.copies (each_ends (IsBranch (number_in c.args.numbers.now)) c.args.all.now c.loop-one.one-index c.loop-one.copies c.loop-one-test.false c.loop-one.invariant)
