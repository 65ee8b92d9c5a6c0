use Rattle.std.proofs.Common.{◌+◌, ◌≤◌, arith}
use Rattle.php_tree.specs.ExpressionOf.{expression_of, links_of, branches_of}
use Rattle.php_tree.specs.Height.{height, links_height, branches_height}
use Rattle.php_values.specs.Data.{data_of}
use Rattle.php_fixed.proofs.Evaluations.{at-Constant, at-Array, at-Chain, at-Choice, link-given, link-failed}
use Rattle.php_fixed.proofs.Heights.{links-below, branches-below, link-within}
use Rattle.php_fixed.proofs.value.+fixed.Goals as goal

pub chain-with_link-requires : goal.chain-with_link-requires
chain-with_link-requires t c =
    let f : height (expression_of c.link-item.result.1) ≤ links_height (links_of c.args.links.now) = link-within c.args.links.now c.loop-link.link-index c.link-item.result c.loop-link-test.true c.link-item.is in
    grind (arith, f)

pub fixed-chain-requires : goal.fixed-chain-requires
fixed-chain-requires t c =
    let f : links_height (links_of c.as_slice-in-Gives.result.now) + 1 ≤ height (expression_of c.args.e.now) = links-below c.args.e.now _ _ c.as_slice-in-Gives.result.now _ c.in-Chain.is c.as_slice-in-Gives.ensures in
    grind (arith, f)

pub fixed-choice-requires : goal.fixed-choice-requires
fixed-choice-requires t c =
    let f : branches_height (branches_of c.as_slice-in-Gives-part.result.now) + 1 ≤ height (expression_of c.args.e.now) = branches-below c.args.e.now _ _ c.as_slice-in-Gives-part.result.now _ c.in-Choice.is c.as_slice-in-Gives-part.ensures in
    grind (arith, f)

pub fixed-returns-in_ok-all-in-Constant : goal.fixed-returns-in_ok-all-in-Constant
fixed-returns-in_ok-all-in-Constant t c = at-Constant _ _ _ _ _ _ _ c.in-Constant.is c.as_slice-in-Constant.ensures c.in_ok-all-in-Constant.ensures

pub fixed-returns-in_ok-all-in-Array : goal.fixed-returns-in_ok-all-in-Array
fixed-returns-in_ok-all-in-Array t c = at-Array _ _ _ _ _ _ _ c.in-Array.is c.as_slice-in-Array.ensures c.in_ok-all-in-Array.ensures

pub fixed-returns-in_ok-all-in-Gives : goal.fixed-returns-in_ok-all-in-Gives
fixed-returns-in_ok-all-in-Gives t c = at-Chain _ _ _ _ _ _ _ _ _ _ _ c.in-Chain.is c.get.ensures c.as_slice-in-Gives.ensures c.in-Gives.is c.in_ok-part-in-Chain.ensures c.in_ok-all-in-Gives.ensures

pub fixed-returns-in_ok-all-in-Gives-part : goal.fixed-returns-in_ok-all-in-Gives-part
fixed-returns-in_ok-all-in-Gives-part t c = at-Choice _ _ _ _ _ _ _ _ _ _ _ c.in-Choice.is c.get-in-Choice.ensures c.as_slice-in-Gives-part.ensures c.in-Gives-part.is c.in_ok-part-in-Choice.ensures c.in_ok-all-in-Gives-part.ensures

pub with_link-returns-in-Gives : goal.with_link-returns-in-Gives
with_link-returns-in-Gives t c = link-given _ _ c.args.link.now (data_of c.args.left) _ _ _ _ c.decided.ensures c.in_default.is c.in-Gives.is c.in_ok-part.ensures c.in_ok-all-in-Gives.ensures

pub with_link-returns : goal.with_link-returns
with_link-returns t c = link-failed _ _ c.args.link.now (data_of c.args.left) _ _ _ c.decided.ensures c.in_default.is c.in-Fails.is c.in_ok-part.ensures
