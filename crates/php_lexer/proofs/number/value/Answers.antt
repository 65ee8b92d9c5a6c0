use Rattle.std.proofs.Common.{◌≡◌, ◌+◌, ◌*◌, get_or, Some, None, sym, ◌∙◌}
use Rattle.std.specs.Char.{digit_value}
use Rattle.php_lexer.specs.Numbers.{within}
use Rattle.php_lexer.specs.declared.number.TheConstants.{MAX_INT}
use Rattle.php_lexer.proofs.NumberLemmas.{value_step, value_over, within_some}
use Rattle.php_lexer.proofs.number.value.Goals as goal

pub returns-in_err-number : goal.returns-in_err-number
returns-in_err-number c =
    let none : within MAX_INT (c.loop-b.number * c.args.base + digit_value (get_or c.args.digits.now c.loop-b.b-index 0)) ≡ None = sym c.in_err-number.ensures in
    let over = value_over MAX_INT c.args.base c.loop-b.number c.loop-b.b-index c.args.digits.now c.loop-b-test.true c.requires c.loop-b.invariant.0 none in
    rw over c.from_residual.ensures

pub loop-b-preserved : goal.loop-b-preserved
loop-b-preserved c =
    let some : within MAX_INT (c.loop-b.number * c.args.base + digit_value (get_or c.args.digits.now c.loop-b.b-index 0)) ≡ Some c.in_ok-number.number = sym c.in_ok-number.ensures in
    let is = within_some _ _ _ some in
    (rw is.0 (value_step c.args.base c.loop-b.number c.loop-b.b-index c.args.digits.now c.loop-b-test.true ∙ c.loop-b.invariant.0), is.1)
