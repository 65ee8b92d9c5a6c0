use Rattle.std.proofs.Common.{◌≡◌, length, nat_eq, false, sym, ◌∙◌}
use Rattle.php_lexer.specs.Until.{until}
use Rattle.php_lexer.specs.declared.until.Stop.TheVariants.{Tag}
use Rattle.php_lexer.proofs.UntilLemmas.{until_zero, not_zero}
use Rattle.php_lexer.proofs.code.outer_front.Goals as goal

pub tag-requires-clause-here : goal.tag-requires-clause-here
tag-requires-clause-here c =
    let none : until Tag c.args.z.now ≡ 0 = sym c.until-before.ensures.value ∙ c.if-before-ne0.false in
    let some : nat_eq (length c.args.z.now) 0 ≡ false = sym c.is_empty.ensures ∙ c.if-is_empty.false in
    until_zero Tag c.args.z.now none (not_zero (length c.args.z.now) some)
