use Rattle.std.proofs.Common.{sym, ◌∙◌, lit≤}
use Rattle.php_lexer.specs.declared.number.TheConstants.{MAX_INT}
use Rattle.php_lexer.proofs.NumberLemmas.{within_few}
use Rattle.php_lexer.proofs.piece.small_value.Goals as goal

pub unreachable-requires : goal.unreachable-requires
unreachable-requires c =
    within_few MAX_INT c.args.base c.args.digits.now c.requires.base.1 c.requires.few (lit≤ tt) (sym c.value.ensures ∙ c.in-None.is)
