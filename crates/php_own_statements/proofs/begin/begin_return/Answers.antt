use Rattle.std.proofs.Common.{ap, sym, ◌∙◌, None}
use Rattle.php_tree.specs.ExpressionOf.{expression_or_none}
use Rattle.php_tree.specs.Renamed.{renamed_option}
use Rattle.php_tree.specs.Statements as tree
use Rattle.php_meaning.specs.Course.{Ticks}
use Rattle.php_meaning.specs.Statements.{statement, return_with}
use Rattle.php_rest.specs.Rest.{rest}
use Rattle.php_statement_steps.specs.Standing.{stands}
use Rattle.php_own_statements.proofs.begin.begin_return.Goals as goal

pub returns-in_ok-now-in-None : goal.returns-in_ok-now-in-None
returns-in_ok-now-in-None c = λ t w k.
    ap (λ d. Ticks (stands t c.args.store.now c.args.scene.now w) d) (c.in_ok-now-in-None.ensures c.args.stack.now t w k ∙ ap (λ v. return_with None v (rest t c.args.stack.now k)) (c.stand_at.ensures t c.args.store.now w))
    ∙ ap (λ v. statement (tree.return (renamed_option t.name (expression_or_none v)) c.args.line) (stands t c.args.store.now c.args.scene.now w) (rest t c.args.stack.now k)) (sym c.in-None.is)
