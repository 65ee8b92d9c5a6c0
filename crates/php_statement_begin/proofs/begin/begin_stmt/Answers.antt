use Rattle.std.proofs.Common.{ap, sym, ◌∙◌}
use Rattle.php_meaning.specs.Statements.{statement}
use Rattle.php_rest.specs.Rest.{rest}
use Rattle.php_statement_steps.specs.Standing.{stands}
use Rattle.php_statement_begin.proofs.Nodes.{stmt-Expr, stmt-If, stmt-While, stmt-Do, stmt-For, stmt-Foreach, stmt-Throw, stmt-Try}
use Rattle.php_statement_begin.proofs.begin.begin_stmt.Goals as goal

pub returns-in_ok-now-in-Expr : goal.returns-in_ok-now-in-Expr
returns-in_ok-now-in-Expr c = λ t w k. c.in_ok-now-in-Expr.ensures t w k ∙ ap (λ y. statement y (stands t c.args.store.now c.args.scene.now w) (rest t c.args.stack.now k)) (sym (stmt-Expr _ _ _ c.in-Expr.is t))

pub returns-in_ok-now-in-If : goal.returns-in_ok-now-in-If
returns-in_ok-now-in-If c = λ t w k. c.in_ok-now-in-If.ensures t w k ∙ ap (λ y. statement y (stands t c.args.store.now c.args.scene.now w) (rest t c.args.stack.now k)) (sym (stmt-If _ _ _ _ c.in-If.is t))

pub returns-in-While : goal.returns-in-While
returns-in-While c = λ t w k. c.loop_at.ensures c.args.stack.now t w k ∙ ap (λ y. statement y (stands t c.args.store.now c.args.scene.now w) (rest t c.args.stack.now k)) (sym (stmt-While _ _ _ _ c.in-While.is t))

pub returns-in-Do : goal.returns-in-Do
returns-in-Do c = λ t w k. c.loop_at-in-Do.ensures c.args.stack.now t w k ∙ ap (λ y. statement y (stands t c.args.store.now c.args.scene.now w) (rest t c.args.stack.now k)) (sym (stmt-Do _ _ _ _ c.in-Do.is t))

pub returns-in_ok-now-in-For : goal.returns-in_ok-now-in-For
returns-in_ok-now-in-For c = λ t w k. c.in_ok-now-in-For.ensures t w k ∙ ap (λ y. statement y (stands t c.args.store.now c.args.scene.now w) (rest t c.args.stack.now k)) (sym (stmt-For _ _ _ _ _ _ c.in-For.is t))

pub returns-in_ok-now-in-Foreach : goal.returns-in_ok-now-in-Foreach
returns-in_ok-now-in-Foreach c = λ t w k. c.in_ok-now-in-Foreach.ensures t w k ∙ ap (λ y. statement y (stands t c.args.store.now c.args.scene.now w) (rest t c.args.stack.now k)) (sym (stmt-Foreach _ _ _ _ _ _ c.in-Foreach.is t))

pub returns-in_ok-now-in-Throw : goal.returns-in_ok-now-in-Throw
returns-in_ok-now-in-Throw c = λ t w k. c.in_ok-now-in-Throw.ensures t w k ∙ ap (λ y. statement y (stands t c.args.store.now c.args.scene.now w) (rest t c.args.stack.now k)) (sym (stmt-Throw _ _ _ c.in-Throw.is t))

pub returns-in-Try : goal.returns-in-Try
returns-in-Try c = λ t w k. c.try_at.ensures c.args.stack.now t w k ∙ ap (λ y. statement y (stands t c.args.store.now c.args.scene.now w) (rest t c.args.stack.now k)) (sym (stmt-Try _ _ _ _ c.in-Try.is t))
