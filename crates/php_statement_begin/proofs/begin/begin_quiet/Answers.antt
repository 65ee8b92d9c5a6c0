use Rattle.std.proofs.Common.{ap, sym, ◌∙◌}
use Rattle.php_meaning.specs.Statements.{statement, statements}
use Rattle.php_rest.specs.Named.{block_named}
use Rattle.php_rest.specs.Rest.{rest}
use Rattle.php_statement_begin.proofs.Nodes.{stmt-Block}
use Rattle.php_statement_begin.proofs.begin.begin_quiet.Goals as goal

pub returns-in-Block : goal.returns-in-Block
returns-in-Block c = λ stack t w k. ap (λ b. statements (block_named t b) w (rest t stack k)) c.new.ensures ∙ ap (λ y. statement y w (rest t stack k)) (sym (stmt-Block _ _ _ c.in-Block.is t))
