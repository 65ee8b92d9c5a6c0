use Rattle.std.proofs.Common.{ℕ, List, Bor, ap}
use Rattle.std.proofs.lemmas.Result.{err_from_is_err_and}
use Rattle.php_lexer.proofs.TokenLaws.{fault_none}
use Rattle.php_lexer.proofs.entry.lex.Goals as goal

pub returns-in_err-read-clause-no_tokens : goal.returns-in_err-read-clause-no_tokens
returns-in_err-read-clause-no_tokens c =
    let p = err_from_is_err_and c.from_residual.result c.from_residual.ensures.1 in
    rw (p.1, p.2) (fault_none c.args.text.now c.start.result.text.now c.start.result.at _ (ap (λ (x : Bor (List ℕ)). x.now) c.start.ensures.text) c.start.ensures.at c.in_err-read.ensures.fault)
