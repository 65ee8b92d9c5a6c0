use Rattle.std.proofs.Common.{rules, ap, ◌∙◌}
use Rattle.php_values.specs.Data.{data_of}
use Rattle.php_meaning.specs.Statements.{default_of}
use Rattle.php_rest.specs.Named.{cases_named}
use Rattle.php_rest.specs.Rest.{rest}
use Rattle.php_rest.specs.Tails.{left_in}
use Rattle.php_own_statements.proofs.Arms.{cases-behind, cases-none, case-first-of}
use Rattle.php_own_statements.proofs.switch.begin_cases.Goals as goal

pub arms-preserved : goal.arms-preserved
arms-preserved c = λ t w k.
    cases-behind (left_in c.arms.arms) c.in-Some.first.now _ c.in-Some.more (search (rules, c.in-Some.ensures)) c.in-Default.is t _ _ w (rest t c.arms.stack k)
    ∙ c.arms.invariant t w k

pub returns-in-Case : goal.returns-in-Case
returns-in-Case c = λ t w k.
    case-first-of (left_in c.arms.arms) c.in-Some.first.now _ _ _ c.in-Some.more _ _ _ _ (search (rules, c.in-Some.ensures)) c.in-Case.is c.get.ensures c.in_ok-push-in-Case.ensures.ok t w k
    ∙ c.arms.invariant t w k

pub returns : goal.returns
returns c = λ t w k.
    c.in_ok-now.ensures t w k
    ∙ ap (λ l. default_of (cases_named t l) w (rest t c.arms.stack k)) c.new.ensures
    ∙ cases-none (left_in c.arms.arms) (search (rules, c.in_default.ensures)) t (default_of (cases_named t c.args.all.now)) (data_of c.args.value) w (rest t c.arms.stack k)
    ∙ c.arms.invariant t w k
