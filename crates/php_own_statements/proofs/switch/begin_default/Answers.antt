use Rattle.std.proofs.Common.{rules, ◌∙◌}
use Rattle.php_rest.specs.Rest.{rest}
use Rattle.php_rest.specs.Tails.{left_in}
use Rattle.php_own_statements.proofs.Arms.{default-behind, default-first, default-none}
use Rattle.php_own_statements.proofs.switch.begin_default.Goals as goal

pub arms-preserved : goal.arms-preserved
arms-preserved c = λ t w k.
    default-behind (left_in c.arms.arms) c.in-Some.first.now _ _ c.in-Some.more (search (rules, c.in-Some.ensures)) c.in-Case.is t w (rest t c.arms.stack k)
    ∙ c.arms.invariant t w k

pub returns-in-Default : goal.returns-in-Default
returns-in-Default c = λ t w k.
    default-first (left_in c.arms.arms) c.in-Some.first.now _ c.in-Some.more c.new.result _ _ (search (rules, c.in-Some.ensures)) c.in-Default.is c.new.ensures c.in_ok-push-in-Default.ensures.ok t w k
    ∙ c.arms.invariant t w k

pub returns : goal.returns
returns c = λ t w k.
    default-none (left_in c.arms.arms) (search (rules, c.in_default.ensures)) t w (rest t c.arms.stack k)
    ∙ c.arms.invariant t w k
