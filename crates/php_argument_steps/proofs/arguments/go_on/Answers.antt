use Rattle.std.proofs.Common.{rules, sym, ◌∙◌}
use Rattle.php_rest.specs.Tails.{left_in}
use Rattle.php_rest.specs.Views.{callee_named}
use Rattle.php_state.specs.Views.{world_of}
use Rattle.php_argument_steps.proofs.Handing.{var_handed, other_read}
use Rattle.php_argument_steps.proofs.arguments.go_on.Goals as goal

pub all-preserved : goal.all-preserved
all-preserved c = (
  (λ t k.
      var_handed t (callee_named t c.args.callee) c.all.so_far c.push.new.self (left_in c.all.left) (left_in c.in-Some.behind) c.in-Some.first.now c.in-Some-variable_of.number _ c.in_ok-argument-in-Some-variable_of.argument _ (world_of t c.all.state) _
      (search (rules, c.in-Some.ensures)) (sym c.in-Some-variable_of.is ∙ c.variable_of.ensures) c.in_ok-push-in-Some-variable_of.ensures.ok c.len.ensures (c.in_ok-argument-in-Some-variable_of.ensures t (world_of t c.all.state))
      ∙ c.all.invariant.0 t k),
  c.all.invariant.1,
)

pub returns-in-None-clause-law : goal.returns-in-None-clause-law
returns-in-None-clause-law c = λ t k.
    other_read t c.args.callee c.all.so_far (left_in c.all.left) c.in-Some.behind c.in-Some.first.now c.all.stack _ (world_of t c.all.state) k
    (search (rules, c.in-Some.ensures)) (sym c.in-None.is ∙ c.variable_of.ensures) c.in_ok-push-in-None.ensures.ok
    ∙ c.all.invariant.0 t k
