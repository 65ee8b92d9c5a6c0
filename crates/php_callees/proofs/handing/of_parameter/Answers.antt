use Rattle.std.proofs.Common.{ap, sym, ◌∙◌, if◌then◌else◌}
use Rattle.php_meaning.specs.Calls.{by_value, by_cell}
use Rattle.php_callees.proofs.Handed.{handed_at}
use Rattle.php_callees.proofs.handing.of_parameter.Goals as goal

pub returns-then-params-number : goal.returns-then-params-number
returns-then-params-number c = λ t.
    sym (handed_at t c.args.params.now c.args.number c.index-params-number.result c.if-number-params.false c.index-params-number.is ∙ ap (λ p. if p.by_reference then by_cell else by_value) c.index-params-number.is ∙ ap (λ b. if b then by_cell else by_value) c.if-params-number.true)

pub returns-else-params-number : goal.returns-else-params-number
returns-else-params-number c = λ t.
    sym (handed_at t c.args.params.now c.args.number c.index-params-number.result c.if-number-params.false c.index-params-number.is ∙ ap (λ p. if p.by_reference then by_cell else by_value) c.index-params-number.is ∙ ap (λ b. if b then by_cell else by_value) c.if-params-number.false)
