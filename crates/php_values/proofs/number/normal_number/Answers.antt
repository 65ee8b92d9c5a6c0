use Rattle.std.proofs.Common.{◌∙◌, ap, sym, Some, pos, if◌then◌else◌}
use Rattle.php_values.specs.Convert.{normal_number, normal_from, begins, is_minus, after_one}
use Rattle.php_values.proofs.number.normal_number.Goals as goal

pub returns-then-zero : goal.returns-then-zero
unfolding normal_number
returns-then-zero c =
    let t = c.args.text.now in
    ap (λ b. if b then Some (pos 0) else normal_from (begins is_minus t) (after_one is_minus t)) (sym c.if-zero.true ∙ c.is_zero-zero.ensures)

pub returns : goal.returns
unfolding normal_number
returns c =
    let t = c.args.text.now in
    c.normal_from.ensures ∙ (λ i. normal_from (c.begins_minus-negative.ensures i) (c.after_minus-digits.ensures i))
    ∙ ap (λ b. if b then Some (pos 0) else normal_from (begins is_minus t) (after_one is_minus t)) (sym c.if-zero.false ∙ c.is_zero-zero.ensures)
