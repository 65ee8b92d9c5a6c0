use Rattle.std.proofs.Common.{◌∙◌, ap}
use Rattle.php_values.specs.Convert.{leading_number, number_by, begins_number, has_float_form, signed, digits_from, digits_of}
use Rattle.php_values.proofs.number.leading_number.Goals as goal

pub returns : goal.returns
unfolding leading_number
returns c =
    let u = c.unsigned_part-unsigned.ensures in
    let there = c.begins_number-there.ensures ∙ ap begins_number u in
    let form = c.has_float_form-form.ensures ∙ ap has_float_form u in
    let digits = c.leading_digits-digits.ensures ∙ ap digits_of u in
    let value = c.signed_decimal-value.ensures ∙ (λ i. signed (c.is_negative.ensures i) (digits_from 0 (digits i))) in
    c.number_by.ensures ∙ (λ i. number_by (there i) (form i) (value i))
