use Rattle.std.proofs.Common.{◌∙◌, ap, sym, ◌&&◌, ◌==◌, length}
use Rattle.php_values.specs.Convert.{is_numeric, begins_number, after_number, unsigned_part}
use Rattle.php_values.proofs.number.is_numeric.Goals as goal

pub returns-then-begins_number : goal.returns-then-begins_number
unfolding is_numeric
returns-then-begins_number c =
    let u = c.unsigned_part-unsigned.ensures in
    let there = ap begins_number (sym u) ∙ sym c.begins_number.ensures ∙ c.if-begins_number.true in
    let whole = c.is_empty.ensures ∙ ap (λ l. length l == 0) (c.after_number.ensures ∙ ap after_number u) in
    whole ∙ ap (λ b. b && (length (after_number (unsigned_part c.args.text.now)) == 0)) (sym there)

pub returns-else-begins_number : goal.returns-else-begins_number
unfolding is_numeric
returns-else-begins_number c =
    let u = c.unsigned_part-unsigned.ensures in
    let there = ap begins_number (sym u) ∙ sym c.begins_number.ensures ∙ c.if-begins_number.false in
    c.if-begins_number.false ∙ ap (λ b. b && (length (after_number (unsigned_part c.args.text.now)) == 0)) (sym there)
