use Rattle.std.proofs.Common.{◌∙◌, ap, sym}
use Rattle.memchr.proofs.lemmas.ValueLemmas.{IsLastByte-value}
use Rattle.bstr.specs.Bytes.{not_in}
use Rattle.php_text_calls.specs.Letters.{up_to_place, blanks}
use Rattle.php_text_calls.proofs.letters.right_trimmed.Goals as goal

pub returns-in-None : goal.returns-in-None
returns-in-None c =
    let t = c.args.text.now in
    ap (up_to_place t) (sym c.in-None.is ∙ IsLastByte-value (not_in blanks) t _ c.rfind_not_byteset.ensures)

pub returns-in-Some : goal.returns-in-Some
returns-in-Some c =
    let t = c.args.text.now in
    c.split_at.ensures.front ∙ ap (up_to_place t) (sym c.in-Some.is ∙ IsLastByte-value (not_in blanks) t _ c.rfind_not_byteset.ensures)
