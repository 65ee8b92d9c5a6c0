use Rattle.std.proofs.Common.{◌∙◌, ap, sym}
use Rattle.memchr.proofs.lemmas.ValueLemmas.{IsFirstByte-value}
use Rattle.bstr.specs.Bytes.{not_in}
use Rattle.php_text_calls.specs.Letters.{from_place, blanks}
use Rattle.php_text_calls.proofs.letters.left_trimmed.Goals as goal

pub returns-in-None : goal.returns-in-None
returns-in-None c =
    let t = c.args.text.now in
    ap (from_place t) (sym c.in-None.is ∙ IsFirstByte-value (not_in blanks) t _ c.find_not_byteset.ensures)

pub returns-in-Some : goal.returns-in-Some
returns-in-Some c =
    let t = c.args.text.now in
    c.split_at.ensures.back ∙ ap (from_place t) (sym c.in-Some.is ∙ IsFirstByte-value (not_in blanks) t _ c.find_not_byteset.ensures)
