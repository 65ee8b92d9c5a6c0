use Rattle.std.proofs.Common.{◌∙◌, sym, refl}
use Rattle.php_values.specs.Data.{data_of}
use Rattle.php_values.proofs.Datas.{added, kept-there, copied_some, copied_none}
use Rattle.parameters.proofs.cookies.add_if_missing.Goals as goal

pub returns-then-is_some : goal.returns-then-is_some
returns-then-is_some c =
    kept-there c.args.key (data_of c.args.value) c.args.map.now (copied_some c.get.result _ (sym c.is_some.ensures ∙ c.if-is_some.true) c.get.ensures)

pub returns : goal.returns
returns c =
    added c.args.key c.args.key (data_of c.args.value) c.args.value c.args.map.now c.set.new.self refl refl
    (copied_none c.get.result _ (sym c.is_some.ensures ∙ c.if-is_some.false) c.get.ensures) c.in_ok-set.ensures.pairs c.in_ok-set.ensures.next
