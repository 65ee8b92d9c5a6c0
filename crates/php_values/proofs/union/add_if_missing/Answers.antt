use Rattle.std.proofs.Common.{◌∙◌, sym}
use Rattle.php_values.specs.Data.{data_of}
use Rattle.php_values.proofs.Datas.{added, kept-there, copied_some, copied_none}
use Rattle.php_values.proofs.union.add_if_missing.Goals as goal

pub returns-then-is_some : goal.returns-then-is_some
returns-then-is_some c =
    kept-there c.args.key.now (data_of c.args.value.now) c.args.map.now (copied_some c.get.result _ (sym c.is_some.ensures ∙ c.if-is_some.true) c.get.ensures)

pub returns : goal.returns
returns c =
    added c.args.key.now c.in_ok-key.key (data_of c.args.value.now) c.in_ok-value.value c.args.map.now c.set.new.self c.in_ok-key.ensures.cases c.in_ok-value.ensures.cases
    (copied_none c.get.result _ (sym c.is_some.ensures ∙ c.if-is_some.false) c.get.ensures) c.in_ok-_none.ensures.pairs c.in_ok-_none.ensures.next
