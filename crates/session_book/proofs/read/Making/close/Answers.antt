use Rattle.std.proofs.Common.{◌∙◌, ap, sym, arith}
use Rattle.order_map.specs.Arrays.{pairs_of, next_of, look}
use Rattle.order_map.specs.Keys.{next_after}
use Rattle.php_values.specs.declared.value.Value.TheVariants as kind
use Rattle.php_values.specs.Data.{data_of, data_pairs, array, array_of}
use Rattle.php_values.specs.Arithmetic.{put_last}
use Rattle.php_values.proofs.Datas.{data-List}
use Rattle.session_book.proofs.Lists.{none-there}
use Rattle.session_book.proofs.Making.{outer-fits, list-closed, all-closed}
use Rattle.session_book.proofs.read.Making.close.Goals as goal

pub returns-in_default-clause-taken : goal.returns-in_default-clause-taken
returns-in_default-clause-taken c =
    all-closed c.args.self.now (none-there c.args.self.now.above.items (omega (arith, c.args.self.now.above.ok, c.in_default.ensures.cases.0)))

pub add-requires-clause-free : goal.add-requires-clause-free
add-requires-clause-free c =
    let f = outer-fits c.args.self.now c.in-Some.field-0 c.pop.new.self.items c.in-Some.ensures.items c.requires in
    ap (λ m. look c.in-Some.field-0.key (pairs_of m)) c.replace-inner.ensures.after ∙ f.free

pub add-requires-clause-below : goal.add-requires-clause-below
add-requires-clause-below c =
    let f = outer-fits c.args.self.now c.in-Some.field-0 c.pop.new.self.items c.in-Some.ensures.items c.requires in
    ap (λ m. next_after c.in-Some.field-0.key (next_of m)) c.replace-inner.ensures.after ∙ f.below ∙ sym (ap next_of c.replace-inner.ensures.after)

pub returns-clause-taken : goal.returns-clause-taken
returns-clause-taken c =
    let key = c.in-Some.field-0.key in
    let d = data_of (kind.List c.in_ok-new.field-0) in
    list-closed c.args.self.now (record { above = c.pop.new.self; map = c.add.new.map }) c.in-Some.field-0 d c.in-Some.ensures.items
    (data-List c.in_ok-new.field-0 ∙ ap (λ m. array (array_of m)) (c.in_ok-new.ensures ∙ c.replace-inner.ensures.value))
    (c.in_ok-add.ensures.pairs ∙ ap (λ m. put_last key d (data_pairs (pairs_of m))) c.replace-inner.ensures.after)
    (c.in_ok-add.ensures.next ∙ ap next_of c.replace-inner.ensures.after)
