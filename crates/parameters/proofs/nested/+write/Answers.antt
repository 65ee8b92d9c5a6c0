use Rattle.std.proofs.Common.{◌∙◌, ap}
use Rattle.php_values.specs.Data.{data_of}
use Rattle.parameters.specs.Nested.{written}
use Rattle.parameters.proofs.Writes.{put_back, next_written, list_made, data-null}
use Rattle.parameters.proofs.nested.+write.Goals as goal

pub written-returns : goal.written-returns
written-returns t c =
    list_made (data_of c.args.value) (data_of c.args.old) c.in-Some.step.now c.args.path.now c.in-Some.more.now c.in_ok-array.array _ c.in-Some.ensures.cases.0 c.in_ok-array.ensures c.in_ok-write_shared.ensures

pub write_at-returns : goal.write_at-returns
write_at-returns t c =
    put_back c.replace.result c.args.key.now c.in_ok-clone.field-0 c.in_ok-new.new (written (data_of c.args.value) c.args.more.now) c.unwrap_or-old.result c.args.map.now c.replace.new.self c.put.new.map
    c.replace.ensures.found c.replace.ensures.pairs c.replace.ensures.next c.unwrap_or-old.ensures c.in_ok-new.ensures c.in_ok-clone.ensures.cases c.in_ok-put.ensures

pub write_next-returns-in-Ok : goal.write_next-returns-in-Ok
write_next-returns-in-Ok t c =
    next_written c.in_ok-new.new _ c.args.map.now c.append.new.self (λ e. cc (c.in-Ok.ensures.spent.1 e)) c.in-Ok.ensures.pairs c.in-Ok.ensures.next (c.in_ok-new.ensures ∙ ap (written (data_of c.args.value) c.args.more.now) data-null)
