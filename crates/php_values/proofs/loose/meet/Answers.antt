use Rattle.std.proofs.Common.{◌∙◌, sym, ap}
use Rattle.php_values.specs.Data.{data_of}
use Rattle.php_values.specs.Looking.{arrays_seen, two_arrays}
use Rattle.php_values.proofs.Meetings.{equal-walk, equal-counts}
use Rattle.php_values.proofs.loose.meet.Goals as goal

pub returns-then-len : goal.returns-then-len
returns-then-len c =
    let seen = (λ i. two_arrays (sym c.look_at-a.ensures i) (sym c.look_at-b.ensures i)) ∙ sym c.two_arrays.ensures ∙ ap arrays_seen c.in-Some.is in
    let n = sym c.len.ensures.count ∙ c.if-len.true ∙ c.len-2.ensures.count in
    equal-walk (data_of c.args.a.now) (data_of c.args.b.now) c.in-Some.x.now c.in-Some.y.now c.new.result seen n c.new.ensures.left c.new.ensures.right

pub returns-else-len : goal.returns-else-len
returns-else-len c =
    let seen = (λ i. two_arrays (sym c.look_at-a.ensures i) (sym c.look_at-b.ensures i)) ∙ sym c.two_arrays.ensures ∙ ap arrays_seen c.in-Some.is in
    equal-counts (data_of c.args.a.now) (data_of c.args.b.now) c.in-Some.x.now c.in-Some.y.now seen (λ n. c.if-len.false (c.len.ensures.count ∙ n ∙ sym c.len-2.ensures.count))
