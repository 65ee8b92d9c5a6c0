use Rattle.std.proofs.Common.{◌∙◌, sym, ap, nat_cmp}
use Rattle.php_values.specs.Data.{data_of}
use Rattle.php_values.specs.Looking.{arrays_seen, two_arrays}
use Rattle.php_values.specs.Compare.{order_pairs}
use Rattle.php_values.proofs.Meetings.{order-arrays}
use Rattle.php_values.proofs.order.ranked.Goals as goal

pub returns-in-Less : goal.returns-in-Less
returns-in-Less c =
    let seen = (λ i. two_arrays (sym c.look_at-a.ensures i) (sym c.look_at-b.ensures i)) ∙ sym c.two_arrays.ensures ∙ ap arrays_seen c.in-Some.is in
    let o = sym c.in-Less.is ∙ c.cmp.ensures ∙ (λ i. nat_cmp (c.len.ensures.count i) (c.len-2.ensures.count i)) in
    order-arrays (data_of c.args.a.now) (data_of c.args.b.now) c.in-Some.x.now c.in-Some.y.now _ seen o

pub returns-in-Equal : goal.returns-in-Equal
returns-in-Equal c =
    let seen = (λ i. two_arrays (sym c.look_at-a.ensures i) (sym c.look_at-b.ensures i)) ∙ sym c.two_arrays.ensures ∙ ap arrays_seen c.in-Some.is in
    let o = sym c.in-Equal.is ∙ c.cmp.ensures ∙ (λ i. nat_cmp (c.len.ensures.count i) (c.len-2.ensures.count i)) in
    order-arrays (data_of c.args.a.now) (data_of c.args.b.now) c.in-Some.x.now c.in-Some.y.now _ seen o ∙ sym (λ i. order_pairs (c.new.ensures.left i) (c.new.ensures.right i))

pub returns-in-Greater : goal.returns-in-Greater
returns-in-Greater c =
    let seen = (λ i. two_arrays (sym c.look_at-a.ensures i) (sym c.look_at-b.ensures i)) ∙ sym c.two_arrays.ensures ∙ ap arrays_seen c.in-Some.is in
    let o = sym c.in-Greater.is ∙ c.cmp.ensures ∙ (λ i. nat_cmp (c.len.ensures.count i) (c.len-2.ensures.count i)) in
    order-arrays (data_of c.args.a.now) (data_of c.args.b.now) c.in-Some.x.now c.in-Some.y.now _ seen o
