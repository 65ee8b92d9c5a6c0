use Rattle.std.proofs.Common.{◌∙◌, ap, refl}
use Rattle.order_map.specs.Arrays.{pairs_of, next_of, look}
use Rattle.order_map.specs.Keys.{next_after}
use Rattle.php_values.specs.Data.{data_pairs}
use Rattle.php_values.specs.Arithmetic.{put_last}
use Rattle.session_book.specs.Marks.{key_data, scalar_data, with_mark}
use Rattle.session_book.proofs.Making.{pair-fits, pair-taken, list-next}
use Rattle.session_book.proofs.read.Making.take.Goals as goal

pub add-requires-clause-free : goal.add-requires-clause-free
add-requires-clause-free c =
    let f = pair-fits c.args.self.now c.args.mark.now (key_data c.in-Pair.key) (scalar_data c.in-Pair.scalar) c.requires (λ pss. ap (λ m. with_mark m pss) c.in-Pair.is) in
    ap (λ k. look k (pairs_of c.args.self.now.map)) c.in_ok-to_key-in-Pair.ensures ∙ f.free

pub add-requires-clause-below : goal.add-requires-clause-below
add-requires-clause-below c =
    let f = pair-fits c.args.self.now c.args.mark.now (key_data c.in-Pair.key) (scalar_data c.in-Pair.scalar) c.requires (λ pss. ap (λ m. with_mark m pss) c.in-Pair.is) in
    ap (λ k. next_after k (next_of c.args.self.now.map)) c.in_ok-to_key-in-Pair.ensures ∙ f.below

pub open-requires : goal.open-requires
open-requires c = list-next c.args.self.now c.args.mark.now (key_data c.in-Open.key) c.in-Open.next c.requires (λ pss. ap (λ m. with_mark m pss) c.in-Open.is)

pub returns-in_ok-add-in-Pair : goal.returns-in_ok-add-in-Pair
returns-in_ok-add-in-Pair c =
    pair-taken c.args.self.now (record { above = c.args.self.now.above; map = c.add.new.map }) c.args.mark.now (key_data c.in-Pair.key) (scalar_data c.in-Pair.scalar)
    (λ pss. ap (λ m. with_mark m pss) c.in-Pair.is) refl
    (c.in_ok-add-in-Pair.ensures.pairs ∙ (λ i. put_last (c.in_ok-to_key-in-Pair.ensures i) (c.in_ok-value-in-Pair.ensures i) (data_pairs (pairs_of c.args.self.now.map))))
    c.in_ok-add-in-Pair.ensures.next
