use Rattle.std.proofs.Common.{◌∙◌, ap, sym, subst, [], ◌∷◌, ◌++◌, arith}
use Rattle.order_map.specs.Arrays.{pairs_of}
use Rattle.php_values.specs.Data.{data_pairs, data_of}
use Rattle.session_book.specs.Kept.{kept_pairs, without_objects}
use Rattle.session_book.specs.Steps.{Adds, inside_of}
use Rattle.session_book.proofs.Lists.{none-there}
use Rattle.session_book.proofs.Writing.{Wrote, rests, wrote-none, wrote-end, wrote-flat, wrote-list, wrote-all}
use Rattle.session_book.proofs.write.marks_of.Goals as goal
use Rattle.session_book.proofs.write.marks_of.Goals.{in-Some-inside+in_ok-push-3, in_default-inside}

pub loop-init : goal.loop-init
loop-init c = wrote-none _ c.new-walk.result _ (pairs_of c.args.map.now) c.new-marks.ensures.items c.new-above.ensures.items c.new-walk.ensures

pub returns-in_default-pop : goal.returns-in_default-pop
returns-in_default-pop c =
    wrote-all c.loop.marks.items c.loop.walk c.loop.above.items (kept_pairs (data_pairs (pairs_of c.args.map.now))) c.loop.invariant c.in_default.ensures.0
    (none-there c.loop.above.items (omega (arith, c.loop.above.ok, c.in_default-pop.ensures.cases.0)))

pub loop-preserved-in_default : goal.loop-preserved-in_default
loop-preserved-in_default c =
    wrote-end c.loop.marks.items c.push.new.self.items c.loop.walk c.loop.above.items c.pop.new.self.items c.in-Some-pop.outer (kept_pairs (data_pairs (pairs_of c.args.map.now)))
    c.loop.invariant c.in_default.ensures.0 c.in-Some-pop.ensures.items c.in_ok-push.ensures.items

pub loop-preserved : goal.loop-preserved
loop-preserved c =
    let whole = kept_pairs (data_pairs (pairs_of c.args.map.now)) in
    let key = c.in-Some.key.now in
    let value = c.in-Some.value.now in
    let ms = c.loop.marks.items in
    let ns = c.push-in-loop.new.self.items in
    let ws = c.loop.above.items in
    let v = c.next.new.self in
    let adds = subst (λ d. Adds key (without_objects d) c.in_ok-mark.field-0.mark (inside_of c.in_ok-mark.field-0.inside)) c.look_at.ensures c.in_ok-mark.ensures in
    elim c.match-inside.branch [
      | in-Some-inside+in_ok-push-3 w ↦
          let u = w.in-Some-inside.inner in
          let vs = w.push-in-Some-inside.new.self.items in
          let one = subst (λ o. Adds key (without_objects (data_of value)) c.in_ok-mark.field-0.mark (inside_of o)) w.in-Some-inside.is adds in
          let e = w.in_ok-push-3.ensures.items ∙ ap (λ v. ws ++ v ∷ []) w.replace.ensures.value in
          let done = wrote-list ms ns c.in_ok-mark.field-0.mark c.loop.walk v u ws vs key value whole c.loop.invariant c.in-Some.ensures one c.in_ok-push-2.ensures.items e in
          subst (λ a. Wrote ns (rests c.match-inside.walk a.items) whole) (sym w.above-is)
          (subst (λ x. Wrote ns (rests x vs) whole) (sym (w.walk-is ∙ w.replace.ensures.after)) done)
      | in_default-inside w ↦
          let one = subst (λ o. Adds key (without_objects (data_of value)) c.in_ok-mark.field-0.mark (inside_of o)) w.in_default-inside.is adds in
          let done = wrote-flat ms ns c.in_ok-mark.field-0.mark c.loop.walk v ws key value whole c.loop.invariant c.in-Some.ensures one c.in_ok-push-2.ensures.items in
          subst (λ a. Wrote ns (rests c.match-inside.walk a.items) whole) (sym w.above-is)
          (subst (λ x. Wrote ns (rests x ws) whole) (sym w.walk-is) done)
    ]
