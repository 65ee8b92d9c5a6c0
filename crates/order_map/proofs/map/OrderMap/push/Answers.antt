use Rattle.std.proofs.Common.{rules, arith, sym, ap, ◌∙◌, subst, ◌≡◌, ◌<◌, ◌≤◌, ◌+◌, ◌++◌, ◌∷◌, [], Some, None, length, min}
use Rattle.order_map.specs.Arrays.{pairs_of, next_of, place_of, pairs_in, look}
use Rattle.order_map.specs.Keys.{spent}
use Rattle.order_map.specs.MapView.{entry}
use Rattle.order_map.specs.Chains.{IsIndex, IsLinked, slots_of}
use Rattle.order_map.proofs.Lists.{push-long}
use Rattle.order_map.proofs.Entries.{pairs-append}
use Rattle.order_map.proofs.Sound.{sound-push, sound-by}
use Rattle.order_map.proofs.Steps.{index_push, count-long}
use Rattle.order_map.proofs.map.OrderMap.push.Goals as goal

pub note-requires-clause-linked : goal.note-requires-clause-linked
unfolding pairs_of next_of place_of
note-requires-clause-linked g c =
    let es = c.self.inside.entries.items in
    let h = c.make_room.new.self.heads.items in
    let l = c.make_room.new.self.links.items in
    let n : c.len-slot.result ≡ length c.self.inside.entries.items = search rules in
    let is = subst (λ xs. IsIndex h l (slots_of xs)) c.as_slice.ensures.value c.in_ok-make_room.ensures.index in
    subst (λ xs. 0 < length h → IsLinked (length h) h l (slots_of xs) c.len-slot.result) (sym (c.as_slice-2.ensures.value ∙ c.in_ok-push.ensures.items)) (index_push h l es (entry c.args.key (Some c.args.value)) c.len-slot.result n is)

pub overflow_add-self : goal.overflow_add-self
unfolding pairs_of next_of place_of
overflow_add-self g c =
    let es = c.self.inside.entries.items in
    let k = count-long es c.self.inside.passed c.self.inside.count c.self.inside.next c.self.inside.index.heads.items c.self.inside.index.links.items c.self.invariant in
    let t = ap length c.in_ok-push.ensures.items ∙ push-long es (entry c.args.key (Some c.args.value)) in
    let m : c.self.inside.count < length c.push.new.self.items = omega arith in
    search (rules, m)

pub invariant_of-self-2 : goal.invariant_of-self-2
unfolding pairs_of next_of place_of
invariant_of-self-2 g c =
    let es = c.self.inside.entries.items in
    let x = entry c.args.key (Some c.args.value) in
    let h = c.note.new.self.heads.items in
    let l = c.note.new.self.links.items in
    let n : c.len-slot.result ≡ length c.self.inside.entries.items = search rules in
    let is = subst (λ xs. IsIndex h l (slots_of xs)) (c.as_slice-2.ensures.value ∙ c.in_ok-push.ensures.items) c.note.ensures in
    sound-by (es ++ x ∷ []) c.push.new.self.items (min c.self.inside.passed (length es)) c.min-self-inside.result (c.self.inside.count + 1) _ c.raised-next.result h l c.in_ok-push.ensures.items
    (c.min-self-inside.ensures ∙ ap (min c.self.inside.passed) n) c.raised-next.ensures.value
    (sound-push es c.self.inside.passed c.self.inside.count c.self.inside.next c.self.inside.index.heads.items c.self.inside.index.links.items h l c.args.key c.args.value c.self.invariant
    (subst (λ m. look c.args.key (pairs_of m) ≡ None) (sym c.self.view_is) c.requires) (subst (λ x. x ≤ spent) c.raised-next.ensures.value c.raised-next.ensures.within) is)

pub returns-clause-pairs : goal.returns-clause-pairs
unfolding pairs_of next_of place_of
returns-clause-pairs g c =
    ap pairs_in c.in_ok-push.ensures.items ∙ pairs-append c.self.inside.entries.items (entry c.args.key (Some c.args.value) ∷ []) ∙ ap (λ m. pairs_of m ++ (c.args.key, c.args.value) ∷ []) c.self.view_is
