use Rattle.std.proofs.Common.{rules, arith, ◌≡◌, ◌<◌, ◌-◌, suc, sym, ap, ◌∙◌, length}
use Rattle.std.proofs.lemmas.Bool.Decides.{nat_tests}
use Rattle.order_map.specs.Chains.{holds}
use Rattle.order_map.proofs.Lists.{got}
use Rattle.order_map.proofs.Chains.{seeks_from, seek_step, link-room}
use Rattle.order_map.proofs.index.Index.seek.Goals as goal

pub loop-at-init : goal.loop-at-init
loop-at-init g c =
    let n : c.len.result ≡ length c.args.self.now.heads.items = search rules in
    let w = c.bucket.ensures.within in
    seeks_from c.args.self.now.heads.items c.args.self.now.links.items c.args.entries.now c.args.key.now c.bucket.result c.len.result c.index-at.result.now
    c.bucket.ensures.value n w (got c.args.self.now.heads.items c.bucket.result c.index-at.result.now (omega arith) c.index-at.ensures) c.requires.buckets c.requires.index

pub returns-then-holds : goal.returns-then-holds
returns-then-holds g c =
    let t = c.loop-at-test.true in
    let v = c.loop-at.invariant.within in
    let q : c.loop-at.at ≡ suc (c.loop-at.at - 1) = first_of (omega (arith, t), grind (arith, nat_tests)) in
    ap (holds c.args.key.now) (got c.args.entries.now (c.loop-at.at - 1) c.index-entries-slot.result (omega arith) c.index-entries-slot.is) ∙ sym c.holds.ensures ∙ c.if-holds.true

pub index-at-requires-in-loop-at : goal.index-at-requires-in-loop-at
index-at-requires-in-loop-at g c =
    let t = c.loop-at-test.true in
    let v = c.loop-at.invariant.within in
    let q : c.loop-at.at ≡ suc (c.loop-at.at - 1) = first_of (omega (arith, t), grind (arith, nat_tests)) in
    let r = link-room c.args.self.now.heads.items c.args.self.now.links.items c.args.entries.now c.requires.buckets c.requires.index in
    let m : c.loop-at.at - 1 < length c.args.self.now.links.items = omega arith in
    search (rules, m)

pub loop-at-smaller : goal.loop-at-smaller
loop-at-smaller g c =
    let t = c.loop-at-test.true in
    let v = c.loop-at.invariant.within in
    let q : c.loop-at.at ≡ suc (c.loop-at.at - 1) = first_of (omega (arith, t), grind (arith, nat_tests)) in
    let r = link-room c.args.self.now.heads.items c.args.self.now.links.items c.args.entries.now c.requires.buckets c.requires.index in
    (seek_step c.args.self.now.heads.items c.args.self.now.links.items c.args.entries.now c.args.key.now c.loop-at.at (c.loop-at.at - 1) c.index-at-in-loop-at.result.now c.index-entries-slot.result
    c.requires.buckets c.requires.index c.loop-at.invariant q (got c.args.entries.now (c.loop-at.at - 1) c.index-entries-slot.result (omega arith) c.index-entries-slot.is)
    (got c.args.self.now.links.items (c.loop-at.at - 1) c.index-at-in-loop-at.result.now (omega arith) c.index-at-in-loop-at.ensures) (sym c.holds.ensures ∙ c.if-holds.false)).1

pub loop-at-preserved : goal.loop-at-preserved
loop-at-preserved g c =
    let t = c.loop-at-test.true in
    let v = c.loop-at.invariant.within in
    let q : c.loop-at.at ≡ suc (c.loop-at.at - 1) = first_of (omega (arith, t), grind (arith, nat_tests)) in
    let r = link-room c.args.self.now.heads.items c.args.self.now.links.items c.args.entries.now c.requires.buckets c.requires.index in
    (seek_step c.args.self.now.heads.items c.args.self.now.links.items c.args.entries.now c.args.key.now c.loop-at.at (c.loop-at.at - 1) c.index-at-in-loop-at.result.now c.index-entries-slot.result
    c.requires.buckets c.requires.index c.loop-at.invariant q (got c.args.entries.now (c.loop-at.at - 1) c.index-entries-slot.result (omega arith) c.index-entries-slot.is)
    (got c.args.self.now.links.items (c.loop-at.at - 1) c.index-at-in-loop-at.result.now (omega arith) c.index-at-in-loop-at.ensures) (sym c.holds.ensures ∙ c.if-holds.false)).0
