use Rattle.std.proofs.Common.{rules, arith, ◌≡◌, ◌<◌, ap, length, get_or}
use Rattle.std.proofs.lemmas.Bool.Decides.{nat_tests}
use Rattle.order_map.proofs.Lists.{got, there}
use Rattle.order_map.proofs.Chains.{forgets_slot, link-room}
use Rattle.order_map.proofs.index.Index.forget.Goals as goal

pub index-requires : goal.index-requires
index-requires g c =
    let t = ap length c.as_slice.ensures.value in
    let e = c.is_empty.ensures in
    let b = c.if-is_empty.false in
    let p : 0 < length c.args.self.now.heads.items = grind (arith, nat_tests) in
    let r = link-room c.args.self.now.heads.items c.args.self.now.links.items c.args.entries.now p c.requires.index in
    let l = c.requires.last in
    let m : c.args.slot < length c.args.self.now.links.items = omega arith in
    search (rules, m)

pub returns : goal.returns
returns g c = λ w.
    let t = ap length c.as_slice.ensures.value in
    let e = c.is_empty.ensures in
    let b = c.if-is_empty.false in
    let p : 0 < length c.args.self.now.heads.items = grind (arith, nat_tests) in
    let r = link-room c.args.self.now.heads.items c.args.self.now.links.items c.args.entries.now p c.requires.index in
    let l = c.requires.last in
    let n : c.len.result ≡ length c.args.self.now.heads.items = search rules in
    forgets_slot c.args.self.now.heads.items c.args.self.now.links.items c.args.entries.now c.args.slot c.bucket-bucket.result c.len.result c.index.result.now (get_or c.args.entries.now c.args.slot c.index-entries-slot.result)
    c.bucket-bucket.ensures.value n c.bucket-bucket.ensures.within (there c.args.entries.now c.args.slot c.index-entries-slot.result (omega arith)) l
    (got c.args.self.now.links.items c.args.slot c.index.result.now (omega arith) c.index.ensures) p c.requires.index
