use Rattle.std.proofs.Common.{rules, arith, ◌≡◌, length, get_or}
use Rattle.order_map.proofs.Lists.{got, there}
use Rattle.order_map.proofs.Chains.{links_slot}
use Rattle.order_map.proofs.index.Index.link.Goals as goal

pub returns-clause-linked : goal.returns-clause-linked
returns-clause-linked g c =
    let n : c.len.result ≡ length c.args.self.now.heads.items = search rules in
    let w = c.bucket-bucket.ensures.within in
    links_slot c.args.self.now.heads.items c.args.self.now.links.items c.args.entries.now c.args.slot c.bucket-bucket.result c.len.result c.index.result.now (get_or c.args.entries.now c.args.slot c.index-entries-slot.result)
    c.bucket-bucket.ensures.value n w (there c.args.entries.now c.args.slot c.index-entries-slot.result c.requires.inside) c.requires.room
    (got c.args.self.now.heads.items c.bucket-bucket.result c.index.result.now (omega arith) c.index.ensures) c.requires.linked
