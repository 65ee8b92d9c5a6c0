use Rattle.std.proofs.Common.{rules, ◌≡◌, refl, length}
use Rattle.order_map.proofs.Chains.{index_from}
use Rattle.order_map.proofs.index.Index.relink.Goals as goal

pub returns-clause-index : goal.returns-clause-index
returns-clause-index g c =
    let s : length c.args.entries.now ≡ c.loop-slot.slot = search rules in
    index_from _ _ _ _ c.args.entries.now refl s c.loop-slot.invariant.2
