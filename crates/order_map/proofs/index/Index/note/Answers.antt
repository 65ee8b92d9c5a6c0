use Rattle.order_map.proofs.Chains.{index_from}
use Rattle.order_map.proofs.index.Index.note.Goals as goal

pub returns : goal.returns
returns g c = index_from _ _ _ _ c.args.entries.now c.link.ensures.heads c.requires.last c.link.ensures.linked
