use Rattle.parameters.proofs.Writes.{was_put}
use Rattle.parameters.proofs.nested.put.Goals as goal

pub returns : goal.returns
returns c = was_put c.args.key c.args.value c.args.map.now c.set.new.self c.in_ok-set.ensures.pairs c.in_ok-set.ensures.next
