use Rattle.php_world.proofs.Slots.{indexed_on}
use Rattle.php_world.proofs.scopes.Scopes.bind.Goals as goal

pub invariant_of-self-2 : goal.invariant_of-self-2
invariant_of-self-2 c =
    indexed_on c.self.inside.items c.push.new.self c.self.inside.slots.items c.grow.new.slots.items c.args.number c.self.inside.depth c.args.held c.index-old.result.now c.self.invariant c.in_ok-grow.ensures.same
    c.in_ok-grow.ensures.long c.index-old.ensures c.in_ok-push.ensures.ok
