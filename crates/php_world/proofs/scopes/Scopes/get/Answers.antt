use Rattle.std.proofs.Common.{ap, arith, ◌∙◌}
use Rattle.php_world.specs.View.{scope_at}
use Rattle.php_world.proofs.Slots.{got, got_none, seen_past}
use Rattle.php_world.proofs.scopes.Scopes.get.Goals as goal

pub returns-then-slot-self : goal.returns-then-slot-self
returns-then-slot-self c name differ =
    let a = c.len.ensures in let b = c.if-number-len.true in
    got name c.self.inside.items c.self.inside.slots.items c.args.number c.self.inside.depth c.index-slot.result.now differ c.self.invariant (omega arith) c.index-slot.ensures c.if-slot-self.true
    ∙ ap (λ items. scope_at name items (name c.args.number)) c.self.view_is

pub returns-else-slot-self : goal.returns-else-slot-self
returns-else-slot-self c name differ =
    let a = c.len.ensures in let b = c.if-number-len.true in
    got_none name c.self.inside.items c.self.inside.slots.items c.args.number c.self.inside.depth c.index-slot.result.now differ c.self.invariant (omega arith) c.index-slot.ensures c.if-slot-self.false
    ∙ ap (λ items. scope_at name items (name c.args.number)) c.self.view_is

pub returns-else-number-len : goal.returns-else-number-len
returns-else-number-len c name differ =
    let a = c.len.ensures in let b = c.if-number-len.false in
    seen_past name c.self.inside.items c.self.inside.slots.items c.args.number differ c.self.invariant.slots_are (omega arith)
    ∙ ap (λ items. scope_at name items (name c.args.number)) c.self.view_is
