use Rattle.std.proofs.Common.{◌≡◌}
use Rattle.turn_store.specs.Passes.{IsPassOf}
use Rattle.turn_store.specs.Waits.{SawBusy}
use Rattle.turn_store.proofs.lane.Lane.take.Given as goal

abbrev pub invariant-loop : goal.invariant-loop
invariant-loop g l = (l.self.store ≡ l.initial.self.store) × IsPassOf l.self.store.now l.self.pass × SawBusy l.slot l.initial.self.pass l.self.pass
