use Rattle.std.proofs.Common.{◌≡◌, []}
use Rattle.turn_store.specs.Passes.{IsPassOf, held_by}
use Rattle.turn_store.proofs.tests.threads.visits.Given as goal

abbrev pub invariant-loop : goal.invariant-loop
invariant-loop g l = IsPassOf l.store l.pass × (held_by l.pass ≡ [])
