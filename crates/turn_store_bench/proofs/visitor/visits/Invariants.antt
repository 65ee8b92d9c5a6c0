use Rattle.std.proofs.Common.{◌≡◌, []}
use Rattle.turn_store.specs.Passes.{IsPassOf, held_by}
use Rattle.turn_store_bench.proofs.visitor.visits.Given as goal

abbrev pub invariant-loop-i : goal.invariant-loop-i
invariant-loop-i g l = IsPassOf l.store l.pass × (held_by l.pass ≡ [])
