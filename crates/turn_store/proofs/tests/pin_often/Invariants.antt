use Rattle.turn_store.specs.Passes.{IsAdminOf}
use Rattle.turn_store.proofs.tests.pin_often.Given as goal

abbrev pub invariant-loop-i : goal.invariant-loop-i
invariant-loop-i l = IsAdminOf l.store l.admin
