use Rattle.std.proofs.Common.{◌≡◌, length}
use Rattle.app_load.specs.Stubs.{is_stub_end}
use Rattle.app_load.proofs.stub.is_stub_end.Given as goal

abbrev pub invariant-loop-rest : goal.invariant-loop-rest
invariant-loop-rest l = is_stub_end l.rest ≡ is_stub_end l.initial.rest

abbrev pub decreases-loop-rest : goal.decreases-loop-rest
decreases-loop-rest l = length l.rest
