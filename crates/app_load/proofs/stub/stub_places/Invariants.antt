use Rattle.std.proofs.Common.{◌≡◌, ◌++◌, drop}
use Rattle.app_load.specs.Stubs.{stub_places}
use Rattle.app_load.proofs.stub.stub_places.Given as goal

abbrev pub invariant-loop-function : goal.invariant-loop-function
invariant-loop-function l = l.places.items ++ stub_places l.path l.text (drop l.function-index l.functions) ≡ stub_places l.path l.text l.functions
