use Rattle.std.proofs.Common.{◌≡◌, length}
use Rattle.turn_store.specs.Alone.{words_of}
use Rattle.turn_store.proofs.tests.alone.pin_often_alone.Given as goal

abbrev pub invariant-loop-i : goal.invariant-loop-i
invariant-loop-i l = length (words_of l.alone) ≡ length (words_of l.initial.alone)
