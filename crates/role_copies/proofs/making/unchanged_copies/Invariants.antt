use Rattle.std.proofs.Common.{◌≡◌, replicate}
use Rattle.role_copies.proofs.making.unchanged_copies.Given as goal

abbrev pub invariant-loop : goal.invariant-loop
invariant-loop l = l.programs.items ≡ replicate l.counter l.app
