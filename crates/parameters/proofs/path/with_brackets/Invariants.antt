use Rattle.std.proofs.Common.{◌≡◌, ◌-◌}
use Rattle.parameters.specs.Names.{brackets}
use Rattle.parameters.proofs.Bracketing.{behind}
use Rattle.parameters.proofs.path.with_brackets.Given as goal

abbrev pub invariant-loop : goal.invariant-loop
invariant-loop l = behind l.path.items (brackets (8 - l.counter) l.rest) ≡ behind l.initial.path.items (brackets 8 l.initial.rest)
