use Rattle.std.proofs.Common.{◌≡◌, drop}
use Rattle.app_entries.specs.Search.{function_ordinal}
use Rattle.app_entries.proofs.numbers.function_ordinal.Given as goal

abbrev pub invariant-loop-function : goal.invariant-loop-function
invariant-loop-function l = function_ordinal l.functions l.name ≡ function_ordinal (drop l.function-index l.functions) l.name
