use Rattle.std.proofs.Common.{◌≡◌, ◌++◌, drop, map}
use Rattle.php_tree.specs.Renamed.{name_at}
use Rattle.php_tree.specs.StatementOf.{parameter_of}
use Rattle.app_load.specs.Findings.{findings_of, parameter}
use Rattle.app_load.proofs.finding.find_parameters.Given as goal

abbrev pub invariant-loop-param : goal.invariant-loop-param
invariant-loop-param l = findings_of l.found.items ++ map (parameter (name_at l.variables) l.class l.function) (map parameter_of (drop l.param-index l.params)) ≡ findings_of l.initial.found.items ++ map (parameter (name_at l.variables) l.class l.function) (map parameter_of l.params)
