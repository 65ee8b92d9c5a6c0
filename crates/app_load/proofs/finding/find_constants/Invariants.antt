use Rattle.std.proofs.Common.{◌≡◌, ◌++◌, drop, map}
use Rattle.php_tree.specs.Renamed.{name_at}
use Rattle.php_tree.specs.StatementOf.{class_constant_of}
use Rattle.app_load.specs.Findings.{findings_of, constant}
use Rattle.app_load.proofs.finding.find_constants.Given as goal

abbrev pub invariant-loop-constant : goal.invariant-loop-constant
invariant-loop-constant l = findings_of l.found.items ++ map (constant l.class) (map class_constant_of (drop l.constant-index l.constants)) ≡ findings_of l.initial.found.items ++ map (constant l.class) (map class_constant_of l.constants)
