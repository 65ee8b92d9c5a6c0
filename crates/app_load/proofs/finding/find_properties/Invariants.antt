use Rattle.std.proofs.Common.{◌≡◌, ◌++◌, drop, map}
use Rattle.php_tree.specs.Renamed.{name_at}
use Rattle.php_tree.specs.StatementOf.{property_of}
use Rattle.app_load.specs.Findings.{findings_of, property}
use Rattle.app_load.proofs.finding.find_properties.Given as goal

abbrev pub invariant-loop-property : goal.invariant-loop-property
invariant-loop-property l = findings_of l.found.items ++ map (property l.class) (map property_of (drop l.property-index l.properties)) ≡ findings_of l.initial.found.items ++ map (property l.class) (map property_of l.properties)
