use Rattle.std.proofs.Common.{◌≡◌, ◌++◌, drop, map}
use Rattle.php_tree.specs.StatementOf.{property_of}
use Rattle.php_classes.specs.Entries.{property_entry}
use Rattle.php_classes.proofs.entries.add_properties.Given as goal

abbrev pub invariant-loop-property : goal.invariant-loop-property
invariant-loop-property l = l.entries ++ map (property_entry l.modifiers) (map property_of (drop l.property-index l.properties)) ≡ l.initial.entries ++ map (property_entry l.modifiers) (map property_of l.properties)
