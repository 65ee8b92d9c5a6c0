use Rattle.std.proofs.Common.{◌≡◌, map, take}
use Rattle.php_state.specs.Linked.{text_of_name}
use Rattle.php_link.proofs.names.table_of.Given as goal

abbrev pub invariant-loop-name : goal.invariant-loop-name
invariant-loop-name l = l.table ≡ map text_of_name (take l.name-index l.list)
