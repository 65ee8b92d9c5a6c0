use Rattle.std.proofs.Common.{◌≡◌, take, map}
use Rattle.php_lexemes.specs.Names.{name_text, pointed}
use Rattle.php_lexemes.proofs.names.Names.into_list.Given as goal

abbrev pub invariant-loop-name : goal.invariant-loop-name
invariant-loop-name l = map name_text l.list ≡ map pointed (take l.name-index l.name-items)
