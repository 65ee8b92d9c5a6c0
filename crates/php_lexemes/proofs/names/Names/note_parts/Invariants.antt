use Rattle.std.proofs.Common.{◌≡◌, drop}
use Rattle.php_lexemes.specs.Names.{noted_all, part_names}
use Rattle.php_lexemes.proofs.names.Names.note_parts.Given as goal

abbrev pub invariant-loop-part : goal.invariant-loop-part
invariant-loop-part l = noted_all l.self (part_names (drop l.part-index l.parts)) ≡ noted_all l.initial.self (part_names l.parts)
