use Rattle.std.proofs.Common.{◌≡◌, take}
use Rattle.php_lexemes.specs.Lexemes.{parts_of}
use Rattle.php_lexemes.proofs.list.numbered_parts.Given as goal

abbrev pub invariant-loop-part : goal.invariant-loop-part
invariant-loop-part l = l.list ≡ parts_of l.names l.line (take l.part-index l.parts)
