use Rattle.std.proofs.Common.{◌≡◌, take}
use Rattle.php_expression_actions.proofs.quotes.copied_parts.Given as goal

abbrev pub invariant-copy : goal.invariant-copy
invariant-copy l = l.made ≡ take l.part-index l.parts
