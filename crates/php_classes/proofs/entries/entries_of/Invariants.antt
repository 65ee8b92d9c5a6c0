use Rattle.std.proofs.Common.{◌≡◌, ◌++◌, drop}
use Rattle.php_tree.specs.StatementOf.{members_of}
use Rattle.php_classes.specs.Entries.{entries_of}
use Rattle.php_classes.proofs.entries.entries_of.Given as goal

abbrev pub invariant-loop-member : goal.invariant-loop-member
invariant-loop-member l = l.entries ++ entries_of (members_of (drop l.member-index l.members)) ≡ entries_of (members_of l.members)
