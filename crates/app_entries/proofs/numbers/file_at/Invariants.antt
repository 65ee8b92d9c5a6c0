use Rattle.std.proofs.Common.{length}
use Rattle.app_entries.specs.Search.{IsLeft}
use Rattle.app_entries.proofs.numbers.file_at.Given as goal

abbrev pub invariant-loop-left : goal.invariant-loop-left
invariant-loop-left l = IsLeft l.path l.files l.left

abbrev pub decreases-loop-left : goal.decreases-loop-left
decreases-loop-left l = length l.left
