use Rattle.std.proofs.Common.{length}
use Rattle.php_building.proofs.operator.+joined_all.Given as goal

abbrev pub decreases-joined_all : goal.decreases-joined_all
decreases-joined_all l = length l.joins
