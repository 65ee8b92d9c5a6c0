use Rattle.std.proofs.Common.{length, ◌+◌, ◌*◌}
use Rattle.php_world.proofs.read.+read.Given as goal

abbrev pub decreases-read_value : goal.decreases-read_value
decreases-read_value l = 3 * length l.path.now

abbrev pub decreases-read_index : goal.decreases-read_index
decreases-read_index l = 3 * length l.more.now + 2

abbrev pub decreases-read_item : goal.decreases-read_item
decreases-read_item l = 3 * length l.more.now + 1
