use Rattle.std.proofs.Common.{length, ◌+◌, ◌*◌}
use Rattle.php_world.proofs.unset.+unset.Given as goal

abbrev pub decreases-unset_value : goal.decreases-unset_value
decreases-unset_value l = 6 * length l.path.now

abbrev pub decreases-unset_step : goal.decreases-unset_step
decreases-unset_step l = 6 * length l.more.now + 5

abbrev pub decreases-unset_shared : goal.decreases-unset_shared
decreases-unset_shared l = 6 * length l.more.now + 4

abbrev pub decreases-unset_map : goal.decreases-unset_map
decreases-unset_map l = 6 * length l.more.now + 3

abbrev pub decreases-unset_key : goal.decreases-unset_key
decreases-unset_key l = 6 * length l.more.now + 2
