use Rattle.std.proofs.Common.{length, ◌+◌, ◌*◌}
use Rattle.php_world.proofs.write.+write.Given as goal

abbrev pub decreases-write_value : goal.decreases-write_value
decreases-write_value l = 6 * length l.path.now

abbrev pub decreases-write_step : goal.decreases-write_step
decreases-write_step l = 6 * length l.more.now + 5

abbrev pub decreases-write_fresh : goal.decreases-write_fresh
decreases-write_fresh l = 6 * length l.more.now + 4

abbrev pub decreases-write_shared : goal.decreases-write_shared
decreases-write_shared l = 6 * length l.more.now + 4

abbrev pub decreases-write_map : goal.decreases-write_map
decreases-write_map l = 6 * length l.more.now + 3

abbrev pub decreases-write_key : goal.decreases-write_key
decreases-write_key l = 6 * length l.more.now + 2

abbrev pub decreases-write_next : goal.decreases-write_next
decreases-write_next l = 6 * length l.more.now + 2

abbrev pub decreases-new_item : goal.decreases-new_item
decreases-new_item l = 6 * length l.more.now + 1
