use Rattle.std.proofs.Common.{length, ◌+◌, ◌*◌}
use Rattle.parameters.proofs.nested.+write.Given as goal

abbrev pub decreases-written : goal.decreases-written
decreases-written l = 4 * length l.path.now

abbrev pub decreases-write_shared : goal.decreases-write_shared
decreases-write_shared l = 4 * length l.more.now + 3

abbrev pub decreases-write_step : goal.decreases-write_step
decreases-write_step l = 4 * length l.more.now + 2

abbrev pub decreases-write_at : goal.decreases-write_at
decreases-write_at l = 4 * length l.more.now + 1

abbrev pub decreases-write_next : goal.decreases-write_next
decreases-write_next l = 4 * length l.more.now + 1
