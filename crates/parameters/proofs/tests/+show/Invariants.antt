use Rattle.std.proofs.Common.{◌+◌, ◌*◌}
use Rattle.parameters.proofs.tests.+show.Given as goal

abbrev pub decreases-show_value : goal.decreases-show_value
decreases-show_value l = 2 * l.depth

abbrev pub decreases-show_pairs : goal.decreases-show_pairs
decreases-show_pairs l = 2 * l.depth + 1
