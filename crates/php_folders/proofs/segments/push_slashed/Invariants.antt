use Rattle.std.proofs.Common.{◌≡◌, ◌++◌, map, drop}
use Rattle.php_folders.specs.Files.{part_at, slashed}
use Rattle.php_folders.proofs.segments.push_slashed.Given as goal

abbrev pub invariant-loop-part : goal.invariant-loop-part
invariant-loop-part l = l.path.items ++ slashed (map part_at (drop l.part-index l.parts)) ≡ l.initial.path.items ++ slashed (map part_at l.parts)
