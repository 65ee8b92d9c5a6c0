use Rattle.std.proofs.Common.{◌≡◌, map, drop, Some}
use Rattle.php_meaning.specs.Folders.{resolved_from}
use Rattle.php_folders.specs.Files.{part_at}
use Rattle.php_folders.proofs.segments.resolve.Given as goal

abbrev pub invariant-loop-part : goal.invariant-loop-part
invariant-loop-part l = resolved_from (map part_at (drop l.part-index l.parts)) (Some (map part_at l.folder.items)) ≡ resolved_from (map part_at l.parts) (Some (map part_at l.initial.folder.items))
