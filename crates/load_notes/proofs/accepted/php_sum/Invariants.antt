use Rattle.std.proofs.Common.{map, drop, is_some, cond}
use Rattle.app_load.specs.Files.{file_of}
use Rattle.load_notes.proofs.Sums.{Added}
use Rattle.load_notes.proofs.accepted.php_sum.Given as goal

abbrev pub invariant-loop-file : goal.invariant-loop-file
invariant-loop-file l = Added (λ f. cond (is_some f.tree) 1 0) l.count (map file_of (drop l.file-index l.files)) (map file_of l.files)
