use Rattle.std.proofs.Common.{map, drop}
use Rattle.app_load.specs.Files.{file_of}
use Rattle.app_load.specs.Applications.{function_count}
use Rattle.load_notes.proofs.Sums.{Added}
use Rattle.load_notes.proofs.accepted.function_sum.Given as goal

abbrev pub invariant-loop-file : goal.invariant-loop-file
invariant-loop-file l = Added (λ f. function_count f.tree) l.count (map file_of (drop l.file-index l.files)) (map file_of l.files)
