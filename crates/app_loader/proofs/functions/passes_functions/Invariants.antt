use Rattle.std.proofs.Common.{map, drop}
use Rattle.app_load.specs.Files.{file_of}
use Rattle.app_load.specs.Applications.{function_count}
use Rattle.app_files.proofs.Sums.{Counted}
use Rattle.app_loader.proofs.functions.passes_functions.Given as goal

abbrev pub invariant-loop-file : goal.invariant-loop-file
invariant-loop-file l = Counted (λ f. function_count f.tree) 20000 l.left (map file_of (drop l.file-index l.files)) (map file_of l.files)
