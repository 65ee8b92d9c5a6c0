use Rattle.std.proofs.Common.{map, drop}
use Rattle.app_load.specs.Applications.{static_length, text_of}
use Rattle.app_files.proofs.Sums.{Counted}
use Rattle.app_files.proofs.limits.passes_static.Given as goal

abbrev pub invariant-loop-file : goal.invariant-loop-file
invariant-loop-file l = Counted static_length 33554432 l.left (map text_of (drop l.file-index l.files)) (map text_of l.files)
