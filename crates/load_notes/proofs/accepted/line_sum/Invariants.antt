use Rattle.std.proofs.Common.{map, drop}
use Rattle.app_load.specs.Files.{file_of}
use Rattle.load_notes.specs.Notes.{php_lines}
use Rattle.load_notes.proofs.Sums.{Added}
use Rattle.load_notes.proofs.accepted.line_sum.Given as goal

abbrev pub invariant-loop-file : goal.invariant-loop-file
invariant-loop-file l = Added php_lines l.count (map file_of (drop l.file-index l.files)) (map file_of l.files)
