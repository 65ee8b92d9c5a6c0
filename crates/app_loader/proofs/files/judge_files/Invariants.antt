use Rattle.std.proofs.Common.{map, vec_len}
use Rattle.app_load.specs.Applications.{text_of}
use Rattle.app_loader.proofs.EachFile.{Judging}
use Rattle.app_loader.proofs.files.judge_files.Given as goal

abbrev pub invariant-loop-path : goal.invariant-loop-path
invariant-loop-path g l = Judging l.setting (map text_of l.fn.files.items) l.files.items l.judged.items

abbrev pub decreases-loop-path : goal.decreases-loop-path
decreases-loop-path g l = vec_len l.files
