use Rattle.std.proofs.Common.{◌≡◌}
use Rattle.less_outside.specs.FolderMem.{files_of, last_files}
use Rattle.less_outside.proofs.folder_memory.by_path.Given as goal

abbrev pub invariant-loop-path : goal.invariant-loop-path
invariant-loop-path l = files_of l.map.entries ≡ last_files l.yielded
