use Rattle.std.proofs.Common.{◌≡◌, map, take}
use Rattle.php_state.specs.Linked.{path_of_file}
use Rattle.php_link.proofs.program.paths_of.Given as goal

abbrev pub invariant-loop-file : goal.invariant-loop-file
invariant-loop-file l = l.paths ≡ map path_of_file (take l.file-index l.files)
