use Rattle.std.proofs.Common.{drop}
use Rattle.php_bodies.specs.Files.{AllHold, FindsFilesOr}
use Rattle.php_bodies.proofs.files.files_by_path.Given as goal

abbrev pub invariant-loop-file : goal.invariant-loop-file
invariant-loop-file l = FindsFilesOr l.table (drop l.file-index l.files) l.files × AllHold l.table
