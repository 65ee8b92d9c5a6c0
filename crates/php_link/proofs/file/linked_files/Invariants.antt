use Rattle.std.proofs.Common.{[], take}
use Rattle.php_link.specs.Links.{AreLinked}
use Rattle.php_link.proofs.file.linked_files.Given as goal

abbrev pub invariant-loop-file : goal.invariant-loop-file
invariant-loop-file l = AreLinked l.initial.names l.names (take l.file-index l.files) [] l.linked
