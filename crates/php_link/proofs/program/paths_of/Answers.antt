use Rattle.php_state.specs.Linked.{path_of_file}
use Rattle.php_link.proofs.Texts.{not_before}
use Rattle.php_link.proofs.program.paths_of.Goals as goal

pub add-requires : goal.add-requires
add-requires c = not_before path_of_file c.args.files.now c.loop-file.file-index c.file-item.result c.as_slice.result.now c.loop-file.paths c.requires c.loop-file-test.true c.file-item.is c.loop-file.invariant c.as_slice.ensures
