use Rattle.std.proofs.Common.{[]}
use Rattle.php_link.proofs.Linking.{none_yet, one_more, all_linked}
use Rattle.php_link.proofs.file.linked_files.Goals as goal

pub loop-file-init : goal.loop-file-init
loop-file-init c = none_yet c.args.names.now c.args.files.now c.new-linked.result c.requires.same c.new-linked.ensures

pub add_file-requires-clause-same : goal.add_file-requires-clause-same
add_file-requires-clause-same c = c.loop-file.invariant.goes.same

pub add_file-requires-clause-unnamed : goal.add_file-requires-clause-unnamed
add_file-requires-clause-unnamed c = c.loop-file.invariant.goes.grows 6 [] c.requires.unnamed

pub loop-file-preserved : goal.loop-file-preserved
loop-file-preserved c = one_more c.args.names.now c.loop-file.names c.add_file.new.names c.args.files.now c.loop-file.file-index c.file-item.result c.loop-file.linked c.add_file.new.linked c.loop-file-test.true c.file-item.is c.loop-file.invariant c.in_ok-add_file.ensures

pub returns : goal.returns
returns c = all_linked c.args.names.now c.loop-file.names c.args.files.now c.loop-file.file-index c.loop-file.linked c.loop-file-test.false c.loop-file.invariant
