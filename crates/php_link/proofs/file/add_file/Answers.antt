use Rattle.php_link.proofs.Linking.{none_added, one_added}
use Rattle.php_link.proofs.file.add_file.Goals as goal

pub returns-in-None : goal.returns-in-None
returns-in-None c = none_added c.args.names.now c.args.file.now c.args.linked.now c.requires.same c.in-None.is
