use Rattle.php_link.proofs.Goings.{added}
use Rattle.php_link.proofs.names.add.Goals as goal

pub returns : goal.returns
returns c = added c.args.names.now (record { list = c.push_name.new.list; table = c.add.new.self }) c.args.text.now c.in_ok-number.number c.len.result c.requires.same c.requires.absent c.len.ensures c.in_ok-number.ensures c.in_ok-add.ensures.ok c.in_ok-push_name.ensures
