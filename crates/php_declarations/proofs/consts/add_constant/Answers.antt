use Rattle.php_declarations.proofs.Values.{not_there}
use Rattle.php_declarations.proofs.consts.add_constant.Goals as goal

pub returns-then-is_some-2 : goal.returns-then-is_some-2
returns-then-is_some-2 c = λ w knows.
    not_there c.args.path.now c.args.name.now c.args.constants.now c.in_ok-constant_value.field-0 c.get.result c.in_ok-constant_value.ensures c.if-is_some.ensures c.get.ensures c.if-is_some-2.ensures w knows _
