use Rattle.php_classes.proofs.Behind.{four}
use Rattle.php_classes.proofs.built_in.add_told.Goals as goal

pub returns : goal.returns
returns c =
    four c.args.methods.now c.add_method.new.methods c.add_method-2.new.methods c.add_method-3.new.methods c.add_method-4.new.methods _ _ _ _
    c.in_ok-add_method.ensures c.in_ok-add_method-2.ensures c.in_ok-add_method-3.ensures c.in_ok-add_method-4.ensures
