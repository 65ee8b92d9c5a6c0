use Rattle.php_world.specs.View.{vars_of}
use Rattle.php_machine.proofs.Openings.{five_set}
use Rattle.php_machine.proofs.opening.opening_store.Goals as goal

pub returns : goal.returns
returns c = λ t. five_set t c.args.get c.args.post c.args.cookie c.args.request c.args.server (vars_of t c.new-store.result) (vars_of t c.set.new.store) (vars_of t c.set-2.new.store) (vars_of t c.set-3.new.store) (vars_of t c.set-4.new.store) (vars_of t c.set-5.new.store)
    (c.new-store.ensures t) (c.in_ok-set.ensures t) (c.in_ok-set-2.ensures t) (c.in_ok-set-3.ensures t) (c.in_ok-set-4.ensures t) (c.in_ok-set-5.ensures t)
