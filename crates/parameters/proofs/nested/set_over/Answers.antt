use Rattle.std.proofs.Common.{◌∙◌}
use Rattle.php_values.specs.Walks.{rest_of}
use Rattle.php_values.specs.Data.{array_of, data_of}
use Rattle.parameters.proofs.Writes.{set_more}
use Rattle.parameters.proofs.nested.set_over.Goals as goal

pub loop-key-preserved : goal.loop-key-preserved
loop-key-preserved c =
    set_more c.in-Some.key.now c.in_ok-clone.field-0 c.in-Some.value.now (data_of c.in_ok-clone-2.field-0) (rest_of c.loop-key.walk) (rest_of c.next.new.self) (array_of c.loop-key.map) (array_of c.put.new.map)
    c.in-Some.ensures c.in_ok-clone.ensures.cases c.in_ok-clone-2.ensures.cases c.in_ok-put.ensures
    ∙ c.loop-key.invariant
