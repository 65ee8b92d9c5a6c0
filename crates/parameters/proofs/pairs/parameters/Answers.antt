use Rattle.std.proofs.Common.{◌∙◌, sym, arith}
use Rattle.form_urlencoded.specs.Parse.{raw_pairs_left}
use Rattle.php_values.specs.Data.{array_of}
use Rattle.parameters.proofs.Pairing.{one_pair, no_more}
use Rattle.parameters.proofs.pairs.parameters.Goals as goal

pub loop-preserved : goal.loop-preserved
loop-preserved c =
    one_pair 1000 c.loop.counter (c.in-Some.name.now, c.in-Some.value.now) (raw_pairs_left c.loop.pairs) (raw_pairs_left c.next.new.self) (array_of c.loop.map) (array_of c.add_pair.new.map)
    (omega arith) c.in-Some.ensures.steps c.in_ok-add_pair.ensures
    ∙ c.loop.invariant

pub returns : goal.returns
returns c = sym (no_more 1000 c.loop.counter (raw_pairs_left c.loop.pairs) (array_of c.loop.map) (omega arith)) ∙ c.loop.invariant
