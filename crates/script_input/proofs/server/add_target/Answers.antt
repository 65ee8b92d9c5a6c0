use Rattle.php_values.specs.Data.{array_of}
use Rattle.script_input.proofs.Serving.{target_made}
use Rattle.script_input.proofs.server.add_target.Goals as goal

pub returns : goal.returns
returns c =
    target_made c.args.request.now c.method.result.now c.target.result.now c.target-2.result.now c.query_of.result.now (array_of c.args.map.now) (array_of c.add_text.new.map) (array_of c.add_text-2.new.map) (array_of c.add_text-3.new.map)
    c.method.ensures c.target.ensures c.target-2.ensures c.query_of.ensures c.in_ok-add_text.ensures c.in_ok-add_text-2.ensures c.in_ok-add_text-3.ensures
