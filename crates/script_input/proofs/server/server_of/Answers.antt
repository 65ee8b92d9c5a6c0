use Rattle.php_values.specs.Data.{array_of}
use Rattle.script_input.proofs.Serving.{server_made, none_yet}
use Rattle.script_input.proofs.server.server_of.Goals as goal

pub returns : goal.returns
returns c =
    server_made c.args.request.now c.args.script.now c.protocol_of.result.now c.args.moment c.version.result c.headers.result.now (array_of c.new-map.result) (array_of c.add_target.new.map) (array_of c.add_script.new.map) (array_of c.add_text.new.map)
    (array_of c.add_host.new.map) (array_of c.add_moment.new.map) c.version.ensures c.protocol_of.ensures c.headers.ensures (none_yet c.new-map.result c.new-map.ensures.pairs c.new-map.ensures.next) c.in_ok-add_target.ensures
    c.in_ok-add_script.ensures c.in_ok-add_text.ensures c.in_ok-add_host.ensures c.in_ok-add_moment.ensures
