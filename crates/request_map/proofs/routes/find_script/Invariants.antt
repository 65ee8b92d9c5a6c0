use Rattle.std.proofs.Common.{◌≡◌, false, take}
use Rattle.request_map.specs.Routes.{is_script}
use Rattle.request_map.proofs.routes.find_script.Given as goal

abbrev pub invariant-loop-script : goal.invariant-loop-script
invariant-loop-script l = is_script (take l.script-index l.scripts) l.path ≡ false
