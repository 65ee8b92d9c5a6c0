use Rattle.std.proofs.Common.{◌≡◌, [], take, drop, map, string_bytes}
use Rattle.role_routing.specs.Names.{again}
use Rattle.role_routing.proofs.read.again.Given as goal

abbrev pub invariant-loop-place : goal.invariant-loop-place
invariant-loop-place l = again (map string_bytes (take l.place l.names)) (map string_bytes (drop l.place l.names)) ≡ again [] (map string_bytes l.names)
