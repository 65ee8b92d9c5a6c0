use Rattle.std.proofs.Common.{◌≡◌, ◌+◌, drop, map, string_bytes}
use Rattle.role_routing.specs.Files.{number_from}
use Rattle.role_routing.proofs.read.place_of.Given as goal

abbrev pub invariant-loop-place : goal.invariant-loop-place
invariant-loop-place l = number_from (l.place + 1) l.name (map string_bytes (drop l.place l.names)) ≡ number_from 1 l.name (map string_bytes l.names)
