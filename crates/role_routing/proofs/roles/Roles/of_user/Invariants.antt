use Rattle.std.proofs.Common.{◌≡◌, drop, map}
use Rattle.role_routing.specs.Names.{user_of}
use Rattle.role_routing.specs.Held.{role_of}
use Rattle.role_routing.proofs.roles.Roles.of_user.Given as goal

abbrev pub invariant-loop-name : goal.invariant-loop-name
invariant-loop-name l = role_of l.user (map user_of (drop l.name-index l.name-items)) ≡ role_of l.user (map user_of l.name-items)
