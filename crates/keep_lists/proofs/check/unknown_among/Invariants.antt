use Rattle.std.proofs.Common.{◌≡◌, drop, map}
use Rattle.role_routing.specs.Names.{keep_of}
use Rattle.std.specs.HashSet.{contains_text}
use Rattle.keep_lists.specs.Known.{unknown_among}
use Rattle.keep_lists.proofs.check.unknown_among.Given as goal

abbrev pub invariant-loop-list : goal.invariant-loop-list
invariant-loop-list l = unknown_among (contains_text l.known) (map keep_of (drop l.list-index l.lists)) ≡ unknown_among (contains_text l.known) (map keep_of l.lists)
