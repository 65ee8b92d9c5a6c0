use Rattle.std.proofs.Common.{◌≡◌, drop, map, string_bytes}
use Rattle.std.specs.HashSet.{contains_text}
use Rattle.keep_lists.specs.Known.{unknown_in}
use Rattle.keep_lists.proofs.check.unknown_in.Given as goal

abbrev pub invariant-loop-text : goal.invariant-loop-text
invariant-loop-text l = unknown_in (contains_text l.known) (map string_bytes (drop l.text-index l.list)) ≡ unknown_in (contains_text l.known) (map string_bytes l.list)
