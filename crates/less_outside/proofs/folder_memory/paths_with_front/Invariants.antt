use Rattle.std.proofs.Common.{◌≡◌, map, filter, nat_eq, string_bytes}
use Rattle.std.specs.List.{starts_with}
use Rattle.less_outside.proofs.folder_memory.paths_with_front.Given as goal

abbrev pub invariant-loop-path : goal.invariant-loop-path
invariant-loop-path l = map string_bytes l.paths.items ≡ filter (λ path. starts_with nat_eq path l.front) (map string_bytes (map (λ key. key.now) l.yielded))
