use Rattle.std.proofs.Common.{◌≡◌, map, take, string_bytes}
use Rattle.std.specs.List.{filter_map}
use Rattle.app_reading.specs.Parts.{part_of}
use Rattle.app_reading.proofs.paths.parts_of.Given as goal

abbrev pub invariant-loop-path : goal.invariant-loop-path
invariant-loop-path l = map string_bytes l.parts.items ≡ filter_map (part_of l.front) (map string_bytes (take l.path-index l.listed))
