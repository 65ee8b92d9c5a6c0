use Rattle.std.proofs.Common.{◌≡◌, map, drop, string_bytes}
use Rattle.std.specs.List.{list_all}
use Rattle.less_terms.specs.Paths.{is_path}
use Rattle.app_reading.proofs.texts.are_paths.Given as goal

abbrev pub invariant-loop-path : goal.invariant-loop-path
invariant-loop-path l = list_all is_path (map string_bytes l.paths) ≡ list_all is_path (map string_bytes (drop l.path-index l.paths))
