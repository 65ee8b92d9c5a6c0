use Rattle.std.proofs.Common.{◌≡◌, ◌||◌, List, ℕ, drop, map, string_bytes}
use Rattle.std.specs.List.{list_any}
use Rattle.std.specs.HashSet.{contains_text}
use Rattle.keep_lists.specs.Known.{names_file}
use Rattle.keep_lists.proofs.known.add_files.Given as goal

abbrev pub invariant-loop-path : goal.invariant-loop-path
invariant-loop-path l = (t : List ℕ) → (list_any (names_file t) (map string_bytes (drop l.path-index l.paths)) || contains_text l.texts t) ≡ (list_any (names_file t) (map string_bytes l.paths) || contains_text l.initial.texts t)
