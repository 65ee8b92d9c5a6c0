use Rattle.std.proofs.Common.{◌≡◌, map, drop}
use Rattle.std.specs.List.{list_all}
use Rattle.less_terms.specs.Paths.{is_path}
use Rattle.app_load.specs.Applications.{text_of}
use Rattle.app_files.proofs.limits.are_paths.Given as goal

abbrev pub invariant-loop-path : goal.invariant-loop-path
invariant-loop-path l = list_all (λ t. is_path t.0) (map text_of l.files) ≡ list_all (λ t. is_path t.0) (map text_of (drop l.path-index l.files))
