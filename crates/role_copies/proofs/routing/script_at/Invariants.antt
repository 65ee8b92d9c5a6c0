use Rattle.std.proofs.Common.{◌≡◌, drop}
use Rattle.request_map.specs.Routes.{is_script}
use Rattle.role_copies.specs.Alike.{script_paths}
use Rattle.role_copies.proofs.routing.script_at.Given as goal

abbrev pub invariant-loop-file : goal.invariant-loop-file
invariant-loop-file l = is_script (script_paths (drop l.file-index l.files)) l.path ≡ is_script (script_paths l.files) l.path
