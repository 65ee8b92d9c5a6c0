-- The run of a copy of an application is the cut of the application's run.
use Rattle.std.proofs.Common.{◌≡◌, ℕ, List, ap, ◌∙◌}
use Rattle.app_load.specs.Files.{File}
use Rattle.app_load.specs.Kept.{Keeps}
use Rattle.app_load.specs.Parts.{parts, part_at}
use Rattle.app_load.specs.Copies.{IsCopyOf}
use Rattle.app_load.specs.CopyParts.{StandOnce, paths_of}
use Rattle.app_load.proofs.CopyParts.{copy_parts, same_paths}
use Rattle.php_meaning.specs.Trace.{Input, trace, trace_by}
use Rattle.php_meaning.specs.Cut.{cut}
use Rattle.php_meaning.proofs.Copies.{traces_alike}

pub copies_cut : (keeps : Keeps) (fs gs : List File) (i : Input) (budget : ℕ) → StandOnce (parts fs) → IsCopyOf keeps fs gs → trace (parts gs) i budget ≡ cut keeps (trace (parts fs) i budget)
copies_cut keeps fs gs i budget once h =
    ap (λ files. trace_by (part_at (parts gs)) files i budget) (same_paths keeps fs gs h)
    ∙ traces_alike keeps (part_at (parts fs)) (part_at (parts gs)) (copy_parts keeps fs gs once h) (paths_of (parts fs)) i budget
