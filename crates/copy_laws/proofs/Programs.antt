-- An accepted copy is the copy of trees that an application may have.
use Rattle.std.proofs.Common.{ℕ, ◌≤◌, List, [], ◌∷◌, sym, ap, subst, ◌∙◌, String, Vec}
use Rattle.std.specs.declared.alloc.Global.{Global}
use Rattle.app_load.specs.declared.judge.Setting.TheVariants.{Copy}
use Rattle.app_load.specs.Applications.{IsProgram}
use Rattle.app_load.specs.Files.{File}
use Rattle.app_load.specs.Twice.{first_twice, first_leaving}
use Rattle.copy_laws.specs.Exact.{FilesExact}
use Rattle.copy_laws.specs.Originals.{kept_in, PassRules, MayBeApplication, AreOriginal}
use Rattle.copy_laws.specs.Restored.{restored_files}
use Rattle.copy_laws.proofs.Accepted.{entries_once, accepted_passes, accepted_few}
use Rattle.copy_laws.proofs.Originals.{originals}
use Rattle.copy_laws.proofs.Restoring.{files_free, found_or_none, files_counted}

rules_kept : (gs : List File) → PassRules gs → PassRules (restored_files gs)
rules_kept [] r = tt {0}
rules_kept (g ∷ gs) r = ((ap first_twice (found_or_none g.tree) ∙ r.0.0, ap first_leaving (found_or_none g.tree) ∙ r.0.1), rules_kept gs r.1)

abbrev Given : Type 0
Given = List (String Global × Vec ℕ Global)

pub program_originals : (given : Given) (gs : List File) → IsProgram given gs → FilesExact gs → AreOriginal (kept_in gs) (restored_files gs) gs
program_originals given gs is exact = originals gs exact (entries_once Copy given gs is)

pub program_application : (given : Given) (gs : List File) → IsProgram given gs → MayBeApplication (restored_files gs)
program_application given gs is = record {
  free = files_free gs;
  rules = rules_kept gs (accepted_passes Copy given gs is);
  few = subst (λ n. n ≤ 20000) (sym (files_counted gs)) (accepted_few Copy given gs is);
}
