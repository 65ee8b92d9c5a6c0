-- A folder has one list of texts below a path, and so one outcome.
use Rattle.std.proofs.Common.{◌≡◌, ℕ, List, sym, subst}
use Rattle.less_outside.specs.Files.{Files}
use Rattle.app_load.specs.declared.judge.Setting.{Setting}
use Rattle.app_load.specs.Applications.{Text, Outcome, IsOutcome}
use Rattle.app_files.proofs.Sorting.{same_members}
use Rattle.app_loader.proofs.OneOutcome.{one_of}
use Rattle.app_reading.specs.Texts.{AreTextsIn, IsOutcomeIn}

one_list : (below : List ℕ) (files : Files) (xs ys : List Text) → AreTextsIn below files xs → AreTextsIn below files ys → xs ≡ ys
one_list below files xs ys a b =
    same_members xs ys a.ascending b.ascending (λ t m. (b.exact t).1 ((a.exact t).0 m)) (λ t m. (a.exact t).1 ((b.exact t).0 m))

pub one_outcome : (setting : Setting) (below : List ℕ) (files : Files) (o p : Outcome) → IsOutcomeIn setting below files o → IsOutcomeIn setting below files p → o ≡ p
one_outcome setting below files o p a b =
    let same = one_list below files a.texts b.texts a.texts_in b.texts_in in
    one_of setting a.texts o p a.told (subst (λ ts. IsOutcome setting ts p) (sym same) b.told)
