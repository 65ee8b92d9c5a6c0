-- The texts of an application, or of a copy of it, that stands in a folder, and what is told of them.
use Rattle.std.specs.Prelude.{◌≡◌, ◌↔◌, ℕ, true, List, map, Some, ⊤, Result, IsErrOf}
use Rattle.std.specs.List.{Contains}
use Rattle.std.specs.List.Sorted.{IsStrictlySortedBy}
use Rattle.std.specs.Ordering.{nat_cmp}
use Rattle.std.specs.Cmp.Lexicographic.{slice_cmp}
use Rattle.std.specs.FinMap as fin
use Rattle.less_terms.specs.Causes.{Rose, Steady}
use Rattle.less_outside.specs.Files.{Files}
use Rattle.app_load.specs.declared.judge.Setting.{Setting}
use Rattle.app_load.specs.Applications.{Text, Outcome, IsOutcome, first_limit}
use Rattle.app_reading.specs.declared.fault.TextsFault.{TextsFault}
use Rattle.app_reading.specs.declared.fault.TextsFault.TheVariants.{Limit, ReadFault, Memory}
use Rattle.app_reading.specs.Parts.{is_part, whole}

-- The texts of the application below a folder's path: each file there whose path is one of an application, with the path cut
-- of the folder's, in byte order of the paths, none twice.
pub record AreTextsIn (below : List ℕ) (files : Files) (texts : List Text) : Type 0 where
  pub ascending : IsStrictlySortedBy (slice_cmp nat_cmp) (map (λ t. t.0) texts)
  pub exact : (t : Text) → Contains texts t ↔ ((is_part t.0 ≡ true) × (fin.get files (whole below t.0) ≡ Some t.1))

-- what is told of the application, or of the copy, below a folder's path
pub record IsOutcomeIn (setting : Setting) (below : List ℕ) (files : Files) (o : Outcome) : Type 0 where
  pub texts : List Text
  pub texts_in : AreTextsIn below files texts
  pub told : IsOutcome setting texts o

-- the first limit of the whole that the texts below a folder's path pass; a fault of a read and want of memory say nothing
abbrev pub IsLimitIn : List ℕ → Files → TextsFault → Type 0
IsLimitIn below files (Limit name) = (texts : List Text) × AreTextsIn below files texts × (first_limit texts ≡ Some name)
IsLimitIn below files ReadFault = ⊤
IsLimitIn below files Memory = ⊤

-- the count has not fallen, and this fault comes only where it rose
pub record HasReadCause {T E : Type 0} (fault : E) (before now : ℕ) (result : Result T E) : Type 0 where
  pub later : Steady before now
  pub failed : IsErrOf result fault → Rose before now
