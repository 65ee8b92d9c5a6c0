-- A keeper over a journal.
use Rattle.std.specs.Prelude.{◌≡◌, ℕ, List, false, string_bytes}
use Rattle.tables_journal.specs.declared.journal_keeper.JournalKeeper.{JournalKeeper}

-- how often a load has failed, and a commit
abbrev pub load_faults_of : {R F D : Type 0} → JournalKeeper R F D → ℕ
load_faults_of keeper = keeper.load_faults

abbrev pub commit_faults_of : {R F D : Type 0} → JournalKeeper R F D → ℕ
commit_faults_of keeper = keeper.commit_faults

-- it has this runtime and this path, and nothing has failed
pub record IsNewJournalKeeper {R F D : Type 0} (keeper : JournalKeeper R F D) (runtime : R) (place : List ℕ) : Type 0 where
  pub over : keeper.rt ≡ runtime
  pub at : string_bytes keeper.path ≡ place
  pub whole : keeper.is_broken ≡ false
  pub no_load_fault : keeper.load_faults ≡ 0
  pub no_commit_fault : keeper.commit_faults ≡ 0

-- the counts are as before
pub record HasFaultsOf {R F D : Type 0} (old new : JournalKeeper R F D) : Type 0 where
  pub loads : new.load_faults ≡ old.load_faults
  pub commits : new.commit_faults ≡ old.commit_faults
