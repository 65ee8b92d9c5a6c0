-- What the calls of a keeper answer, and a keeper in memory as a value.
use Rattle.std.specs.Prelude.{ℕ, Bool, List, Result, IsErrOf, if◌then◌else◌}
use Rattle.less_terms.specs.Causes.{Rose, Steady}
use Rattle.less_outside.specs.Told.{next, is_listed}
use Rattle.tables_keeper.specs.TableData.{TableData}
use Rattle.tables_journal.specs.declared.keeper.KeeperFault.{KeeperFault}
use Rattle.tables_journal.specs.declared.keeper.KeeperFault.TheVariants.{Failed}

-- the count has not fallen, and `Failed` comes only where it rose
pub record HasKeeperCause {T : Type 0} (before now : ℕ) (result : Result T KeeperFault) : Type 0 where
  pub later : Steady before now
  pub failed : IsErrOf result Failed → Rose before now

pub record KeeperState : Type 0 where
  pub tables : List TableData
  -- the numbers of the calls that fail
  pub failing : List ℕ
  -- how many calls there were
  pub calls : ℕ
  -- how many loads failed, and how many commits
  pub load_faults : ℕ
  pub commit_faults : ℕ

-- the keeper before its first call
abbrev pub new_keeper : List TableData → List ℕ → KeeperState
new_keeper tables failing = record { tables = tables; failing = failing; calls = 0; load_faults = 0; commit_faults = 0 }

-- the next call fails
abbrev pub is_failing : KeeperState → Bool
is_failing keeper = is_listed keeper.failing keeper.calls

-- one call later
abbrev pub called : KeeperState → KeeperState
called keeper = record keeper { calls = next keeper.calls }

-- the keeper after a load
abbrev pub after_load : KeeperState → KeeperState
after_load keeper = if is_failing keeper then record keeper { calls = next keeper.calls; load_faults = next keeper.load_faults } else called keeper

-- the keeper after a commit that makes these tables, where it is done
abbrev pub after_commit : KeeperState → List TableData → Bool → KeeperState
after_commit keeper tables done =
    if is_failing keeper
    then record keeper { calls = next keeper.calls; commit_faults = next keeper.commit_faults }
    else record keeper { calls = next keeper.calls; tables = if done then tables else keeper.tables }
