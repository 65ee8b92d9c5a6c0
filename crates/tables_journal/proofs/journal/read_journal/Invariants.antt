use Rattle.std.proofs.Common.{◌≡◌, ◌++◌, ◌≤◌, ◌-◌, drop, length}
use Rattle.tables_keeper.specs.Tables.{tables_of}
use Rattle.tables_journal.specs.Journal.{IsLoaded}
use Rattle.tables_journal.proofs.journal.read_journal.Given as goal

abbrev pub invariant-loop-content : goal.invariant-loop-content
invariant-loop-content l = IsLoaded l.bytes l.rest (tables_of l.tables)

abbrev pub decreases-loop-content : goal.decreases-loop-content
decreases-loop-content l = length l.rest
