use Rattle.std.proofs.Common.{◌≡◌, ◌++◌, length}
use Rattle.std.specs.List.{All}
use Rattle.tables_journal.specs.Journal.{changes_text, IsSound}
use Rattle.tables_journal.proofs.change_text.read_changes.Given as goal

abbrev pub invariant-loop-rest : goal.invariant-loop-rest
invariant-loop-rest l = record {
  text : l.bytes ≡ changes_text l.changes.items ++ l.rest;
  sound : All IsSound l.changes.items;
}

abbrev pub decreases-loop-rest : goal.decreases-loop-rest
decreases-loop-rest l = length l.rest
