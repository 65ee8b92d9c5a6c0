use Rattle.std.proofs.Common.{◌≡◌, take}
use Rattle.tables_journal.specs.Journal.{changes_text}
use Rattle.tables_journal.proofs.journal.changes_bytes.Given as goal

abbrev pub invariant-loop-change : goal.invariant-loop-change
invariant-loop-change l = l.bytes.items ≡ changes_text (take l.change-index l.changes)
