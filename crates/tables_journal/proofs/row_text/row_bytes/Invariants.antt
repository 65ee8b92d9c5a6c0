use Rattle.std.proofs.Common.{◌≡◌, take}
use Rattle.std.specs.List.{All}
use Rattle.tables_journal.specs.RowText.{row_text}
use Rattle.tables_journal.proofs.RowTextLemmas.{FitsColumn}
use Rattle.tables_journal.proofs.row_text.row_bytes.Given as goal

abbrev pub invariant-loop-column : goal.invariant-loop-column
invariant-loop-column l = record {
  text : l.bytes.items ≡ row_text (take l.column-index l.row);
  fits : All FitsColumn (take l.column-index l.row);
}
