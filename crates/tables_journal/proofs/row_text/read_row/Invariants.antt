use Rattle.std.proofs.Common.{◌≡◌, ◌++◌, length}
use Rattle.std.specs.List.{All}
use Rattle.tables_keeper.specs.Rows.{HasDistinctNames}
use Rattle.tables_journal.specs.RowText.{row_text}
use Rattle.tables_journal.proofs.RowTextLemmas.{FitsColumn}
use Rattle.tables_journal.proofs.row_text.read_row.Given as goal

abbrev pub invariant-loop-rest : goal.invariant-loop-rest
invariant-loop-rest l = record {
  text : l.bytes ≡ row_text l.row ++ l.rest;
  fits : All FitsColumn l.row;
  distinct : HasDistinctNames l.row;
}

abbrev pub decreases-loop-rest : goal.decreases-loop-rest
decreases-loop-rest l = length l.rest
