use Rattle.std.proofs.Common.{rules, arith}
use Rattle.tables_journal.specs.RowText.{HasNoCell}
use Rattle.tables_journal.proofs.RowTextLemmas.{no_column_cell}
use Rattle.tables_journal.proofs.row_text.front_column.Goals as goal

pub returns-in_err-cell-clause-none : goal.returns-in_err-cell-clause-none
returns-in_err-cell-clause-none c = λ bad.
    let none : HasNoCell c.in-Some.behind.now = c.in_err-cell.ensures.none (search (rules, bad)) in
    no_column_cell c.args.bytes.now c.in-Some.name.now c.in-Some.behind.now (omega arith) (search rules) none
