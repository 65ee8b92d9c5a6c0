use Rattle.std.proofs.Common.{rules}
use Rattle.tables_journal.proofs.RowTextLemmas.{number_parsed}
use Rattle.tables_journal.proofs.row_text.read_number.Goals as goal

pub returns-else-eq-clause-none : goal.returns-else-eq-clause-none
returns-else-eq-clause-none c = λ number fits is.
    let same = number_parsed number c.args.text.now c.parse.result fits is (search (rules, c.parse.ensures.value)) in
    search (rules, same, is)
