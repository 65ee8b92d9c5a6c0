use Rattle.std.proofs.Common.{◌≡◌, ◌++◌, true, is_some, codes, rules, arith}
use Rattle.std.specs.List.{position}
use Rattle.tables_keeper.specs.Rows.{is_named}
use Rattle.tables_journal.specs.Texts.{text_of}
use Rattle.tables_journal.proofs.ReadBack.{no_cells_id}
use Rattle.tables_journal.proofs.change_text.front_cells.Goals as goal

pub returns-then-has-clause-bad : goal.returns-then-has-clause-bad
returns-then-has-clause-bad c = λ bad.
    let found : c.args.bytes.now ≡ text_of c.in-Some.text.now ++ c.in-Some.behind.now = search rules in
    let there : is_some (position (is_named (codes "id")) c.in-Ok.row) ≡ true = search rules in
    no_cells_id c.args.bytes.now c.in-Some.text.now c.in-Some.behind.now c.in-Ok.row (omega arith) found c.in-Ok.ensures.found there
