use Rattle.std.proofs.Common.{◌≡◌, ◌++◌, ℤ, rules, arith}
use Rattle.std.specs.Fmt.{signed_decimal}
use Rattle.tables_journal.specs.Texts.{text_of}
use Rattle.tables_journal.specs.Journal.{IsDropSound}
use Rattle.tables_journal.proofs.ReadBack.{no_place_number}
use Rattle.tables_journal.proofs.change_text.front_row.Goals as goal

pub returns-in_default-read_id-clause-bad : goal.returns-in_default-read_id-clause-bad
returns-in_default-read_id-clause-bad c = λ bad.
    let found : c.args.bytes.now ≡ text_of c.in-Some.table.now ++ c.in-Some.behind.now = search rules in
    let there : c.in-Some.behind.now ≡ text_of c.in-Some-front_text.id.now ++ c.in-Some-front_text.behind.now = search rules in
    let none : (id : ℤ) → IsDropSound id → c.in-Some-front_text.id.now ≡ signed_decimal id → ⊥ = search (rules, c.in_default-read_id.ensures.none) in
    no_place_number c.args.bytes.now c.in-Some.table.now c.in-Some.behind.now c.in-Some-front_text.id.now c.in-Some-front_text.behind.now (omega arith) found there none
