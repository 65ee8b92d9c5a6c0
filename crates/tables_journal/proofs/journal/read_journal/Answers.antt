use Rattle.std.proofs.Common.{◌≡◌, ◌∙◌, ◌-◌, ◌<◌, ◌++◌, ◌∷◌, length, drop, rules, arith}
use Rattle.tables_keeper.specs.Tables.{tables_of}
use Rattle.tables_journal.specs.Texts.{text_of}
use Rattle.tables_journal.specs.Journal.{IsNoChanges, HasNoCommit, EndsEarly, EndsNotEarly}
use Rattle.tables_journal.proofs.JournalLemmas.{rest_at}
use Rattle.tables_journal.proofs.ReadBack.{no_journal_end, no_journal_changes, only_loaded}
use Rattle.tables_journal.proofs.journal.read_journal.Goals as goal

pub returns-in_err-changes-clause-bad : goal.returns-in_err-changes-clause-bad
returns-in_err-changes-clause-bad c = λ bad.
    let none : IsNoChanges c.in-Some.content.now = c.in_err-changes.ensures.bad (search (rules, bad)) in
    let found : c.loop-content.rest.now ≡ (99 ∷ text_of c.in-Some.content.now) ++ c.in-Some.behind.now = search rules in
    no_journal_changes c.args.bytes.now c.loop-content.rest.now c.in-Some.content.now c.in-Some.behind.now (tables_of c.loop-content.tables) (omega arith) c.loop-content.invariant found none

pub returns-then-not-ends_early-clause-bad : goal.returns-then-not-ends_early-clause-bad
returns-then-not-ends_early-clause-bad c = λ bad.
    let none : HasNoCommit c.loop-content.rest.now = search (rules, c.in_default.ensures.none) in
    let other : EndsNotEarly c.loop-content.rest.now = search (rules, c.if-not-ends_early.ensures.other) in
    no_journal_end c.args.bytes.now c.loop-content.rest.now (tables_of c.loop-content.tables) (omega arith) c.loop-content.invariant none other

pub returns-clause-only : goal.returns-clause-only
returns-clause-only c = λ commits tail sound early whole.
    let bytes = c.args.bytes.now in
    let rest = c.loop-content.rest.now in
    let tables = tables_of c.loop-content.tables in
    let ends : EndsEarly c.loop-content.rest.now = search (rules, c.if-not-ends_early.ensures.early) in
    let only = only_loaded bytes rest tables (omega arith) c.loop-content.invariant ends commits tail sound early whole in
    (only.0, rest_at bytes rest tables c.loop-content.invariant ∙ only.1)
