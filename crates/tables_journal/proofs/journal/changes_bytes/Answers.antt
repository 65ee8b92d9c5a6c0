use Rattle.std.proofs.Common.{◌≡◌, ◌∙◌, ◌+◌, ◌++◌, ◌∷◌, [], ℕ, List, get_or, take, ap, sym, rules, arith}
use Rattle.tables_keeper.specs.declared.operation.Change.{Change}
use Rattle.tables_journal.specs.Journal.{change_text, changes_text}
use Rattle.tables_journal.proofs.TextLemmas.{take_item}
use Rattle.tables_journal.proofs.JournalLemmas.{changes_push}
use Rattle.tables_journal.proofs.journal.changes_bytes.Goals as goal

pub loop-change-preserved : goal.loop-change-preserved
loop-change-preserved c =
    let changes = c.args.changes.now in
    let i = c.loop-change.change-index in
    let item = c.change-item.result in
    let at : item ≡ get_or changes i item = search rules in
    let next : take (i + 1) changes ≡ take i changes ++ item ∷ [] = take_item changes i item (omega arith) at in
    c.in_ok-push_change.ensures.text ∙ ap (λ (l : List ℕ). l ++ change_text item) c.loop-change.invariant ∙ sym (changes_push (take i changes) item) ∙ ap (λ (l : List Change). changes_text l) (sym next)
