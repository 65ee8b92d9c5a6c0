use Rattle.std.proofs.Common.{◌≡◌, ◌∙◌, ◌+◌, ◌++◌, ◌∷◌, [], ℕ, List, length, get_or, take, ap, sym, rules, arith}
use Rattle.std.proofs.lemmas.List.Elements.{All-push}
use Rattle.tables_keeper.specs.declared.cell.Column.{Column}
use Rattle.tables_journal.specs.RowText.{row_text, column_text}
use Rattle.tables_journal.proofs.TextLemmas.{take_item}
use Rattle.tables_journal.proofs.RowTextLemmas.{FitsColumn, row_push}
use Rattle.tables_journal.proofs.row_text.row_bytes.Goals as goal

pub loop-column-preserved : goal.loop-column-preserved
loop-column-preserved c =
    let row = c.args.row.now in
    let i = c.loop-column.column-index in
    let item = c.column-item.result in
    let at : item ≡ get_or row i item = search rules in
    let next : take (i + 1) row ≡ take i row ++ item ∷ [] = take_item row i item (omega (arith, ap (λ (l : List Column). length l) c.columns-column-items.ensures.columns)) at in
    record {
      text = c.in_ok-push_column.ensures.text ∙ ap (λ (l : List ℕ). l ++ column_text item) c.loop-column.invariant.text ∙ sym (row_push (take i row) item) ∙ ap (λ (l : List Column). row_text l) (sym next);
      fits = rw next (All-push FitsColumn (take i row) item c.loop-column.invariant.fits c.in_ok-push_column.ensures.fits);
    }
