use Rattle.std.proofs.Common.{◌≡◌, ◌∙◌, ◌++◌, ◌∷◌, [], ℕ, List, None, true, false, ap, sym, is_some, rules, arith}
use Rattle.std.specs.List.{position}
use Rattle.std.proofs.lemmas.List.{append_assoc, nil_from_length}
use Rattle.std.proofs.lemmas.Bool.Decides.{nat_tests}
use Rattle.std.proofs.lemmas.List.Elements.{All-push}
use Rattle.tables_keeper.specs.declared.cell.Column.{Column}
use Rattle.tables_keeper.specs.Rows.{is_named, put_at}
use Rattle.tables_keeper.proofs.RowLemmas.{distinct_push}
use Rattle.tables_journal.specs.RowText.{row_text, column_text}
use Rattle.tables_journal.proofs.TextLemmas.{none_of}
use Rattle.tables_journal.proofs.RowTextLemmas.{FitsColumn, row_push, row_alone, no_row_twice}
use Rattle.tables_journal.proofs.row_text.read_row.Goals as goal

pub returns-then-has-clause-bad : goal.returns-then-has-clause-bad
returns-then-has-clause-bad c = λ bad.
    let column = c.in_ok-column.column in
    let is : is_some (position (is_named column.name) c.loop-rest.row) ≡ true = search rules in
    no_row_twice c.loop-rest.row column c.loop-rest.rest.now c.in_ok-column.behind.now c.args.bytes.now (omega arith) c.loop-rest.invariant.fits c.in_ok-column.ensures.fits c.loop-rest.invariant.text c.in_ok-column.ensures.found
    (λ none. let e : true ≡ false = sym is ∙ ap is_some none in cc)

pub loop-rest-preserved : goal.loop-rest-preserved
loop-rest-preserved c =
    let column = c.in_ok-column.column in
    let row = c.loop-rest.row in
    let behind = c.in_ok-column.behind.now in
    let is : is_some (position (is_named column.name) row) ≡ false = search rules in
    let none : position (is_named column.name) row ≡ None = none_of _ is in
    let new : c.put.new.self ≡ row ++ column ∷ [] = c.in_ok-put.ensures.ok ∙ ap (λ o. put_at o row column) none in
    record {
      text =
          c.loop-rest.invariant.text
          ∙ ap (λ (l : List ℕ). row_text row ++ l) c.in_ok-column.ensures.found
          ∙ sym (append_assoc (row_text row) (column_text column) behind)
          ∙ ap (λ (l : List ℕ). l ++ behind) (sym (row_push row column))
          ∙ ap (λ (r : List Column). row_text r ++ behind) (sym new);
      fits = rw new (All-push FitsColumn row column c.loop-rest.invariant.fits c.in_ok-column.ensures.fits);
      distinct = rw new (distinct_push row column c.loop-rest.invariant.distinct none);
    }

pub returns-clause-found : goal.returns-clause-found
returns-clause-found c = λ columns row whole.
    let empty : c.loop-rest.rest.now ≡ [] = nil_from_length _ (first_of (search rules, omega arith, grind (arith, nat_tests))) in
    row_alone c.loop-rest.row columns c.loop-rest.rest.now c.args.bytes.now (omega arith) c.loop-rest.invariant.fits row.fits c.loop-rest.invariant.text empty whole
