-- Tables in memory: one of them in its place.
use Rattle.std.proofs.Common.{◌≡◌, ℕ, ◌<◌, List, length, get_or, set, map, take, drop, ◌++◌, ◌∷◌, ◌≤◌, ◌+◌, arith, IsTrue, ◌-◌, true, sym, ap, ◌∙◌}
use Rattle.std.proofs.lemmas.List.{map-set, set-get_or, get_or-map, map-append, take-map, drop-map}
use Rattle.std.specs.List.{insert}
use Rattle.std.proofs.lemmas.Bool.Decides.{nat_tests}
use Rattle.tables_keeper.specs.declared.cell.Column.{Column}
use Rattle.tables_keeper.specs.Rows.{row_size}
use Rattle.tables_keeper.specs.TableData.{TableData, TableView}
use Rattle.tables_keeper.specs.Undo.{CanCount}
use Rattle.tables_keeper.specs.Tables.{tables_of, table_at, no_table, row_count, total_size, fits_one_more, fits_in_place, max_rows, max_size}

abbrev pub content : TableView → TableData
content view = view.content

pub table_at_is : (views : List TableView) (place : ℕ) (d : TableView) → place < length views → d ≡ get_or views place d → table_at place (tables_of views) ≡ d.content
table_at_is views place d within is = get_or-map content views place d no_table within ∙ ap content (sym is)

-- a table that was changed in its place
pub set_view : (f : TableData → TableData) (views : List TableView) (place : ℕ) (d new : TableView) → place < length views → d ≡ get_or views place d → new.content ≡ f d.content → tables_of (set views place new) ≡ set (tables_of views) place (f (table_at place (tables_of views)))
set_view f views place d new within is e =
    map-set content views place new
    ∙ ap (λ t. set (tables_of views) place t) (e ∙ ap f (sym (table_at_is views place d within is)))

-- and one that was not
pub keep_view : (views : List TableView) (place : ℕ) (d new : TableView) → place < length views → d ≡ get_or views place d → new.content ≡ d.content → tables_of (set views place new) ≡ tables_of views
keep_view views place d new within is e = set_view (λ t. t) views place d new within is e ∙ set-get_or (tables_of views) place no_table

-- a table among the others
pub insert_view : (views : List TableView) (place : ℕ) (new : TableView) → tables_of (insert views place new) ≡ insert (tables_of views) place new.content
insert_view views place new =
    map-append content (take place views) (new ∷ drop place views)
    ∙ ap (λ (l : List TableData). l ++ new.content ∷ map content (drop place views)) (sym (take-map content place views))
    ∙ ap (λ (l : List TableData). take place (map content views) ++ new.content ∷ l) (sym (drop-map content place views))

-- what room for a row means
pub room_parts : (tables : List TableData) (cells : List Column) → IsTrue (fits_one_more tables cells) → (row_count tables < max_rows) × (total_size tables + row_size cells ≤ max_size)
room_parts tables cells fits = grind (arith, nat_tests)

pub in_place_parts : (tables : List TableData) (old new : List Column) → fits_in_place old new tables ≡ true → total_size tables - row_size old + row_size new ≤ max_size
in_place_parts tables old new fits = grind (arith, nat_tests)

-- and that it can be counted
pub room_counts : (tables : List TableData) (cells : List Column) → IsTrue (fits_one_more tables cells) → CanCount cells tables
room_counts tables cells fits = let parts = room_parts tables cells fits in record { counted = omega (arith, parts.0); sized = omega (arith, parts.1) }
