-- The counts of all tables after a change of one.
use Rattle.std.proofs.Common.{◌≡◌, ℕ, ◌+◌, ◌-◌, ◌<◌, ◌≤◌, ◌^◌, min, List, [], ◌∷◌, length, get_or, set, None, IsTrue, true, ◌&&◌, nat_le, refl, arith, sym, ap, ◌∙◌}
use Rattle.std.proofs.lemmas.Bool.Decides.{nat_tests}
use Rattle.std.specs.List.{insert, remove}
use Rattle.std.proofs.lemmas.List.{length-set, length_push, get_or_default}
use Rattle.std.proofs.lemmas.List.Edits.{length-remove, length-insert}
use Rattle.std.proofs.lemmas.List.Sums.{sum_by-set, sum_by-cons, sum_by_push, get_or-le-sum_by}
use Rattle.std.proofs.lemmas.List.Sorted.{IsPermutation-insert, IsPermutation-remove, sum_by-IsPermutation}
use Rattle.tables_keeper.specs.declared.cell.Column.{Column}
use Rattle.tables_keeper.specs.declared.table.Row.{Row}
use Rattle.tables_keeper.specs.Rows.{row_size}
use Rattle.tables_keeper.specs.TableData.{TableData, table_size, no_row, with_new_row, with_cells, without_row, with_put}
use Rattle.tables_keeper.specs.Tables.{IsTables, table_at, row_at, no_table, new_table, table_place, tables_before, total_size, fits_one_more, row_fits, fits_in_place, name_cmp, max_row_size, max_size}
use Rattle.tables_keeper.specs.Undo.{CanCount, without_put}
use Rattle.std.specs.declared.cmp.Ordering.TheVariants.{Less}
use Rattle.tables_keeper.proofs.Edits.{AllPairs-remove}
use Rattle.tables_keeper.proofs.NameLemmas.{tables_set, tables_insert}
use Rattle.tables_keeper.proofs.ViewLemmas.{room_parts}

abbrev pub size_of : Row → ℕ
size_of row = row_size row.cells

pub pushed_tables : (tables : List TableData) (place : ℕ) (cells : List Column) (rows size counted : ℕ) → IsTables tables rows size → place < length tables → counted ≡ min (row_size cells) (2 ^ 64 - 1) → IsTrue (fits_one_more tables cells) → IsTables (set tables place (with_new_row cells (table_at place tables))) (rows + 1) (size + counted)
pushed_tables tables place cells rows size counted old within is fits =
    let table = table_at place tables in
    let row : Row = record { id = table.top + 1; cells = cells } in
    let more = length_push table.rows row in
    let larger = sum_by_push size_of table.rows row in
    let room = room_parts tables cells fits in
    tables_set tables place (with_new_row cells table) rows size (rows + 1) (size + counted) old within refl (omega (arith, more)) (omega (arith, larger, room.1))

-- a row that was put among the others, or back to its place
pub inserted_tables : (tables : List TableData) (place row : ℕ) (one : Row) (new : TableData) (rows size counted : ℕ) → IsTables tables rows size → place < length tables → row ≤ length (table_at place tables).rows → new.name ≡ (table_at place tables).name → new.rows ≡ insert (table_at place tables).rows row one → counted ≡ min (row_size one.cells) (2 ^ 64 - 1) → CanCount one.cells tables → IsTables (set tables place new) (rows + 1) (size + counted)
inserted_tables tables place row one new rows size counted old within inside named is counts can =
    let table = table_at place tables in
    let more = ap (λ (l : List Row). length l) is ∙ length-insert table.rows row one inside in
    let larger = ap table_size is ∙ sum_by-IsPermutation size_of _ _ (IsPermutation-insert table.rows row one) in
    let first = sum_by-cons size_of one table.rows in
    tables_set tables place new rows size (rows + 1) (size + counted) old within named (omega (arith, more)) (omega (arith, larger, first, can.sized))

pub first_tables : (tables : List TableData) (name : List ℕ) (id : ℕ) (cells : List Column) (rows size counted : ℕ) → IsTables tables rows size → table_place name tables ≡ None → counted ≡ min (row_size cells) (2 ^ 64 - 1) → CanCount cells tables → IsTables (insert tables (tables_before name tables) (with_put id cells (new_table name))) (rows + 1) (size + counted)
first_tables tables name id cells rows size counted old absent is can =
    let new = with_put id cells (new_table name) in
    let row : Row = record { id = id; cells = cells } in
    let larger = sum_by_push size_of [] row in
    tables_insert tables new rows size (rows + 1) (size + counted) old absent refl (omega (arith, larger, can.sized))

-- a row is not larger than all rows
pub row_within : (tables : List TableData) (place row rows size : ℕ) → IsTables tables rows size → place < length tables → row < length (table_at place tables).rows → row_size (row_at row (table_at place tables)).cells ≤ size
row_within tables place row rows size old within inside =
    let one = get_or-le-sum_by size_of (table_at place tables).rows row no_row inside in
    let all = get_or-le-sum_by (λ (t : TableData). table_size t.rows) tables place no_table within in
    omega (arith, one, all, old.sized)

pub replaced_tables : (tables : List TableData) (place row : ℕ) (cells : List Column) (rows size counted_old counted : ℕ) → IsTables tables rows size → place < length tables → row < length (table_at place tables).rows → size < 2 ^ 64 → counted_old ≡ min (row_size (row_at row (table_at place tables)).cells) (2 ^ 64 - 1) → counted ≡ min (row_size cells) (2 ^ 64 - 1) → total_size tables - row_size (row_at row (table_at place tables)).cells + row_size cells < 2 ^ 64 → IsTables (set tables place (with_cells row cells (table_at place tables))) rows (size - counted_old + counted)
replaced_tables tables place row cells rows size counted_old counted old within inside small is_old is fits =
    let table = table_at place tables in
    let new : Row = record { id = (row_at row table).id; cells = cells } in
    let least = row_within tables place row rows size old within inside in
    let same = length-set table.rows row new in
    let larger = sum_by-set size_of table.rows row new no_row inside in
    tables_set tables place (with_cells row cells table) rows size rows (size - counted_old + counted) old within refl (omega (arith, same)) (omega (arith, larger, least, old.sized))

pub removed_tables : (tables : List TableData) (place row rows size counted : ℕ) → IsTables tables rows size → place < length tables → row < length (table_at place tables).rows → size < 2 ^ 64 → counted ≡ min (row_size (row_at row (table_at place tables)).cells) (2 ^ 64 - 1) → IsTables (set tables place (without_row row (table_at place tables))) (rows - 1) (size - counted)
removed_tables tables place row rows size counted old within inside small is =
    let table = table_at place tables in
    let gone = row_at row table in
    let least = row_within tables place row rows size old within inside in
    let all = get_or-le-sum_by (λ (t : TableData). length t.rows) tables place no_table within in
    let fewer = length-remove table.rows row inside in
    let moved = sum_by-IsPermutation size_of _ _ (IsPermutation-remove table.rows row gone inside (get_or_default table.rows row no_row gone inside)) in
    let larger = sum_by-cons size_of gone (remove table.rows row) in
    tables_set tables place (without_row row table) rows size (rows - 1) (size - counted) old within refl (omega (arith, fewer, all, old.counted)) (omega (arith, moved, larger, least, old.sized))

pub row_counted : (tables : List TableData) (place row rows size : ℕ) → IsTables tables rows size → place < length tables → row < length (table_at place tables).rows → 1 ≤ rows
row_counted tables place row rows size old within inside =
    let all = get_or-le-sum_by (λ (t : TableData). length t.rows) tables place no_table within in
    omega (arith, all, old.counted)

-- a row taken out of a table, its largest id set back
pub dropped_tables : (tables : List TableData) (place row top rows size counted : ℕ) → IsTables tables rows size → place < length tables → row < length (table_at place tables).rows → size < 2 ^ 64 → counted ≡ min (row_size (row_at row (table_at place tables)).cells) (2 ^ 64 - 1) → IsTables (set tables place (without_put row top (table_at place tables))) (rows - 1) (size - counted)
dropped_tables tables place row top rows size counted old within inside small is =
    let table = table_at place tables in
    let gone = row_at row table in
    let least = row_within tables place row rows size old within inside in
    let all = get_or-le-sum_by (λ (t : TableData). length t.rows) tables place no_table within in
    let fewer = length-remove table.rows row inside in
    let moved = sum_by-IsPermutation size_of _ _ (IsPermutation-remove table.rows row gone inside (get_or_default table.rows row no_row gone inside)) in
    let larger = sum_by-cons size_of gone (remove table.rows row) in
    tables_set tables place (without_put row top table) rows size (rows - 1) (size - counted) old within refl (omega (arith, fewer, all, old.counted)) (omega (arith, moved, larger, least, old.sized))

single_size : (rows : List Row) → length rows ≡ 1 → table_size rows ≡ row_size (get_or rows 0 no_row).cells
single_size [] e = absurd (omega arith)
single_size (row ∷ []) e = sum_by-cons size_of row [] ∙ omega arith
single_size (row ∷ more ∷ rows) e = absurd (omega arith)

-- a table of one row, taken away
pub removed_table : (tables : List TableData) (place rows size counted : ℕ) → IsTables tables rows size → place < length tables → length (table_at place tables).rows ≡ 1 → size < 2 ^ 64 → counted ≡ min (row_size (row_at 0 (table_at place tables)).cells) (2 ^ 64 - 1) → IsTables (remove tables place) (rows - 1) (size - counted)
removed_table tables place rows size counted old within single small is =
    let table = table_at place tables in
    let moved = IsPermutation-remove tables place table within (get_or_default tables place no_table table within) in
    let fewer = sym (sum_by-IsPermutation (λ (t : TableData). length t.rows) _ _ moved) ∙ sum_by-cons (λ (t : TableData). length t.rows) table (remove tables place) in
    let smaller = sym (sum_by-IsPermutation (λ (t : TableData). table_size t.rows) _ _ moved) ∙ sum_by-cons (λ (t : TableData). table_size t.rows) table (remove tables place) in
    let one = single_size table.rows single in
    record {
      rising = AllPairs-remove (λ a b. name_cmp a.name b.name ≡ Less) tables place within old.rising;
      counted = omega (arith, fewer, old.counted);
      sized = omega (arith, smaller, one, old.sized);
    }

row_fits_size : (cells : List Column) → row_fits cells ≡ true → row_size cells ≤ max_row_size
row_fits_size cells fits = grind (arith, nat_tests)

capped : (n : ℕ) → nat_le (min n (2 ^ 64 - 1)) max_size ≡ nat_le n max_size
capped n = grind (arith, nat_tests)

pub in_place_is : (tables : List TableData) (place row : ℕ) (cells : List Column) (rows size counted_old counted : ℕ) → IsTables tables rows size → place < length tables → row < length (table_at place tables).rows → size < 2 ^ 64 → counted_old ≡ min (row_size (row_at row (table_at place tables)).cells) (2 ^ 64 - 1) → counted ≡ min (row_size cells) (2 ^ 64 - 1) → row_fits cells ≡ true → nat_le (min (size - counted_old + counted) (2 ^ 64 - 1)) max_size ≡ fits_in_place (row_at row (table_at place tables)).cells cells tables
in_place_is tables place row cells rows size counted_old counted old within inside small is_old is fits =
    let gone = row_at row (table_at place tables) in
    let least = row_within tables place row rows size old within inside in
    let short = row_fits_size cells fits in
    let same : size - counted_old + counted ≡ total_size tables - row_size gone.cells + row_size cells = omega (arith, least, short, old.sized) in
    capped (size - counted_old + counted) ∙ ap (λ n. nat_le n max_size) same ∙ ap (λ b. b && nat_le (total_size tables - row_size gone.cells + row_size cells) max_size) (sym fits)
