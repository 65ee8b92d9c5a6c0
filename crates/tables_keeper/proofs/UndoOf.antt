-- What each change leaves to be taken back.
use Rattle.std.proofs.Common.{◌≡◌, ℕ, ◌+◌, ◌-◌, ◌<◌, ◌≤◌, ◌^◌, List, [], ◌∷◌, ◌++◌, length, get_or, set, None, codes, refl, sym, ap, ◌∙◌, subst, arith}
use Rattle.std.specs.List.{insert, remove, position}
use Rattle.std.proofs.lemmas.List.{length-map, length-set, set-set, set-get_or, get_or-set_same, get_or_default}
use Rattle.std.proofs.lemmas.List.Edits.{length-remove, length-insert, get_or-insert_at, insert_end}
use Rattle.std.proofs.lemmas.List.Sums.{sum_by-set, sum_by-cons, get_or-le-sum_by}
use Rattle.std.proofs.lemmas.List.Sorted.{IsPermutation-remove, sum_by-IsPermutation}
use Rattle.tables_keeper.specs.declared.cell.Column.{Column}
use Rattle.tables_keeper.specs.declared.table.Row.{Row as RowItem}
use Rattle.tables_keeper.specs.declared.undo.Undo.{Undo}
use Rattle.tables_keeper.specs.declared.undo.Undo.TheVariants.{Table, Row, Cells, Gone}
use Rattle.tables_keeper.specs.Rows.{is_named, row_size}
use Rattle.tables_keeper.specs.TableData.{TableData, TableView, IsTable, no_row, table_size, rows_before, with_cells, without_row, with_new_row, with_row_at, with_raised}
use Rattle.tables_keeper.specs.Tables.{tables_of, table_at, no_table, row_count, total_size, row_at}
use Rattle.tables_keeper.specs.Undo.{view_at, content_at, change_at, without_put, with_row_back, taken_back, CanCount, Grown, HasRoomAt, IsUndoOf}
use Rattle.tables_keeper.proofs.ViewLemmas.{content}
use Rattle.tables_keeper.proofs.Edits.{remove_inserted, insert_removed}
use Rattle.tables_keeper.proofs.TotalLemmas.{size_of}
use Rattle.tables_keeper.proofs.UndoLemmas.{content_is, grown_itself, new_content, back_at, change_contents, room_of_change}

-- ---- one table

-- a new last row, taken away
pub pushed_back : (cells : List Column) (table : TableData) → without_put (length table.rows) table.top (with_new_row cells table) ≡ table
pushed_back cells table =
    let row : RowItem = record { id = table.top + 1; cells = cells } in
    let e : remove (table.rows ++ row ∷ []) (length table.rows) ≡ table.rows =
    ap (λ l. remove l (length table.rows)) (sym (insert_end table.rows row)) ∙ remove_inserted table.rows (length table.rows) row (omega arith) in
    ap (λ rows. record { name = table.name; top = table.top; rows = rows }) e

-- a row put among the others, taken away
pub put_back_again : (id place : ℕ) (cells : List Column) (table : TableData) → place ≡ rows_before id table.rows → place ≤ length table.rows → without_put place table.top (with_row_at id cells (with_raised id table)) ≡ table
put_back_again id place cells table is le =
    let row : RowItem = record { id = id; cells = cells } in
    let e : remove (insert table.rows (rows_before id table.rows) row) place ≡ table.rows = rw (← is) (remove_inserted table.rows place row le) in
    ap (λ rows. record { name = table.name; top = table.top; rows = rows }) e

-- the old cells, put in the place of others
pub cells_back : (place : ℕ) (cells : List Column) (table : TableData) → place < length table.rows → with_cells place (row_at place table).cells (with_cells place cells table) ≡ table
cells_back place cells table within =
    let other : RowItem = record { id = (row_at place table).id; cells = cells } in
    let there : get_or (set table.rows place other) place no_row ≡ other = get_or-set_same table.rows place other no_row within in
    let e : set (set table.rows place other) place (record { id = (get_or (set table.rows place other) place no_row).id; cells = (row_at place table).cells }) ≡ table.rows =
    ap (λ (r : RowItem). set (set table.rows place other) place (record { id = r.id; cells = (row_at place table).cells })) there
    ∙ set-set table.rows place other (row_at place table)
    ∙ set-get_or table.rows place no_row in
    ap (λ rows. record { name = table.name; top = table.top; rows = rows }) e

-- a row taken away, put back
pub row_back : (place : ℕ) (table : TableData) → place < length table.rows → with_row_back place (row_at place table).id (row_at place table).cells (without_row place table) ≡ table
row_back place table within =
    ap (λ rows. record { name = table.name; top = table.top; rows = rows }) (insert_removed table.rows place no_row within)

-- ---- the counts

pub total_set : (tables : List TableData) (t : ℕ) (new : TableData) → t < length tables → total_size (set tables t new) + table_size (table_at t tables).rows ≡ total_size tables + table_size new.rows
total_set tables t new within = sum_by-set (λ (t : TableData). table_size t.rows) tables t new no_table within

pub count_set : (tables : List TableData) (t : ℕ) (new : TableData) → t < length tables → row_count (set tables t new) + length (table_at t tables).rows ≡ row_count tables + length new.rows
count_set tables t new within = sum_by-set (λ (t : TableData). length t.rows) tables t new no_table within

pub cells_size : (table : TableData) (place : ℕ) (cells : List Column) → place < length table.rows → table_size (with_cells place cells table).rows + row_size (row_at place table).cells ≡ table_size table.rows + row_size cells
cells_size table place cells within = sum_by-set size_of table.rows place (record { id = (row_at place table).id; cells = cells }) no_row within

pub removed_size : (table : TableData) (place : ℕ) → place < length table.rows → table_size table.rows ≡ row_size (row_at place table).cells + table_size (remove table.rows place)
removed_size table place within =
    let gone = row_at place table in
    sym (sum_by-IsPermutation size_of _ _ (IsPermutation-remove table.rows place gone within (get_or_default table.rows place no_row gone within)))
    ∙ sum_by-cons size_of gone (remove table.rows place)

-- ---- the changes

pub undo_row : (t place top : ℕ) (old new : List TableView) (x : TableData) → t < length old → HasRoomAt t old new → tables_of new ≡ set (tables_of old) t x → place < length x.rows → without_put place top x ≡ table_at t (tables_of old) → IsTable (table_at t (tables_of old)).top (table_at t (tables_of old)).rows → IsUndoOf (Row t place top) old new
undo_row t place top old new x within room is inside back held =
    let here : content_at t new ≡ x = new_content t old new x within is in
    let before : without_put place top (content_at t new) ≡ table_at t (tables_of old) = ap (without_put place top) here ∙ back in
    let long : length new ≡ length old = ap length room.only ∙ length-set old t (view_at t new) in
    record {
      can = record {
        within = omega arith;
        there = rw here inside;
        table = subst (λ (d : TableData). IsTable d.top d.rows) (sym before) held;
      };
      back = back_at t (without_put place top) old new x within room is back;
    }

pub undo_cells : (t place : ℕ) (cells more : List Column) (old new : List TableView) → t < length old → new ≡ change_at t (with_cells place more) old → place < length (table_at t (tables_of old)).rows → cells ≡ (row_at place (table_at t (tables_of old))).cells → IsTable (table_at t (tables_of old)).top (table_at t (tables_of old)).rows → total_size (tables_of old) < 2 ^ 64 → IsUndoOf (Cells t place cells) old new
undo_cells t place cells more old new within is inside were held small =
    let table = table_at t (tables_of old) in
    let x = with_cells place more table in
    let contents : tables_of new ≡ set (tables_of old) t x = ap tables_of is ∙ change_contents t (with_cells place more) old within in
    let room : HasRoomAt t old new = rw is (room_of_change t (with_cells place more) old within) in
    let here : content_at t new ≡ x = new_content t old new x within contents in
    let wide : t < length (tables_of old) = omega (arith, length-map old content) in
    let there : get_or x.rows place no_row ≡ record { id = (row_at place table).id; cells = more } = get_or-set_same table.rows place _ no_row inside in
    let now : row_size (row_at place (content_at t new)).cells ≡ row_size more = ap (λ (d : TableData). row_size (row_at place d).cells) here ∙ ap (λ (r : RowItem). row_size r.cells) there in
    let size = total_set (tables_of old) t x wide in
    let whole = cells_size table place more inside in
    let total : total_size (tables_of new) ≡ total_size (set (tables_of old) t x) = ap total_size contents in
    let mine : row_size cells ≡ row_size (row_at place table).cells = ap row_size were in
    let long : length new ≡ length old = ap length room.only ∙ length-set old t (view_at t new) in
    let given = held.given place no_row inside in
    let one = get_or-le-sum_by size_of table.rows place no_row inside in
    let all = get_or-le-sum_by (λ (t : TableData). table_size t.rows) (tables_of old) t no_table wide in
    record {
      can = record {
        within = omega arith;
        there = rw here (omega (arith, length-set table.rows place (record { id = (row_at place table).id; cells = more })));
        plain = rw were given.plain;
        sized = omega arith;
      };
      back = back_at t (with_cells place cells) old new x within room contents (rw were (cells_back place more table inside));
    }

pub undo_gone : (t place id : ℕ) (cells : List Column) (old new : List TableView) → t < length old → new ≡ change_at t (without_row place) old → place < length (table_at t (tables_of old)).rows → id ≡ (row_at place (table_at t (tables_of old))).id → cells ≡ (row_at place (table_at t (tables_of old))).cells → length (content_at t new).rows < (view_at t new).room → IsTable (table_at t (tables_of old)).top (table_at t (tables_of old)).rows → row_count (tables_of old) < 2 ^ 64 → total_size (tables_of old) < 2 ^ 64 → IsUndoOf (Gone t place id cells) old new
undo_gone t place id cells old new within is inside was were free held few small =
    let table = table_at t (tables_of old) in
    let x = without_row place table in
    let contents : tables_of new ≡ set (tables_of old) t x = ap tables_of is ∙ change_contents t (without_row place) old within in
    let room : HasRoomAt t old new = rw is (room_of_change t (without_row place) old within) in
    let here : content_at t new ≡ x = new_content t old new x within contents in
    let wide : t < length (tables_of old) = omega (arith, length-map old content) in
    let back : with_row_back place id cells x ≡ table = rw (was, were) (row_back place table inside) in
    let before : with_row_back place id cells (content_at t new) ≡ table = ap (with_row_back place id cells) here ∙ back in
    let size = total_set (tables_of old) t x wide in
    let count = count_set (tables_of old) t x wide in
    let whole = removed_size table place inside in
    let fewer = length-remove table.rows place inside in
    let total : total_size (tables_of new) ≡ total_size (set (tables_of old) t x) = ap total_size contents in
    let rows : row_count (tables_of new) ≡ row_count (set (tables_of old) t x) = ap row_count contents in
    let mine : row_size cells ≡ row_size (row_at place table).cells = ap row_size were in
    let long : length new ≡ length old = ap length room.only ∙ length-set old t (view_at t new) in
    record {
      can = record {
        within = omega arith;
        there = rw here (omega arith);
        table = subst (λ (d : TableData). IsTable d.top d.rows) (sym before) held;
        room = free;
        count = record { counted = omega arith; sized = omega arith };
      };
      back = back_at t (with_row_back place id cells) old new x within room contents back;
    }

pub undo_table : (t : ℕ) (old new : List TableView) (view : TableView) → t ≤ length old → new ≡ insert old t view → length view.content.rows ≡ 1 → IsUndoOf (Table t) old new
undo_table t old new view within is single =
    let long = length-insert old t view within in
    let here : view_at t new ≡ view = ap (view_at t) is ∙ get_or-insert_at old t view _ within in
    record {
      can = record {
        within = omega (arith, ap (λ (l : List TableView). length l) is, long);
        single = ap (λ (v : TableView). length v.content.rows) here ∙ single;
      };
      back = rw is (subst (λ l. Grown old l) (sym (remove_inserted old t view within)) (grown_itself old));
    }
