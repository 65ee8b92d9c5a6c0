-- The tables, and what each operation on them answers and leaves.
use Rattle.std.specs.Prelude.{◌≡◌, ℕ, ◌+◌, ◌-◌, ◌<◌, ◌≤◌, ⊤, Bool, false, ◌&&◌, nat_lt, nat_le, if◌then◌else◌, List, [], codes, map, filter, fold, length, nat_abs, sum_by, slice_set, slice_index_or, Option, Some, None, ℤ, pos, negsuc}
use Rattle.std.specs.List.{position, prefix_len, insert, list_any, All, AllPairs}
use Rattle.std.specs.Ordering.{nat_cmp, is_lt}
use Rattle.std.specs.Cmp.Lexicographic.{slice_cmp}
use Rattle.std.specs.Str.{bytes_eq}
use Rattle.std.specs.declared.cmp.Ordering.{Ordering}
use Rattle.std.specs.declared.cmp.Ordering.TheVariants.{Less}
use Rattle.tables_keeper.specs.declared.cell.Cell.{Cell}
use Rattle.tables_keeper.specs.declared.cell.Column.{Column}
use Rattle.tables_keeper.specs.declared.operation.TableOp.{TableOp}
use Rattle.tables_keeper.specs.declared.operation.TableOp.TheVariants.{Get, All as AllRows, Find, Insert, Update, Delete}
use Rattle.tables_keeper.specs.declared.operation.TableRefusal.{TableRefusal}
use Rattle.tables_keeper.specs.declared.operation.TableRefusal.TheVariants.{NoTable, NoRow, Duplicate, Limit}
use Rattle.tables_keeper.specs.declared.operation.TableReply.{TableReply}
use Rattle.tables_keeper.specs.declared.operation.TableReply.TheVariants.{Row as OneRow, Rows, Id, Done, Refused}
use Rattle.tables_keeper.specs.declared.operation.Change.{Change}
use Rattle.tables_keeper.specs.declared.operation.Change.TheVariants.{Put, Drop}
use Rattle.tables_keeper.specs.declared.operation.Step.{Step}
use Rattle.tables_keeper.specs.declared.table.Row.{Row}
use Rattle.tables_keeper.specs.Cells.{text_form}
use Rattle.tables_keeper.specs.Rows.{cell_at, row_size, without_id, merged, has_text}
use Rattle.tables_keeper.specs.Rows.{is_named}
use Rattle.tables_keeper.specs.TableData.{TableData, TableView, row_place, table_size, shown, no_row, with_new_row, with_cells, without_row, with_put, with_top}

-- tables in memory by their contents
abbrev pub tables_of : List TableView → List TableData
tables_of views = map (λ view. view.content) views

-- the order of names: by bytes
abbrev pub name_cmp : List ℕ → List ℕ → Ordering
name_cmp a b = slice_cmp nat_cmp a b

-- the place of the table of this name
abbrev pub table_place : List ℕ → List TableData → Option ℕ
table_place name tables = position (λ table. bytes_eq table.name name) tables

-- how many tables, from the first on, have lower names
abbrev pub tables_before : List ℕ → List TableData → ℕ
tables_before name tables = prefix_len (λ table. is_lt (name_cmp table.name name)) tables

abbrev pub no_table : TableData
no_table = record { name = []; top = 0; rows = [] }

-- a table of this name without rows
abbrev pub new_table : List ℕ → TableData
new_table name = record { name = name; top = 0; rows = [] }

abbrev pub table_at : ℕ → List TableData → TableData
table_at place tables = slice_index_or tables place no_table

abbrev pub row_at : ℕ → TableData → Row
row_at place table = slice_index_or table.rows place no_row

-- ---- limits

-- the greatest count of tables, of rows in all tables together, and of columns of a row
abbrev pub max_tables : ℕ
max_tables = 100

abbrev pub max_rows : ℕ
max_rows = 100000

abbrev pub max_columns : ℕ
max_columns = 64

-- the greatest size of a row, and of all rows together
abbrev pub max_row_size : ℕ
max_row_size = 65536

abbrev pub max_size : ℕ
max_size = 67108864

-- the greatest id
abbrev pub max_id : ℕ
max_id = 9223372036854775807

abbrev pub row_count : List TableData → ℕ
row_count tables = sum_by (λ table. length table.rows) tables

abbrev pub total_size : List TableData → ℕ
total_size tables = sum_by (λ table. table_size table.rows) tables

-- whether a row is within the limits of a row
abbrev pub row_fits : List Column → Bool
row_fits cells = nat_le (length cells) max_columns && nat_le (row_size cells) max_row_size

-- whether the tables have room for one row more
abbrev pub fits_one_more : List TableData → List Column → Bool
fits_one_more tables cells = nat_lt (row_count tables) max_rows && nat_le (total_size tables + row_size cells) max_size

-- ---- operations

-- what an operation leaves, what it answers, and its change
pub record Outcome : Type 0 where
  pub tables : List TableData
  pub reply : TableReply
  pub change : Option Change

abbrev pub refused : TableRefusal → List TableData → Outcome
refused why tables = record { tables = tables; reply = Refused why; change = None }

abbrev pub answered : TableReply → List TableData → Outcome
answered reply tables = record { tables = tables; reply = reply; change = None }

abbrev pub changed : TableReply → Change → List TableData → Outcome
changed reply change tables = record { tables = tables; reply = reply; change = Some change }

-- goes on with a table, if it is there
abbrev pub on_table : Option ℕ → List TableData → (ℕ → Outcome) → Outcome
on_table (Some place) tables next = next place
on_table None tables next = refused NoTable tables

-- goes on with a row, if it is there
abbrev pub on_row : Option ℕ → List TableData → (ℕ → Outcome) → Outcome
on_row (Some place) tables next = next place
on_row None tables next = refused NoRow tables

abbrev pub got : List ℕ → ℤ → List TableData → Outcome
got name id tables =
    on_table (table_place name tables) tables (λ t.
    on_row (row_place id (table_at t tables).rows) tables (λ r.
    answered (OneRow (shown (row_at r (table_at t tables)))) tables))

abbrev pub all_of : List ℕ → List TableData → Outcome
all_of name tables =
    on_table (table_place name tables) tables (λ t.
    answered (Rows (map shown (table_at t tables).rows)) tables)

-- the rows that have this text form at a column, the id among the columns
abbrev pub rows_with_text : List ℕ → List ℕ → List Row → List (List Column)
rows_with_text column text rows = filter (has_text column text) (map shown rows)

abbrev pub found : List ℕ → List ℕ → List ℕ → List TableData → Outcome
found name column text tables =
    on_table (table_place name tables) tables (λ t.
    answered (Rows (rows_with_text column text (table_at t tables).rows)) tables)

-- whether a row has the text form of a cell at a column
abbrev pub has_cell : List ℕ → Option Cell → List Row → Bool
has_cell column None rows = false
has_cell column (Some cell) rows = list_any (λ row. has_text column (text_form cell) row.cells) rows

-- whether `unique` names a column, and a row has there what these cells have there
abbrev pub is_duplicate : List ℕ → List Column → List Row → Bool
is_duplicate unique cells rows = nat_lt 0 (length unique) && has_cell unique (cell_at unique cells) rows

-- a row that makes its table
abbrev pub fits_first : List TableData → List Column → Bool
fits_first tables cells = nat_lt (length tables) max_tables && row_fits cells && fits_one_more tables cells

abbrev pub insert_first : List ℕ → List Column → List TableData → Outcome
insert_first name cells tables =
    if fits_first tables cells
    then changed (Id (pos 1)) (Put name (pos 1) cells)
    (insert tables (tables_before name tables) (with_new_row cells (new_table name)))
    else refused Limit tables

-- a row of the table at a place
abbrev pub fits_next : ℕ → List TableData → List Column → Bool
fits_next t tables cells = nat_lt (table_at t tables).top max_id && row_fits cells && fits_one_more tables cells

abbrev pub insert_next : ℕ → List ℕ → List Column → List ℕ → List TableData → Outcome
insert_next t name cells unique tables =
    if is_duplicate unique cells (table_at t tables).rows
    then refused Duplicate tables
    else (if fits_next t tables cells
    then changed (Id (pos ((table_at t tables).top + 1))) (Put name (pos ((table_at t tables).top + 1)) cells)
    (slice_set tables t (with_new_row cells (table_at t tables)))
    else refused Limit tables)

abbrev pub insert_at : Option ℕ → List ℕ → List Column → List ℕ → List TableData → Outcome
insert_at None name cells unique tables = insert_first name cells tables
insert_at (Some t) name cells unique tables = insert_next t name cells unique tables

abbrev pub inserted : List ℕ → List Column → List ℕ → List TableData → Outcome
inserted name given unique tables = insert_at (table_place name tables) name (without_id given) unique tables

-- other cells in a row
abbrev pub fits_in_place : List Column → List Column → List TableData → Bool
fits_in_place old new tables = row_fits new && nat_le (total_size tables - row_size old + row_size new) max_size

abbrev pub update_at : ℕ → ℕ → List ℕ → ℤ → List Column → List Column → List TableData → Outcome
update_at t r name id old new tables =
    if fits_in_place old new tables
    then changed Done (Put name id new) (slice_set tables t (with_cells r new (table_at t tables)))
    else refused Limit tables

abbrev pub updated : List ℕ → ℤ → List Column → List TableData → Outcome
updated name id given tables =
    on_table (table_place name tables) tables (λ t.
    on_row (row_place id (table_at t tables).rows) tables (λ r.
    update_at t r name id (row_at r (table_at t tables)).cells (merged (row_at r (table_at t tables)).cells given) tables))

abbrev pub deleted : List ℕ → ℤ → List TableData → Outcome
deleted name id tables =
    on_table (table_place name tables) tables (λ t.
    on_row (row_place id (table_at t tables).rows) tables (λ r.
    changed Done (Drop name id) (slice_set tables t (without_row r (table_at t tables)))))

-- one operation
abbrev pub step : TableOp → List TableData → Outcome
step (Get name id) tables = got name id tables
step (AllRows name) tables = all_of name tables
step (Find name column text) tables = found name column text tables
step (Insert name given unique) tables = inserted name given unique tables
step (Update name id given) tables = updated name id given tables
step (Delete name id) tables = deleted name id tables

-- ---- changes that are done again

-- the number is an id that can be given
abbrev pub IsId : ℤ → Type 0
IsId (pos id) = 0 < id
IsId (negsuc id) = ⊥

-- an id that can be given, and no column is called `id`
pub record IsPut (id : ℤ) (cells : List Column) : Type 0 where
  pub given : IsId id
  pub plain : position (is_named (codes "id")) cells ≡ None

-- what holds of each change that an operation makes
abbrev pub IsChange : Change → Type 0
IsChange (Put name id cells) = IsPut id cells
IsChange (Drop name id) = IsId id

-- a row that is put: in place of the one of its id, or new, in a table that is made where it is not there
abbrev pub put_again : Option ℕ → List ℕ → ℕ → List Column → List TableData → List TableData
put_again (Some t) name id cells tables = slice_set tables t (with_put id cells (table_at t tables))
put_again None name id cells tables = insert tables (tables_before name tables) (with_put id cells (new_table name))

-- a row that is dropped, if it is there
abbrev pub row_dropped : Option ℕ → ℕ → List TableData → List TableData
row_dropped (Some r) t tables = slice_set tables t (without_row r (table_at t tables))
row_dropped None t tables = tables

abbrev pub drop_again : Option ℕ → ℤ → List TableData → List TableData
drop_again (Some t) id tables = row_dropped (row_place id (table_at t tables).rows) t tables
drop_again None id tables = tables

abbrev pub redone : Change → List TableData → List TableData
redone (Put name id cells) tables = put_again (table_place name tables) name (nat_abs id) cells tables
redone (Drop name id) tables = drop_again (table_place name tables) id tables

-- several changes, one after another
abbrev pub all_redone : List Change → List TableData → List TableData
all_redone changes tables = fold (λ before change. redone change before) tables changes

-- a table's largest id ever given, set
abbrev pub top_set : Option ℕ → List ℕ → ℕ → List TableData → List TableData
top_set (Some t) name top tables = slice_set tables t (with_top top (table_at t tables))
top_set None name top tables = insert tables (tables_before name tables) (with_top top (new_table name))

-- the number is not negative
abbrev pub IsTop : ℤ → Type 0
IsTop (pos top) = ⊤
IsTop (negsuc top) = ⊥

-- no row of the table at a place has a greater id
abbrev pub IsAbove : Option ℕ → ℕ → List TableData → Type 0
IsAbove (Some t) top tables = All (λ row. row.id ≤ top) (table_at t tables).rows
IsAbove None top tables = ⊤

pub record CanSetTop (name : List ℕ) (top : ℤ) (tables : List TableData) : Type 0 where
  pub positive : IsTop top
  pub above : IsAbove (table_place name tables) (nat_abs top) tables

-- ---- what holds of all tables together

-- the names rise
abbrev pub HasRisingNames : List TableData → Type 0
HasRisingNames tables = AllPairs (λ a b. name_cmp a.name b.name ≡ Less) tables

-- the names rise, and the counts are right
pub record IsTables (tables : List TableData) (rows size : ℕ) : Type 0 where
  pub rising : HasRisingNames tables
  pub counted : rows ≡ row_count tables
  pub sized : size ≡ total_size tables

-- a step in memory is this outcome
abbrev pub IsStep : Outcome → Step → List TableData → Type 0
IsStep outcome answer tables = outcome ≡ record { tables = tables; reply = answer.reply; change = answer.change }
