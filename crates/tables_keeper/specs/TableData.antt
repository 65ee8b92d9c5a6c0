-- A table, and what a clause sees of one in memory.
use Rattle.std.specs.Prelude.{◌≡◌, ℕ, max, Some, ◌+◌, ◌∷◌, ◌++◌, ℤ, pos, negsuc, ◌<◌, ◌≤◌, ◌^◌, ◌==◌, nat_lt, List, [], codes, Option, None, length, sum_by, slice_set, slice_index_or}
use Rattle.std.specs.List.{position, prefix_len, AllPairs, All, insert, remove}
use Rattle.tables_keeper.specs.declared.cell.Column.{Column}
use Rattle.tables_keeper.specs.declared.table.Row.{Row}
use Rattle.tables_keeper.specs.Rows.{is_named, row_size, with_id}

-- a name, the largest id ever given, and the rows in the order of their ids
pub record TableData : Type 0 where
  pub name : List ℕ
  pub top : ℕ
  pub rows : List Row

-- a table in memory, and how many rows it has room for
pub record TableView : Type 0 where
  pub content : TableData
  pub room : ℕ

-- the place of the row of this id
abbrev pub row_place : ℤ → List Row → Option ℕ
row_place (pos id) rows = position (λ row. row.id == id) rows
row_place (negsuc id) rows = None

-- how many rows, from the first on, have lower ids
abbrev pub rows_before : ℕ → List Row → ℕ
rows_before id rows = prefix_len (λ row. nat_lt row.id id) rows

-- a row as it is handed out: with its id as the first column
abbrev pub shown : Row → List Column
shown row = with_id row.id row.cells

-- what stands past the end of a list of rows
abbrev pub no_row : Row
no_row = record { id = 0; cells = [] }

-- a table with one row more, under the next id
abbrev pub with_new_row : List Column → TableData → TableData
with_new_row cells table = record { name = table.name; top = table.top + 1; rows = table.rows ++ record { id = table.top + 1; cells = cells } ∷ [] }

-- a table with other cells in the row at a place
abbrev pub with_cells : ℕ → List Column → TableData → TableData
with_cells place cells table = record { name = table.name; top = table.top; rows = slice_set table.rows place (record { id = (slice_index_or table.rows place no_row).id; cells = cells }) }

-- a table without the row at a place
abbrev pub without_row : ℕ → TableData → TableData
without_row place table = record { name = table.name; top = table.top; rows = remove table.rows place }

-- a table with one row more, behind those of lower ids
abbrev pub with_row_at : ℕ → List Column → TableData → TableData
with_row_at id cells table = record { name = table.name; top = table.top; rows = insert table.rows (rows_before id table.rows) (record { id = id; cells = cells }) }

-- a table whose largest id ever given is at least this
abbrev pub with_raised : ℕ → TableData → TableData
with_raised id table = record { name = table.name; top = max table.top id; rows = table.rows }

-- a table with these cells at an id: in the row that has it, or in a new one
abbrev pub put_in : Option ℕ → ℕ → List Column → TableData → TableData
put_in (Some place) id cells table = with_cells place cells table
put_in None id cells table = with_row_at id cells table

abbrev pub with_put : ℕ → List Column → TableData → TableData
with_put id cells table = put_in (row_place (pos id) table.rows) id cells (with_raised id table)

-- a table whose largest id ever given is this
abbrev pub with_top : ℕ → TableData → TableData
with_top top table = record { name = table.name; top = top; rows = table.rows }

-- the size of all rows
abbrev pub table_size : List Row → ℕ
table_size rows = sum_by (λ row. row_size row.cells) rows

-- the ids rise
abbrev pub HasRisingIds : List Row → Type 0
HasRisingIds rows = AllPairs (λ a b. a.id < b.id) rows

-- the id has been given, and no column is called `id`
pub record IsGiven (top : ℕ) (row : Row) : Type 0 where
  pub positive : 0 < row.id
  pub within : row.id ≤ top
  pub plain : position (is_named (codes "id")) row.cells ≡ None

-- what holds of each table
pub record IsTable (top : ℕ) (rows : List Row) : Type 0 where
  pub rising : HasRisingIds rows
  pub given : All (IsGiven top) rows
  pub small : top < 2 ^ 63
