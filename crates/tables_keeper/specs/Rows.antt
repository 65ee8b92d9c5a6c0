-- Rows: lists of columns, none of them twice.
use Rattle.std.specs.Prelude.{◌≡◌, ℕ, Bool, false, not, List, [], ◌∷◌, ◌++◌, codes, Option, Some, None, sum_by, map, filter, fold, pos, slice_set}
use Rattle.std.specs.List.{find, position, AllPairs}
use Rattle.std.specs.Option.{option_map}
use Rattle.std.specs.Str.{bytes_eq}
use Rattle.tables_keeper.specs.declared.cell.Cell.{Cell}
use Rattle.tables_keeper.specs.declared.cell.Cell.TheVariants.{Int}
use Rattle.tables_keeper.specs.declared.cell.Column.{Column}
use Rattle.tables_keeper.specs.Cells.{text_form, column_size}

-- whether a column has this name
abbrev pub is_named : List ℕ → Column → Bool
is_named name column = bytes_eq column.name name

-- no name stands twice
abbrev pub HasDistinctNames : List Column → Type 0
HasDistinctNames columns = AllPairs (λ a b. bytes_eq a b ≡ false) (map (λ column. column.name) columns)

-- the cell at a name, if the row has that column
abbrev pub cell_at : List ℕ → List Column → Option Cell
cell_at name columns = option_map (λ column. column.cell) (find (is_named name) columns)

-- how many bytes a row counts for
abbrev pub row_size : List Column → ℕ
row_size columns = sum_by column_size columns

-- a column put into a row: in the place of the one of its name, or else last
abbrev pub put_at : Option ℕ → List Column → Column → List Column
put_at (Some place) columns column = slice_set columns place column
put_at None columns column = columns ++ column ∷ []

abbrev pub put_column : List Column → Column → List Column
put_column columns column = put_at (position (is_named column.name) columns) columns column

-- a given row without its column `id`
abbrev pub without_id : List Column → List Column
without_id columns = filter (λ column. not (is_named (codes "id") column)) columns

-- a row with the columns of a given row: those that it has set in place, the others last
abbrev pub merged : List Column → List Column → List Column
merged columns given = fold put_column columns (without_id given)

-- a row as it is handed out: with its id as the first column
abbrev pub with_id : ℕ → List Column → List Column
with_id id columns = record { name = codes "id"; cell = Int (pos id) } ∷ columns

-- whether a row has the column, and there a cell of this text form
abbrev pub cell_has_text : List ℕ → Option Cell → Bool
cell_has_text text None = false
cell_has_text text (Some cell) = bytes_eq (text_form cell) text

abbrev pub has_text : List ℕ → List ℕ → List Column → Bool
has_text column text columns = cell_has_text text (cell_at column columns)
