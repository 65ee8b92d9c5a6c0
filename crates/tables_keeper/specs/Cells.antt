-- Cells: their text form, by which they are compared, and their size.
use Rattle.std.specs.Prelude.{ℕ, ◌+◌, true, false, List, [], length, codes}
use Rattle.std.specs.Fmt.{signed_decimal}
use Rattle.tables_keeper.specs.declared.cell.Cell.{Cell}
use Rattle.tables_keeper.specs.declared.cell.Column.{Column}
use Rattle.tables_keeper.specs.declared.cell.Cell.TheVariants.{Null, Bool as OfBool, Int, Text}

-- the bytes by which a cell is sought and compared
abbrev pub text_form : Cell → List ℕ
text_form Null = []
text_form (OfBool true) = codes "1"
text_form (OfBool false) = []
text_form (Int number) = signed_decimal number
text_form (Text text) = text

-- how many bytes a cell counts for
abbrev pub cell_size : Cell → ℕ
cell_size Null = 1
cell_size (OfBool truth) = 1
cell_size (Int number) = 9
cell_size (Text text) = 5 + length text

-- how many bytes a column counts for
abbrev pub column_size : Column → ℕ
column_size column = 5 + length column.name + cell_size column.cell
