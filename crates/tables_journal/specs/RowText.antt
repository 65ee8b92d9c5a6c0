-- The bytes of a row: for each column the text of its name and its cell.
use Rattle.std.specs.Prelude.{◌≡◌, ℕ, ℤ, true, false, ⊤, List, [], ◌∷◌, ◌++◌, codes, FitsSigned}
use Rattle.std.specs.List.{All}
use Rattle.std.specs.Int.{w64}
use Rattle.std.specs.Fmt.{signed_decimal}
use Rattle.tables_keeper.specs.declared.cell.Cell.{Cell}
use Rattle.tables_keeper.specs.declared.cell.Column.{Column}
use Rattle.tables_keeper.specs.declared.cell.Cell.TheVariants.{Null, Bool as OfBool, Int, Text}
use Rattle.tables_keeper.specs.Rows.{HasDistinctNames}
use Rattle.tables_journal.specs.Texts.{text_of}

-- `n`, `t`, `f`, `i` with the text of the decimal number, or `s` with the text of the bytes
abbrev pub cell_text : Cell → List ℕ
cell_text Null = codes "n"
cell_text (OfBool true) = codes "t"
cell_text (OfBool false) = codes "f"
cell_text (Int number) = 105 ∷ text_of (signed_decimal number)
cell_text (Text text) = 115 ∷ text_of text

abbrev pub column_text : Column → List ℕ
column_text column = text_of column.name ++ cell_text column.cell

abbrev pub row_text : List Column → List ℕ
row_text [] = []
row_text (column ∷ columns) = column_text column ++ row_text columns

-- a cell's number has 64 bits
abbrev pub FitsCell : Cell → Type 0
FitsCell Null = ⊤
FitsCell (OfBool truth) = ⊤
FitsCell (Int number) = FitsSigned w64 number
FitsCell (Text text) = ⊤

-- columns that can be those of a row
pub record IsRow (columns : List Column) : Type 0 where
  pub distinct : HasDistinctNames columns
  pub fits : All (λ column. FitsCell column.cell) columns

-- the bytes are those of no row
abbrev pub IsNoRow : List ℕ → Type 0
IsNoRow bytes = (columns : List Column) → IsRow columns → row_text columns ≡ bytes → ⊥

-- the bytes begin with no cell, or with no column
abbrev pub HasNoCell : List ℕ → Type 0
HasNoCell bytes = (cell : Cell) (rest : List ℕ) → FitsCell cell → bytes ≡ cell_text cell ++ rest → ⊥

abbrev pub HasNoColumn : List ℕ → Type 0
HasNoColumn bytes = (column : Column) (rest : List ℕ) → FitsCell column.cell → bytes ≡ column_text column ++ rest → ⊥
