-- What takes changes back: a list of them, the newest first, and what it leaves.
use Rattle.std.specs.Prelude.{◌≡◌, ℕ, ◌+◌, ◌-◌, ◌^◌, ◌<◌, ◌≤◌, ⊤, List, [], ◌∷◌, codes, None, Option, Some, length, slice_set, slice_index_or}
use Rattle.std.specs.List.{position, insert, remove, All}
use Rattle.tables_keeper.specs.declared.cell.Column.{Column}
use Rattle.tables_keeper.specs.declared.table.Row.{Row as RowItem}
use Rattle.tables_keeper.specs.declared.undo.Undo.{Undo}
use Rattle.tables_keeper.specs.declared.undo.Undo.TheVariants.{Table, Row, Cells, Gone}
use Rattle.tables_keeper.specs.Rows.{is_named, row_size}
use Rattle.tables_keeper.specs.TableData.{TableData, TableView, IsTable, without_row, with_cells, with_top}
use Rattle.tables_keeper.specs.Tables.{tables_of, no_table, row_at, row_count, total_size}

-- ---- tables in memory, one of them by its place

abbrev pub no_view : TableView
no_view = record { content = no_table; room = 0 }

abbrev pub view_at : ℕ → List TableView → TableView
view_at place views = slice_index_or views place no_view

abbrev pub content_at : ℕ → List TableView → TableData
content_at place views = (view_at place views).content

-- a table with other contents and the same room
abbrev pub with_content : (TableData → TableData) → TableView → TableView
with_content change view = record { content = change view.content; room = view.room }

-- tables of which the one at a place was changed
abbrev pub change_at : ℕ → (TableData → TableData) → List TableView → List TableView
change_at place change views = slice_set views place (with_content change (view_at place views))

-- ---- what a change that is taken back leaves

-- a table without the row at a place, its largest id ever given set back
abbrev pub without_put : ℕ → ℕ → TableData → TableData
without_put place top table = with_top top (without_row place table)

-- a table with a row put in at a place
abbrev pub with_row_back : ℕ → ℕ → List Column → TableData → TableData
with_row_back place id cells table = record { name = table.name; top = table.top; rows = insert table.rows place (record { id = id; cells = cells }) }

abbrev pub taken_back : Undo → List TableView → List TableView
taken_back (Table t) views = remove views t
taken_back (Row t place top) views = change_at t (without_put place top) views
taken_back (Cells t place cells) views = change_at t (with_cells place cells) views
taken_back (Gone t place id cells) views = change_at t (with_row_back place id cells) views

-- ---- when a change can be taken back

pub record CanDropTable (t : ℕ) (views : List TableView) : Type 0 where
  pub within : t < length views
  pub single : length (content_at t views).rows ≡ 1

pub record CanDropRow (t place top : ℕ) (views : List TableView) : Type 0 where
  pub within : t < length views
  pub there : place < length (content_at t views).rows
  pub table : IsTable top (remove (content_at t views).rows place)

pub record CanSetCells (t place : ℕ) (cells : List Column) (views : List TableView) : Type 0 where
  pub within : t < length views
  pub there : place < length (content_at t views).rows
  pub plain : position (is_named (codes "id")) cells ≡ None
  pub sized : total_size (tables_of views) - row_size (row_at place (content_at t views)).cells + row_size cells < 2 ^ 64

-- one row more can be counted
pub record CanCount (cells : List Column) (tables : List TableData) : Type 0 where
  pub counted : row_count tables + 1 < 2 ^ 64
  pub sized : total_size tables + row_size cells < 2 ^ 64

pub record CanPutBack (t place id : ℕ) (cells : List Column) (views : List TableView) : Type 0 where
  pub within : t < length views
  pub there : place ≤ length (content_at t views).rows
  pub table : IsTable (content_at t views).top (insert (content_at t views).rows place (record { id = id; cells = cells }))
  pub room : length (content_at t views).rows < (view_at t views).room
  pub count : CanCount cells (tables_of views)

abbrev pub CanTakeBack : Undo → List TableView → Type 0
CanTakeBack (Table t) views = CanDropTable t views
CanTakeBack (Row t place top) views = CanDropRow t place top views
CanTakeBack (Cells t place cells) views = CanSetCells t place cells views
CanTakeBack (Gone t place id cells) views = CanPutBack t place id cells views

-- ---- all changes of a list, the newest first

abbrev pub undone : List Undo → List TableView → List TableView
undone [] views = views
undone (newest ∷ older) views = undone older (taken_back newest views)

abbrev pub CanUndo : List Undo → List TableView → Type 0
CanUndo [] views = ⊤
CanUndo (newest ∷ older) views = CanTakeBack newest views × CanUndo older (taken_back newest views)

-- ---- what a change leaves to be taken back

-- the contents are the same, and no table has less room
pub record Grown (old new : List TableView) : Type 0 where
  pub contents : tables_of new ≡ tables_of old
  pub rooms : (k : ℕ) → (view_at k old).room ≤ (view_at k new).room

-- a table was changed in its place, and has not less room
pub record HasRoomAt (t : ℕ) (old new : List TableView) : Type 0 where
  pub only : new ≡ slice_set old t (view_at t new)
  pub kept : (view_at t old).room ≤ (view_at t new).room

-- a change can be taken back, which leaves what stood before it
pub record IsUndoOf (undo : Undo) (old new : List TableView) : Type 0 where
  pub can : CanTakeBack undo new
  pub back : Grown old (taken_back undo new)

-- of a step that changed nothing there is nothing to take back
abbrev pub Undoes : Option Undo → List TableView → List TableView → Type 0
Undoes None old new = new ≡ old
Undoes (Some undo) old new = IsUndoOf undo old new
