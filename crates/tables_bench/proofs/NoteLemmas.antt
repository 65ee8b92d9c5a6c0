-- Rows without a column `id`.
use Rattle.std.proofs.Common.{◌≡◌, false, None, List, [], ◌∷◌, codes, refl, subst}
use Rattle.std.specs.List.{position}
use Rattle.tables_keeper.specs.declared.cell.Column.{Column}
use Rattle.tables_keeper.specs.Rows.{is_named, put_column, merged}
use Rattle.tables_keeper.proofs.RowLemmas.{plain_merged}

-- a column of another name leaves such a row one
pub plain_put : (columns : List Column) (column : Column) → position (is_named (codes "id")) columns ≡ None → is_named (codes "id") column ≡ false → position (is_named (codes "id")) (put_column columns column) ≡ None
plain_put columns column none other =
    let e : merged columns (column ∷ []) ≡ put_column columns column = rw other refl in
    subst (λ (l : List Column). position (is_named (codes "id")) l ≡ None) e (plain_merged columns (column ∷ []) none)
