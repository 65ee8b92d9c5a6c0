-- Rows: what keeps their names apart.
use Rattle.std.proofs.Common.{◌≡◌, ℕ, ◌<◌, Bool, true, false, Some, None, Option, List, [], ◌∷◌, ◌++◌, length, get_or, set, map, not, cond, codes, refl, sym, ap, ◌∙◌, subst, arith}
use Rattle.std.specs.List.{position, AllPairs, fold}
use Rattle.std.specs.Str.{bytes_eq}
use Rattle.std.proofs.lemmas.List.{map-set, set-get_or, map_push, get_or-map, length-map}
use Rattle.std.specs.List.{filter, All}
use Rattle.std.proofs.lemmas.List.Kept.{AllPairs-filter, AllPairs-cons}
use Rattle.std.proofs.lemmas.List.Quantifiers.{all_pairs_push, position-Some}
use Rattle.std.proofs.lemmas.List.Elements.{All-set, All-push, All-head, All-tail, filter_passes}
use Rattle.std.proofs.lemmas.Slice.Eq.{bytes_eq-Decides}
use Rattle.tables_keeper.specs.declared.cell.Column.{Column}
use Rattle.tables_keeper.specs.declared.cell.Cell.TheVariants.{Null}
use Rattle.tables_keeper.specs.Rows.{is_named, HasDistinctNames, without_id, with_id, put_at, put_column, merged}
use Rattle.tables_keeper.proofs.Places.{position_none, position_missing, not_passed}

abbrev name_of : Column → List ℕ
name_of column = column.name

-- a column in the place of the one of its name leaves the names
pub distinct_set : (columns : List Column) (place : ℕ) (column : Column) → HasDistinctNames columns → position (is_named column.name) columns ≡ Some place → HasDistinctNames (set columns place column)
distinct_set columns place column apart found =
    let at = position-Some (is_named column.name) columns place column found in
    let same : (get_or columns place column).name ≡ column.name = (bytes_eq-Decides _ _).0 at.1 in
    let names : map name_of (set columns place column) ≡ map name_of columns =
    map-set name_of columns place column
    ∙ ap (λ name. set (map name_of columns) place name) (sym same ∙ sym (get_or-map name_of columns place column [] at.0))
    ∙ set-get_or (map name_of columns) place [] in
    subst (λ (l : List (List ℕ)). AllPairs (λ a b. bytes_eq a b ≡ false) l) (sym names) apart

-- a column of a new name
pub distinct_push : (columns : List Column) (column : Column) → HasDistinctNames columns → position (is_named column.name) columns ≡ None → HasDistinctNames (columns ++ column ∷ [])
distinct_push columns column apart none =
    subst (λ (l : List (List ℕ)). AllPairs (λ a b. bytes_eq a b ≡ false) l) (sym (map_push name_of columns column))
    (all_pairs_push (λ a b. bytes_eq a b ≡ false) (map name_of columns) column.name apart
    (λ k d within.
    let below : k < length columns = omega (arith, length-map columns name_of) in
    let e : get_or (map name_of columns) k d ≡ (get_or columns k column).name = get_or-map name_of columns k column d below in
    rw e (position_none (is_named column.name) columns none k column below)))

map_filter : (p : List ℕ → Bool) (columns : List Column) → map name_of (filter (λ column. p column.name) columns) ≡ filter p (map name_of columns)
map_filter p [] = refl
map_filter p (column ∷ columns) =
    elim (p column.name) as (λ b. map name_of (cond b (column ∷ filter (λ c. p c.name) columns) (filter (λ c. p c.name) columns)) ≡ cond b (column.name ∷ filter p (map name_of columns)) (filter p (map name_of columns))) [
      | true ↦ ap (λ (l : List (List ℕ)). column.name ∷ l) (map_filter p columns)
      | false ↦ map_filter p columns
    ]

-- some of the columns
pub distinct_without_id : (columns : List Column) → HasDistinctNames columns → HasDistinctNames (without_id columns)
distinct_without_id columns apart =
    subst (λ (l : List (List ℕ)). AllPairs (λ a b. bytes_eq a b ≡ false) l) (sym (map_filter (λ name. not (bytes_eq name (codes "id"))) columns))
    (AllPairs-filter (λ a b. bytes_eq a b ≡ false) (λ name. not (bytes_eq name (codes "id"))) (map name_of columns) apart)

-- two names differ from either side
pub differ_flip : (a b : List ℕ) → bytes_eq a b ≡ false → bytes_eq b a ≡ false
differ_flip a b apart = by (bytes_eq b a) refl
  where
    by : (v : Bool) → bytes_eq b a ≡ v → v ≡ false
    by false e = refl
    by true e =
        let same : b ≡ a = (bytes_eq-Decides b a).0 e in
        let whole : bytes_eq a b ≡ true = (bytes_eq-Decides a b).1 (sym same) in cc

-- the id before columns that are not called so
pub distinct_with_id : (id : ℕ) (columns : List Column) → HasDistinctNames columns → position (is_named (codes "id")) columns ≡ None → HasDistinctNames (with_id id columns)
distinct_with_id id columns apart none =
    AllPairs-cons (λ a b. bytes_eq a b ≡ false) (codes "id") (map name_of columns)
    (λ k d within.
    let below : k < length columns = omega (arith, length-map columns name_of) in
    let column = get_or columns k (record { name = []; cell = Null }) in
    let e : get_or (map name_of columns) k d ≡ column.name = get_or-map name_of columns k (record { name = []; cell = Null }) d below in
    rw e (differ_flip column.name (codes "id") (position_none (is_named (codes "id")) columns none k (record { name = []; cell = Null }) below)))
    apart

-- ---- rows without a column `id`

abbrev is_other : Column → Type 0
is_other column = is_named (codes "id") column ≡ false

no_column : Column
no_column = record { name = []; cell = Null }

all_other : (columns : List Column) → position (is_named (codes "id")) columns ≡ None → All is_other columns
all_other columns none k d within = position_none (is_named (codes "id")) columns none k d within

none_named : (columns : List Column) → All is_other columns → position (is_named (codes "id")) columns ≡ None
none_named columns all = position_missing (is_named (codes "id")) columns no_column (λ k within. all k no_column within)

other_put : (place : Option ℕ) (columns : List Column) (column : Column) → All is_other columns → is_other column → All is_other (put_at place columns column)
other_put (Some place) columns column all one = All-set is_other columns place column one all
other_put None columns column all one = All-push is_other columns column all one

other_fold : (columns more : List Column) → All is_other columns → All (λ column. not (is_named (codes "id") column) ≡ true) more → All is_other (fold put_column columns more)
other_fold columns [] all given = all
other_fold columns (column ∷ more) all given =
    let P : Column → Type 0 = λ c. not (is_named (codes "id") c) ≡ true in
    let one : is_other column = not_passed (is_named (codes "id") column) (All-head P column more given) in
    other_fold (put_column columns column) more (other_put (position (is_named column.name) columns) columns column all one) (All-tail P column more given)

pub plain_without_id : (columns : List Column) → position (is_named (codes "id")) (without_id columns) ≡ None
plain_without_id columns =
    let passes = filter_passes (λ column. not (is_named (codes "id") column)) columns in
    none_named (without_id columns) (λ k d within. not_passed _ (passes k d within))

pub plain_merged : (columns given : List Column) → position (is_named (codes "id")) columns ≡ None → position (is_named (codes "id")) (merged columns given) ≡ None
plain_merged columns given none =
    none_named (merged columns given) (other_fold columns (without_id given) (all_other columns none) (filter_passes (λ column. not (is_named (codes "id") column)) given))
