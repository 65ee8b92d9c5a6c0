-- Rows in the order of their ids.
use Rattle.std.proofs.Common.{◌≡◌, ◌≢◌, ℕ, negsuc, ◌+◌, ◌-◌, ◌<◌, ◌≤◌, Bool, true, false, Some, None, List, ◌∷◌, length, get_or, ltb, eqb, take, drop, ℤ, pos, Option, max, ap, sym, ◌∙◌, subst, arith, inl, inr}
use Rattle.std.specs.Prelude.{IfSome}
use Rattle.std.specs.List.{position, prefix_len, AllPairs, All}
use Rattle.std.specs.List.Sorted.{IsPartitionPoint, IsNonDecreasingBy}
use Rattle.std.proofs.lemmas.Bool.{cases_lt}
use Rattle.std.proofs.lemmas.Bool.Decides.{nat_tests}
use Rattle.std.proofs.lemmas.List.Sums.{prefix_len_is, prefix_len_passes, prefix_len_stops, prefix_len-le-length}
use Rattle.std.specs.List.{insert}
use Rattle.std.proofs.lemmas.Bool.{cases_eq}
use Rattle.std.proofs.lemmas.List.Edits.{length-insert, get_or-insert_below, get_or-insert_at, get_or-insert_above}
use Rattle.std.proofs.lemmas.List.Elements.{All-append, All-cons, All-take, All-drop}
use lib.Signed.{lt_z}
use Rattle.std.specs.Int.RustNames.{unsigned_abs}
use Rattle.tables_keeper.specs.declared.table.Row.{Row}
use Rattle.std.proofs.lemmas.List.Quantifiers.{position-Some}
use Rattle.tables_keeper.specs.declared.cell.Column.{Column}
use Rattle.tables_keeper.specs.Tables.{IsId}
use Rattle.tables_keeper.specs.TableData.{TableData, with_put, put_in, with_cells, with_row_at, with_raised, HasRisingIds, rows_before, no_row, row_place, IsGiven, IsTable}
use Rattle.tables_keeper.proofs.Places.{position_is, position_missing, position_none}

pub in_order : (rows : List Row) → HasRisingIds rows → IsNonDecreasingBy (λ row. row.id) rows
in_order rows rising i j d le within =
    elim (cases_lt i j) [
      | inl below ↦ let h = rising i j d below within in omega arith
      | inr same ↦ let e : i ≡ j = omega arith in rw e (omega arith)
    ]

-- where a search for a test splits a list
pub prefix_len_at : {X : Type 0} (p : X → Bool) (xs : List X) (i : ℕ) (d : X) → i ≤ length xs → IsPartitionPoint (λ y. p y ≡ true) (λ y. p y ≡ false) xs i → prefix_len p xs ≡ i
prefix_len_at p xs i d within point = prefix_len_is p xs i d within (λ k below. point.0 k d (omega arith) below) (λ below. point.1 i d (omega arith) below)

-- the row where the lower ids end, if it is of the id
pub found_at : (rows : List Row) (id place : ℕ) → place ≡ rows_before id rows → place < length rows → (get_or rows place no_row).id ≡ id → position (λ row. eqb row.id id) rows ≡ Some place
found_at rows id place counted within here =
    position_is (λ row. eqb row.id id) rows place no_row within (grind (arith, nat_tests))
    (λ k below.
    let lower : ltb (get_or rows k no_row).id id ≡ true = prefix_len_passes (λ row. ltb row.id id) rows k no_row (omega arith) in
    grind (arith, nat_tests))

-- and no row at all, if it is of another
pub missing_at : (rows : List Row) (id place : ℕ) → HasRisingIds rows → place ≡ rows_before id rows → (place < length rows → (get_or rows place no_row).id ≢ id) → position (λ row. eqb row.id id) rows ≡ None
missing_at rows id place rising counted other =
    position_missing (λ row. eqb row.id id) rows no_row (λ k within.
    elim (cases_lt k place) [
      | inl below ↦
          let lower : ltb (get_or rows k no_row).id id ≡ true = prefix_len_passes (λ row. ltb row.id id) rows k no_row (omega arith) in
          grind (arith, nat_tests)
      | inr from ↦
          let at_place : place < length rows = omega arith in
          let stops : ltb (get_or rows (rows_before id rows) no_row).id id ≡ false = prefix_len_stops (λ row. ltb row.id id) rows no_row (omega arith) in
          let differs : (get_or rows place no_row).id ≢ id = other at_place in
          let stops_here : ltb (get_or rows place no_row).id id ≡ false = rw counted stops in
          elim (cases_lt place k) [
            | inl after ↦ let above = rising place k no_row after within in grind (arith, nat_tests)
            | inr same ↦ let e : k ≡ place = omega arith in rw e (grind (arith, nat_tests))
          ]
    ])

-- a number that is not negative, as the id of a row
pub row_place_is : (z : ℤ) (rows : List Row) (r : Option ℕ) → lt_z z (pos 0) ≡ false → r ≡ position (λ row. eqb row.id (unsigned_abs z)) rows → r ≡ row_place z rows
row_place_is (pos n) rows r below e = e
row_place_is (negsuc n) rows r below e = absurd (cc)

-- what holds of each two elements, with one more among them
pub AllPairs-insert : {X : Type 0} (R : X → X → Type 0) (xs : List X) (p : ℕ) (y : X) → p ≤ length xs → AllPairs R xs → ((k : ℕ) (d : X) → k < p → R (get_or xs k d) y) → ((k : ℕ) (d : X) → p ≤ k → k < length xs → R y (get_or xs k d)) → AllPairs R (insert xs p y)
AllPairs-insert {X} R xs p y le pairs before after i j d lt within =
    let n : length (insert xs p y) ≡ length xs + 1 = length-insert xs p y le in
    elim (cases_lt j p) [
      | inl below ↦ rw (get_or-insert_below xs p y d i (omega arith) le, get_or-insert_below xs p y d j below le) (pairs i j d lt (omega arith))
      | inr from ↦ elim (cases_eq j p) [
        | inl at ↦ rw (get_or-insert_below xs p y d i (omega arith) le, at, get_or-insert_at xs p y d le) (before i d (omega arith))
        | inr past ↦ elim (cases_lt i p) [
          | inl below ↦ rw (get_or-insert_below xs p y d i below le, behind j (omega arith)) (pairs i (j - 1) d (omega arith) (omega arith))
          | inr i_from ↦ elim (cases_eq i p) [
            | inl at ↦ rw (behind j (omega arith), at, get_or-insert_at xs p y d le) (after (j - 1) d (omega arith) (omega arith))
            | inr i_past ↦ rw (behind i (omega arith), behind j (omega arith)) (pairs (i - 1) (j - 1) d (omega arith) (omega arith))
          ]
        ]
      ]
    ]
  where
    behind : (k : ℕ) → p < k → get_or (insert xs p y) k d ≡ get_or xs (k - 1) d
    behind k past =
        let e : (k - 1) + 1 ≡ k = omega arith in
        subst (λ (m : ℕ). get_or (insert xs p y) m d ≡ get_or xs (k - 1) d) e (get_or-insert_above xs p y d (k - 1) (omega arith) le)

-- a row among those that rise
pub rising_insert : (rows : List Row) (row : Row) → HasRisingIds rows → position (λ r. eqb r.id row.id) rows ≡ None → HasRisingIds (insert rows (rows_before row.id rows) row)
rising_insert rows row rising absent =
    let test : Row → Bool = λ r. ltb r.id row.id in
    AllPairs-insert (λ a b. a.id < b.id) rows (rows_before row.id rows) row (prefix_len-le-length test rows) rising
    (λ k d below.
    let lower : ltb (get_or rows k d).id row.id ≡ true = prefix_len_passes test rows k d below in
    grind (arith, nat_tests))
    (λ k d from within.
    let stops : ltb (get_or rows (rows_before row.id rows) d).id row.id ≡ false = prefix_len_stops test rows d (omega arith) in
    let other : eqb (get_or rows k d).id row.id ≡ false = position_none (λ r. eqb r.id row.id) rows absent k d within in
    elim (cases_lt (rows_before row.id rows) k) [
      | inl after ↦ let above = rising (rows_before row.id rows) k d after within in grind (arith, nat_tests)
      | inr same ↦
          let e : rows_before row.id rows ≡ k = omega arith in
          let stops_here : ltb (get_or rows k d).id row.id ≡ false = rw e at stops in
          grind (arith, nat_tests)
    ])

pub given_insert : (top p : ℕ) (rows : List Row) (row : Row) → All (IsGiven top) rows → IsGiven top row → All (IsGiven top) (insert rows p row)
given_insert top p rows row given one =
    All-append (IsGiven top) (take p rows) (row ∷ drop p rows) (All-take (IsGiven top) p rows given) (All-cons (IsGiven top) row (drop p rows) one (All-drop (IsGiven top) p rows given))

pub table_insert : (top : ℕ) (rows : List Row) (row : Row) → IsTable top rows → IsGiven top row → position (λ r. eqb r.id row.id) rows ≡ None → IsTable top (insert rows (rows_before row.id rows) row)
table_insert top rows row table one absent = record {
  rising = rising_insert rows row table.rising absent;
  given = given_insert top (rows_before row.id rows) rows row table.given one;
  small = table.small;
}

-- the id of a row that is there has been given
pub given_id : (z : ℤ) (top place : ℕ) (rows : List Row) → IsTable top rows → row_place z rows ≡ Some place → IsId z
given_id (pos id) top place rows table found =
    let at = position-Some (λ row. eqb row.id id) rows place no_row found in
    let given = table.given place no_row at.0 in
    let same : eqb (get_or rows place no_row).id id ≡ true = at.1 in
    grind (arith, nat_tests, given.positive)
given_id (negsuc id) top place rows table found = absurd (cc)

pub if_given : (z : ℤ) (top : ℕ) (rows : List Row) (r : Option ℕ) → IsTable top rows → r ≡ row_place z rows → IfSome r (λ _. IsId z)
if_given z top rows None table is = tt
if_given z top rows (Some place) table is = given_id z top place rows table (sym is)

-- cells put at the id of a row that is there
pub put_found : (id place : ℕ) (cells : List Column) (table : TableData) → row_place (pos id) table.rows ≡ Some place → IsTable table.top table.rows → with_put id cells table ≡ with_cells place cells table
put_found id place cells table found held =
    let at = position-Some (λ row. eqb row.id id) table.rows place no_row found in
    let given = held.given place no_row at.0 in
    let same : eqb (get_or table.rows place no_row).id id ≡ true = at.1 in
    let low : id ≤ table.top = grind (arith, nat_tests, given.within) in
    let top : max table.top id ≡ table.top = omega arith in
    ap (λ r. put_in r id cells (with_raised id table)) found
    ∙ ap (λ n. with_cells place cells (record { name = table.name; top = n; rows = table.rows })) top

-- and at an id that no row has
pub put_missing : (id : ℕ) (cells : List Column) (table : TableData) → row_place (pos id) table.rows ≡ None → with_put id cells table ≡ with_row_at id cells (with_raised id table)
put_missing id cells table none = ap (λ r. put_in r id cells (with_raised id table)) none
