-- Tables in the order of their names.
use Rattle.std.proofs.Common.{◌≡◌, ℕ, ◌+◌, ◌<◌, ◌≤◌, Bool, true, false, cond, Some, None, List, [], ◌∷◌, length, get_or, map, refl, ap, ◌∙◌, subst, arith, inl, inr, ltb, not, set}
use Rattle.std.specs.List.{position, position_or_len, prefix_len, AllPairs, insert}
use Rattle.std.specs.List.Sorted.{IsPartitionedBy}
use Rattle.std.specs.Str.{bytes_eq}
use Rattle.std.specs.Ordering.{is_lt, ordering_reverse, is_eq}
use Rattle.std.specs.declared.cmp.Ordering.{Ordering}
use Rattle.std.specs.declared.cmp.Ordering.TheVariants.{Less, Equal, Greater}
use Rattle.std.specs.Cmp.Lexicographic.{nat_list_cmp_total, texts_ties}
use Rattle.std.proofs.lemmas.Bool.{cases_lt, cases_eq}
use Rattle.std.proofs.lemmas.Cmp.{tied_itself}
use Rattle.std.proofs.lemmas.List.Sorted.{IsPermutation-insert, sum_by-IsPermutation}
use Rattle.std.proofs.lemmas.List.Quantifiers.{position-Some}
use Rattle.std.proofs.lemmas.List.{length-map, length-set, get_or-map, get_or-set_same, get_or-set_other, get_or_default}
use Rattle.std.proofs.lemmas.List.Sums.{prefix_len_passes, prefix_len_stops, prefix_len-le-length, sum_by-set, sum_by-cons}
use Rattle.std.proofs.lemmas.Slice.Eq.{bytes_eq-Decides}
use Rattle.tables_keeper.specs.TableData.{TableData, TableView, table_size}
use Rattle.tables_keeper.specs.Tables.{name_cmp, tables_of, table_place, table_at, no_table, tables_before, HasRisingNames, IsTables}
use Rattle.tables_keeper.proofs.Places.{position_is, position_missing, position_none}
use Rattle.tables_keeper.proofs.TableLemmas.{AllPairs-insert}

pub prefix_len-map : {X Y : Type 0} (p : Y → Bool) (f : X → Y) (xs : List X) → prefix_len p (map f xs) ≡ prefix_len (λ x. p (f x)) xs
prefix_len-map p f [] = refl
prefix_len-map p f (x ∷ xs) = ap (λ n. cond (p (f x)) (1 + n) 0) (prefix_len-map p f xs)

pub position-map : {X Y : Type 0} (p : Y → Bool) (f : X → Y) (xs : List X) → position p (map f xs) ≡ position (λ x. p (f x)) xs
position-map p f xs =
    ap (λ n. cond (ltb n (length (map f xs))) (Some n) None) (prefix_len-map (λ y. not (p y)) f xs)
    ∙ ap (λ n. cond (ltb (position_or_len (λ x. p (f x)) xs) n) (Some (position_or_len (λ x. p (f x)) xs)) None) (length-map xs f)

pub is_less : (o : Ordering) → is_lt o ≡ true → o ≡ Less
is_less Less h = refl
is_less Equal h = cc
is_less Greater h = cc

pub less_is : (o : Ordering) → o ≡ Less → is_lt o ≡ true
less_is o h = rw h refl

-- what is below a name is not equal to it
pub below_differs : (a b : List ℕ) → is_lt (name_cmp a b) ≡ true → bytes_eq a b ≡ false
below_differs a b below = by (bytes_eq a b) refl
  where
    by : (v : Bool) → bytes_eq a b ≡ v → v ≡ false
    by false e = refl
    by true e =
        let same : a ≡ b = (bytes_eq-Decides a b).0 e in
        let less : name_cmp a b ≡ Less = is_less (name_cmp a b) below in
        let tied : name_cmp b b ≡ Equal = tied_itself nat_list_cmp_total b in
        let here : name_cmp b b ≡ Less = subst (λ (l : List ℕ). name_cmp l b ≡ Less) same less in
        cc

-- what is above a name that is not below b is not b
pub above_differs : (a c b : List ℕ) → name_cmp a c ≡ Less → is_lt (name_cmp a b) ≡ false → bytes_eq c b ≡ false
above_differs a c b less stops = by (bytes_eq c b) refl
  where
    by : (v : Bool) → bytes_eq c b ≡ v → v ≡ false
    by false e = refl
    by true e =
        let same : c ≡ b = (bytes_eq-Decides c b).0 e in
        let lower : name_cmp a b ≡ Less = subst (λ (l : List ℕ). name_cmp a l ≡ Less) same less in
        let yes : is_lt (name_cmp a b) ≡ true = less_is (name_cmp a b) lower in
        cc

-- what is not below a name and not equal to it is above it
above_is : (a b : List ℕ) → is_lt (name_cmp a b) ≡ false → bytes_eq a b ≡ false → name_cmp b a ≡ Less
above_is a b stops other = by (name_cmp a b) refl
  where
    by : (o : Ordering) → name_cmp a b ≡ o → name_cmp b a ≡ Less
    by Less e = absurd (let yes : is_lt (name_cmp a b) ≡ true = less_is (name_cmp a b) e in cc)
    by Equal e = absurd (let same : bytes_eq a b ≡ true = texts_ties a b ∙ ap is_eq e in cc)
    by Greater e = nat_list_cmp_total.antisymm b a ∙ ap ordering_reverse e

-- what is above something that is not below a name is not below it
stays : (a c b : List ℕ) → name_cmp a c ≡ Less → is_lt (name_cmp a b) ≡ false → is_lt (name_cmp c b) ≡ false
stays a c b less stops = by (is_lt (name_cmp c b)) refl
  where
    by : (v : Bool) → is_lt (name_cmp c b) ≡ v → v ≡ false
    by false e = refl
    by true e =
        let lower : name_cmp a b ≡ Less = nat_list_cmp_total.trans a c b less (is_less _ e) in
        let yes : is_lt (name_cmp a b) ≡ true = less_is (name_cmp a b) lower in
        cc

abbrev pub is_below : List ℕ → TableView → Bool
is_below name view = is_lt (name_cmp view.content.name name)

abbrev pub has_name : List ℕ → TableView → Bool
has_name name view = bytes_eq view.content.name name

pub empty_view : TableView
empty_view = record { content = record { name = []; top = 0; rows = [] }; room = 0 }

rising_views : (views : List TableView) → HasRisingNames (tables_of views) → AllPairs (λ a b. name_cmp a.content.name b.content.name ≡ Less) views
rising_views views rising i j d lt within =
    let content : TableView → TableData = λ view. view.content in
    let wide : j < length (tables_of views) = omega (arith, length-map views content) in
    let ei : get_or (tables_of views) i d.content ≡ (get_or views i d).content = get_or-map content views i d d.content (omega arith) in
    let ej : get_or (tables_of views) j d.content ≡ (get_or views j d).content = get_or-map content views j d d.content within in
    rw (← ei, ← ej) (rising i j d.content lt wide)

-- where names rise, those below a name come first
pub names_part : (name : List ℕ) (views : List TableView) → HasRisingNames (tables_of views) → IsPartitionedBy (is_below name) views
names_part name views rising i j d le within below = elim (cases_lt i j) [
  | inl before ↦ less_is _ (nat_list_cmp_total.trans (get_or views i d).content.name (get_or views j d).content.name name (rising_views views rising i j d before within) (is_less _ below))
  | inr same ↦ let e : i ≡ j = omega arith in rw e below
]

pub tables_before-views : (name : List ℕ) (views : List TableView) → tables_before name (tables_of views) ≡ prefix_len (is_below name) views
tables_before-views name views = prefix_len-map (λ (table : TableData). is_lt (name_cmp table.name name)) (λ (view : TableView). view.content) views

pub table_place-views : (name : List ℕ) (views : List TableView) → table_place name (tables_of views) ≡ position (has_name name) views
table_place-views name views = position-map (λ (table : TableData). bytes_eq table.name name) (λ (view : TableView). view.content) views

-- the table where the lower names end, if it has the name
pub table_found : (name : List ℕ) (views : List TableView) (place : ℕ) (d : TableView) → place ≡ tables_before name (tables_of views) → place < length views → has_name name (get_or views place d) ≡ true → table_place name (tables_of views) ≡ Some place
table_found name views place d counted within here =
    let from : place ≡ prefix_len (is_below name) views = counted ∙ tables_before-views name views in
    table_place-views name views ∙ position_is (has_name name) views place d within here (λ k below.
    below_differs (get_or views k d).content.name name (prefix_len_passes (is_below name) views k d (omega arith)))

-- and no table at all, if it has another
pub table_missing : (name : List ℕ) (views : List TableView) (place : ℕ) (d : TableView) → HasRisingNames (tables_of views) → place ≡ tables_before name (tables_of views) → (place < length views → has_name name (get_or views place d) ≡ false) → table_place name (tables_of views) ≡ None
table_missing name views place d rising counted other =
    let from : place ≡ prefix_len (is_below name) views = counted ∙ tables_before-views name views in
    table_place-views name views ∙ position_missing (has_name name) views d (λ k within.
    elim (cases_lt k place) [
      | inl below ↦ below_differs (get_or views k d).content.name name (prefix_len_passes (is_below name) views k d (omega arith))
      | inr past ↦ elim (cases_lt place k) [
        | inl after ↦
            let stops : is_below name (get_or views (prefix_len (is_below name) views) d) ≡ false = prefix_len_stops (is_below name) views d (omega arith) in
            above_differs (get_or views place d).content.name (get_or views k d).content.name name (rising_views views rising place k d after within) (rw from stops)
        | inr same ↦ let e : k ≡ place = omega arith in rw e (other (omega arith))
      ]
    ])

-- ---- one table in the place of another of its name

name_set : (tables : List TableData) (place : ℕ) (new d : TableData) (k : ℕ) → place < length tables → new.name ≡ (get_or tables place new).name → (get_or (set tables place new) k d).name ≡ (get_or tables k d).name
name_set tables place new d k within same = elim (cases_eq k place) [
  | inl at ↦
      let e : get_or (set tables place new) place d ≡ new = get_or-set_same tables place new d within in
      let f : get_or tables place new ≡ get_or tables place d = get_or_default tables place new d within in
      rw at (ap (λ (t : TableData). t.name) e ∙ same ∙ ap (λ (t : TableData). t.name) f)
  | inr other ↦ ap (λ (t : TableData). t.name) (get_or-set_other tables place k new d other)
]

pub rising_set : (tables : List TableData) (place : ℕ) (new : TableData) → HasRisingNames tables → place < length tables → new.name ≡ (get_or tables place new).name → HasRisingNames (set tables place new)
rising_set tables place new rising within same i j d lt wide =
    rw (name_set tables place new d i within same, name_set tables place new d j within same) (rising i j d lt (omega (arith, length-set tables place new)))

pub tables_set : (tables : List TableData) (place : ℕ) (new : TableData) (rows size rows' size' : ℕ) → IsTables tables rows size → place < length tables → new.name ≡ (table_at place tables).name → rows' + length (table_at place tables).rows ≡ rows + length new.rows → size' + table_size (table_at place tables).rows ≡ size + table_size new.rows → IsTables (set tables place new) rows' size'
tables_set tables place new rows size rows' size' old within same count total = record {
  rising = rising_set tables place new old.rising within (same ∙ ap (λ (t : TableData). t.name) (get_or_default tables place no_table new within));
  counted = omega (arith, old.counted, sum_by-set (λ (t : TableData). length t.rows) tables place new no_table within);
  sized = omega (arith, old.sized, sum_by-set (λ (t : TableData). table_size t.rows) tables place new no_table within);
}

-- a table among those of other names
rising_insert : (tables : List TableData) (new : TableData) → HasRisingNames tables → table_place new.name tables ≡ None → HasRisingNames (insert tables (tables_before new.name tables) new)
rising_insert tables new rising absent =
    let test : TableData → Bool = λ t. is_lt (name_cmp t.name new.name) in
    AllPairs-insert (λ a b. name_cmp a.name b.name ≡ Less) tables (tables_before new.name tables) new (prefix_len-le-length test tables) rising
    (λ k d below. is_less _ (prefix_len_passes test tables k d below))
    (λ k d from within.
    let other : bytes_eq (get_or tables k d).name new.name ≡ false = position_none (λ t. bytes_eq t.name new.name) tables absent k d within in
    above_is (get_or tables k d).name new.name (not_below k d from within) other)
  where
    not_below : (k : ℕ) (d : TableData) → tables_before new.name tables ≤ k → k < length tables → is_lt (name_cmp (get_or tables k d).name new.name) ≡ false
    not_below k d from within =
        let test : TableData → Bool = λ t. is_lt (name_cmp t.name new.name) in
        let stops : test (get_or tables (prefix_len test tables) d) ≡ false = prefix_len_stops test tables d (omega arith) in
        elim (cases_lt (prefix_len test tables) k) [
          | inl after ↦ stays _ _ new.name (rising (prefix_len test tables) k d after within) stops
          | inr same ↦ let e : prefix_len test tables ≡ k = omega arith in rw e at stops
        ]

pub tables_insert : (tables : List TableData) (new : TableData) (rows size rows' size' : ℕ) → IsTables tables rows size → table_place new.name tables ≡ None → rows' ≡ rows + length new.rows → size' ≡ size + table_size new.rows → IsTables (insert tables (tables_before new.name tables) new) rows' size'
tables_insert tables new rows size rows' size' old absent count total =
    let moved = IsPermutation-insert tables (tables_before new.name tables) new in
    let rows_moved = sum_by-IsPermutation (λ (t : TableData). length t.rows) _ _ moved in
    let rows_more = sum_by-cons (λ (t : TableData). length t.rows) new tables in
    let size_moved = sum_by-IsPermutation (λ (t : TableData). table_size t.rows) _ _ moved in
    let size_more = sum_by-cons (λ (t : TableData). table_size t.rows) new tables in
    record {
      rising = rising_insert tables new old.rising absent;
      counted = omega (arith, old.counted, rows_moved, rows_more);
      sized = omega (arith, old.sized, size_moved, size_more);
    }

pub table_place_within : (name : List ℕ) (tables : List TableData) (place : ℕ) → table_place name tables ≡ Some place → place < length tables
table_place_within name tables place found = (position-Some (λ (table : TableData). bytes_eq table.name name) tables place no_table found).0
