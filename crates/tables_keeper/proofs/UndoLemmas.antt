-- What taking changes back leaves, and that more room does not matter to it.
use Rattle.std.proofs.Common.{◌≡◌, ℕ, ◌+◌, ◌-◌, ◌<◌, ◌≤◌, ◌^◌, Option, Some, None, List, [], ◌∷◌, ◌++◌, length, get_or, set, map, refl, sym, ap, ◌∙◌, subst, arith, inl, inr, zero, suc}
use Rattle.std.specs.Prelude.{IfSome, option_to_list}
use Rattle.std.specs.List.{insert, remove}
use Rattle.std.proofs.lemmas.Bool.{cases_eq, cases_lt}
use Rattle.std.proofs.lemmas.List.{length-map, length-set, get_or-set_same, get_or-set_other, set-set, set-get_or, get_or_default}
use Rattle.std.proofs.lemmas.List.Edits.{length-remove, get_or-remove_below, get_or-remove_above}
use Rattle.tables_keeper.specs.declared.cell.Column.{Column}
use Rattle.tables_keeper.specs.declared.undo.Undo.{Undo}
use Rattle.tables_keeper.specs.declared.undo.Undo.TheVariants.{Table, Row, Cells, Gone}
use Rattle.tables_keeper.specs.TableData.{TableData, TableView, with_cells}
use Rattle.tables_keeper.specs.Tables.{tables_of, table_at, no_table, row_count, total_size, row_at}
use Rattle.tables_keeper.specs.Undo.{no_view, view_at, content_at, with_content, change_at, without_put, with_row_back, taken_back, undone, CanTakeBack, CanUndo, CanCount, Grown, HasRoomAt, Undoes}
use Rattle.tables_keeper.proofs.ViewLemmas.{content, set_view}
use Rattle.tables_keeper.proofs.Edits.{map_remove}

pub content_is : (views : List TableView) (k : ℕ) → content_at k views ≡ table_at k (tables_of views)
content_is [] k = refl
content_is (view ∷ views) zero = refl
content_is (view ∷ views) (suc k) = content_is views k

pub as_long : (old new : List TableView) → Grown old new → length new ≡ length old
as_long old new grown = sym (length-map new content) ∙ ap length grown.contents ∙ length-map old content

pub same_at : (old new : List TableView) (k : ℕ) → Grown old new → content_at k new ≡ content_at k old
same_at old new k grown = content_is new k ∙ ap (table_at k) grown.contents ∙ sym (content_is old k)

pub grown_itself : (views : List TableView) → Grown views views
grown_itself views = record { contents = refl; rooms = λ k. omega arith }

pub grown_then : (a b c : List TableView) → Grown a b → Grown b c → Grown a c
grown_then a b c first second = record { contents = second.contents ∙ first.contents; rooms = λ k. let f = first.rooms k in let s = second.rooms k in omega arith }

-- ---- a table that was changed in its place

pub change_contents : (place : ℕ) (f : TableData → TableData) (views : List TableView) → place < length views → tables_of (change_at place f views) ≡ set (tables_of views) place (f (table_at place (tables_of views)))
change_contents place f views within = set_view f views place (view_at place views) (with_content f (view_at place views)) within (get_or_default views place no_view (view_at place views) within) refl

pub change_room : (place k : ℕ) (f : TableData → TableData) (views : List TableView) → place < length views → (view_at k (change_at place f views)).room ≡ (view_at k views).room
change_room place k f views within = elim (cases_eq k place) [
  | inl at ↦ rw at (ap (λ (view : TableView). view.room) (get_or-set_same views place (with_content f (view_at place views)) no_view within))
  | inr other ↦ ap (λ (view : TableView). view.room) (get_or-set_other views place k (with_content f (view_at place views)) no_view other)
]

grown_change : (place : ℕ) (f : TableData → TableData) (old new : List TableView) → place < length old → Grown old new → Grown (change_at place f old) (change_at place f new)
grown_change place f old new within grown =
    let wide : place < length new = omega (arith, as_long old new grown) in
    record {
      contents = change_contents place f new wide ∙ ap (λ t. set t place (f (table_at place t))) grown.contents ∙ sym (change_contents place f old within);
      rooms = λ k. omega (arith, change_room place k f new wide, change_room place k f old within, grown.rooms k);
    }

grown_remove : (place : ℕ) (old new : List TableView) → place < length old → Grown old new → Grown (remove old place) (remove new place)
grown_remove place old new within grown =
    let wide : place < length new = omega (arith, as_long old new grown) in
    record {
      contents = map_remove content new place ∙ ap (λ t. remove t place) grown.contents ∙ sym (map_remove content old place);
      rooms = λ k. elim (cases_lt k place) [
        | inl below ↦ rw (get_or-remove_below old place no_view k below within, get_or-remove_below new place no_view k below wide) (grown.rooms k)
        | inr from ↦ rw (get_or-remove_above old place no_view k from within, get_or-remove_above new place no_view k from wide) (grown.rooms (k + 1))
      ];
    }

-- ---- more room does not matter

can_grown : (undo : Undo) (old new : List TableView) → CanTakeBack undo old → Grown old new → CanTakeBack undo new
can_grown (Table t) old new can grown = record {
  within = omega (arith, as_long old new grown, can.within);
  single = rw (same_at old new t grown) can.single;
}
can_grown (Row t place top) old new can grown = record {
  within = omega (arith, as_long old new grown, can.within);
  there = rw (same_at old new t grown) can.there;
  table = rw (same_at old new t grown) can.table;
}
can_grown (Cells t place cells) old new can grown = record {
  within = omega (arith, as_long old new grown, can.within);
  there = rw (same_at old new t grown) can.there;
  plain = can.plain;
  sized = rw (same_at old new t grown, grown.contents) can.sized;
}
can_grown (Gone t place id cells) old new can grown = record {
  within = omega (arith, as_long old new grown, can.within);
  there = rw (same_at old new t grown) can.there;
  table = rw (same_at old new t grown) can.table;
  room = let wide = grown.rooms t in let is = can.room in let same = ap (λ (t : TableData). length t.rows) (same_at old new t grown) in omega (arith, wide, is, same);
  count = rw grown.contents can.count;
}

taken_grown : (undo : Undo) (old new : List TableView) → CanTakeBack undo old → Grown old new → Grown (taken_back undo old) (taken_back undo new)
taken_grown (Table t) old new can grown = grown_remove t old new can.within grown
taken_grown (Row t place top) old new can grown = grown_change t (without_put place top) old new can.within grown
taken_grown (Cells t place cells) old new can grown = grown_change t (with_cells place cells) old new can.within grown
taken_grown (Gone t place id cells) old new can grown = grown_change t (with_row_back place id cells) old new can.within grown

pub can_undo_grown : (log : List Undo) (old new : List TableView) → CanUndo log old → Grown old new → CanUndo log new
can_undo_grown [] old new can grown = can
can_undo_grown (newest ∷ older) old new can grown =
    (can_grown newest old new can.0 grown, can_undo_grown older (taken_back newest old) (taken_back newest new) can.1 (taken_grown newest old new can.0 grown))

pub undone_grown : (log : List Undo) (old new : List TableView) → CanUndo log old → Grown old new → Grown (undone log old) (undone log new)
undone_grown [] old new can grown = grown
undone_grown (newest ∷ older) old new can grown = undone_grown older (taken_back newest old) (taken_back newest new) can.1 (taken_grown newest old new can.0 grown)

-- ---- a change taken back in its place

pub new_content : (place : ℕ) (old new : List TableView) (x : TableData) → place < length old → tables_of new ≡ set (tables_of old) place x → content_at place new ≡ x
new_content place old new x within is =
    let wide : place < length (tables_of old) = omega (arith, length-map old content) in
    content_is new place ∙ ap (table_at place) is ∙ get_or-set_same (tables_of old) place x no_table wide

-- a table that has not less room, its contents as they were
pub grown_in_place : (place : ℕ) (old new : List TableView) → tables_of new ≡ tables_of old → HasRoomAt place old new → Grown old new
grown_in_place place old new same room = record {
  contents = same;
  rooms = λ k. elim (cases_eq k place) [
    | inl at ↦ rw at room.kept
    | inr other ↦ omega (arith, ap (λ (view : TableView). view.room) (ap (view_at k) room.only ∙ get_or-set_other old place k (view_at place new) no_view other))
  ];
}

pub back_at : (place : ℕ) (f : TableData → TableData) (old new : List TableView) (x : TableData) → place < length old → HasRoomAt place old new → tables_of new ≡ set (tables_of old) place x → f x ≡ table_at place (tables_of old) → Grown old (change_at place f new)
back_at place f old new x within room is back =
    let long : length new ≡ length old = ap length room.only ∙ length-set old place (view_at place new) in
    let wide : place < length new = omega arith in
    let within_tables : place < length (tables_of old) = omega (arith, length-map old content) in
    record {
      contents =
          change_contents place f new wide
          ∙ ap (λ t. set t place (f (table_at place t))) is
          ∙ ap (λ t. set (set (tables_of old) place x) place (f t)) (get_or-set_same (tables_of old) place x no_table within_tables)
          ∙ ap (λ t. set (set (tables_of old) place x) place t) back
          ∙ set-set (tables_of old) place x (table_at place (tables_of old))
          ∙ set-get_or (tables_of old) place no_table;
      rooms = λ k. elim (cases_eq k place) [
        | inl at ↦ rw at (omega (arith, change_room place place f new wide, room.kept))
        | inr other ↦
            let e : view_at k new ≡ view_at k old = ap (view_at k) room.only ∙ get_or-set_other old place k (view_at place new) no_view other in
            omega (arith, change_room place k f new wide, ap (λ (view : TableView). view.room) e)
      ];
    }

-- a table that was changed in its place has the room that it had
pub room_of_change : (place : ℕ) (f : TableData → TableData) (old : List TableView) → place < length old → HasRoomAt place old (change_at place f old)
room_of_change place f old within = record {
  only = ap (λ v. set old place v) (sym (get_or-set_same old place (with_content f (view_at place old)) no_view within));
  kept = omega (arith, change_room place place f old within);
}

-- ---- a change that is noted

pub note_can : (log : List Undo) (undo : Option Undo) (old new : List TableView) → CanUndo log old → Undoes undo old new → CanUndo (option_to_list undo ++ log) new
note_can log None old new can is = rw is can
note_can log (Some undo) old new can is = (is.can, can_undo_grown log old (taken_back undo new) can is.back)

pub note_back : (log : List Undo) (undo : Option Undo) (old new : List TableView) → CanUndo log old → Undoes undo old new → tables_of (undone (option_to_list undo ++ log) new) ≡ tables_of (undone log old)
note_back log None old new can is = rw is refl
note_back log (Some undo) old new can is = (undone_grown log old (taken_back undo new) can is.back).contents

pub unnoted : (undo : Option Undo) (old new : List TableView) → Undoes undo old new → Grown old (undone (option_to_list undo) new)
unnoted None old new is = rw is (grown_itself old)
unnoted (Some undo) old new is = is.back

pub each_can : (undo : Option Undo) (old new : List TableView) → Undoes undo old new → IfSome undo (λ undo. CanTakeBack undo new)
each_can None old new is = tt
each_can (Some undo) old new is = is.can
