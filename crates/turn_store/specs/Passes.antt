-- What clauses see of a store and of its passes.
use Rattle.std.specs.Prelude.{◌≡◌, ℕ, List}
use Rattle.turn_store.specs.declared.view.View.{View}
use Rattle.turn_store.specs.declared.view.Item.{Item}
use Rattle.turn_store.specs.declared.view.Hold.{Hold}
use Rattle.turn_store.specs.declared.view.Change.{Change}
use Rattle.turn_store.specs.declared.store.SharedTurns.{SharedTurns}
use Rattle.turn_store.specs.declared.store.Pass.{Pass}
use Rattle.turn_store.specs.declared.store.AdminPass.{AdminPass}

module _ {V : Type 0} where
  -- ---- the store

  abbrev pub slot_count : SharedTurns V → ℕ
  slot_count store = store.board.shared.table_id.slots

  -- the generation that each slot began with
  abbrev pub first_of : SharedTurns V → ℕ
  first_of store = store.board.shared.key.first

  -- the opening values
  abbrev pub opening_of : SharedTurns V → List V
  opening_of store = store.board.shared.key.values.value.items

  -- ---- a pass

  abbrev pub IsPassOf : SharedTurns V → Pass V → Type 0
  IsPassOf store pass = pass.seat.table_id ≡ store.board.shared.table_id

  abbrev pub view : Pass V → View V
  view pass = pass.seat.me.0

  -- what the pass has done, oldest first
  abbrev pub items_of : Pass V → List (Item V)
  items_of pass = pass.seat.me.0.items

  -- what the pass has taken and not given back, latest first
  abbrev pub held_by : Pass V → List (Hold V)
  held_by pass = pass.seat.me.0.held

  -- ---- the administrator's pass

  abbrev pub IsAdminOf : SharedTurns V → AdminPass V → Type 0
  IsAdminOf store admin = admin.seat.table_id ≡ store.board.shared.table_id

  abbrev pub admin_view : AdminPass V → View V
  admin_view admin = admin.seat.me.0

  -- what the administrator has set, oldest first
  abbrev pub changes_of : AdminPass V → List Change
  changes_of admin = admin.seat.me.0.changes
