-- Slots of sessions: which are live, and what a run leaves.
use Rattle.std.specs.Prelude.{ℕ, ◌+◌, Bool, true, false, nat_le, if◌then◌else◌, Option, Some, None}
use Rattle.php_values.specs.Data.{ArrayData}
use Rattle.session_book.specs.Sizes.{array_size, max_session}
use Rattle.session_book.specs.declared.id.SessionId.{SessionId}
use Rattle.session_book.specs.declared.slot.Session.{Session}
use Rattle.session_book.specs.declared.slot.SlotValue.{SlotValue}
use Rattle.session_book.specs.declared.slot.SlotValue.TheVariants.{Free, Held}
use Rattle.session_book.specs.declared.after.SessionState.{SessionState}
use Rattle.session_book.specs.declared.after.SessionState.TheVariants.{Untouched, Set, Ended}

-- how long a session lives after its last request, in seconds
abbrev pub lifetime : ℕ
lifetime = 1440

-- the session that is live in a slot at a moment
abbrev pub if_alive : Bool → Session → Option Session
if_alive true s = Some s
if_alive false s = None

abbrev pub live : SlotValue → ℕ → Option Session
live Free moment = None
live (Held s) moment = if_alive (nat_le moment (s.last + lifetime)) s

-- the id of a run in a slot: that of the live session, or else with the drawn number
abbrev pub draw_of : Option Session → ℕ → ℕ
draw_of None drawn = drawn
draw_of (Some s) drawn = s.draw

abbrev pub born_of : Option Session → ℕ → ℕ
born_of None change = change
born_of (Some s) change = s.born

abbrev pub run_id : ℕ → Option Session → ℕ → SessionId
run_id slot session drawn = record { slot = slot; draw = draw_of session drawn }

-- a session after a run that set its value
abbrev pub kept : Option Session → ArrayData → ℕ → ℕ → ℕ → SlotValue
kept session value moment drawn change = Held (record { draw = draw_of session drawn; last = moment; born = born_of session change; value = value })

abbrev pub fits : ArrayData → Bool
fits value = nat_le (array_size value) max_session

-- a slot after a run: as before where the run started no session or the value is too large, free where it ended it
abbrev pub slot_after : SlotValue → SessionState → ℕ → ℕ → ℕ → SlotValue
slot_after before Untouched moment drawn change = before
slot_after before Ended moment drawn change = Free
slot_after before (Set value) moment drawn change = if fits value then kept (live before moment) value moment drawn change else before

-- the cookie of a run: its id where it holds a session and none was live before
abbrev pub if_new : Bool → Option Session → SessionId → Option SessionId
if_new true None id = Some id
if_new true (Some s) id = None
if_new false session id = None

abbrev pub cookie_after : ℕ → SlotValue → SessionState → ℕ → ℕ → Option SessionId
cookie_after slot before Untouched moment drawn = None
cookie_after slot before Ended moment drawn = None
cookie_after slot before (Set value) moment drawn = if_new (fits value) (live before moment) (run_id slot (live before moment) drawn)
