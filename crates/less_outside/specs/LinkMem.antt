-- A link in memory as a value, and what its calls make of it.
use Rattle.std.specs.Prelude.{ℕ, ◌+◌, min, Bool, ◌||◌, nat_lt, List, [], ◌++◌, length, take, drop, if◌then◌else◌}
use Rattle.less_outside.specs.Told.{next, is_listed}

pub record LinkState : Type 0 where
  -- what is left to read
  pub left : List ℕ
  -- the bytes that were written, in order
  pub sent : List ℕ
  -- the greatest count of bytes that a read gives
  pub piece : ℕ
  -- the greatest count of bytes that it takes
  pub room : ℕ
  -- the numbers of the calls that fail
  pub failing : List ℕ
  -- how many calls there were
  pub calls : ℕ
  -- how many reads failed
  pub read_faults : ℕ
  -- how many writes failed
  pub write_faults : ℕ

-- the link before its first call
abbrev pub new_link : List ℕ → ℕ → ℕ → List ℕ → LinkState
new_link input piece room failing = record { left = input; sent = []; piece = piece; room = room; failing = failing; calls = 0; read_faults = 0; write_faults = 0 }

-- the next read fails
abbrev pub fails_reading : LinkState → Bool
fails_reading link = is_listed link.failing link.calls

-- how many bytes a read gives into a room of this length
abbrev pub read_size : LinkState → ℕ → ℕ
read_size link room = min (min link.piece room) (length link.left)

-- the room after a read: what is left comes to its front
abbrev pub room_after : LinkState → List ℕ → List ℕ
room_after link room = if fails_reading link then room else take (read_size link (length room)) link.left ++ drop (read_size link (length room)) room

-- the link after a read into a room of this length: one that fails takes nothing
abbrev pub after_read : LinkState → ℕ → LinkState
after_read link room =
    if fails_reading link
    then record link { calls = next link.calls; read_faults = next link.read_faults }
    else record link { calls = next link.calls; left = drop (read_size link room) link.left }

-- this write fails: its number is listed, or it would pass the room
abbrev pub refuses : LinkState → List ℕ → Bool
refuses link bytes = is_listed link.failing link.calls || nat_lt link.room (length link.sent + length bytes)

-- the link after a write: one that fails takes nothing
abbrev pub after_write : LinkState → List ℕ → LinkState
after_write link bytes =
    if refuses link bytes
    then record link { calls = next link.calls; write_faults = next link.write_faults }
    else record link { calls = next link.calls; sent = link.sent ++ bytes }
