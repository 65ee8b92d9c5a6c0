-- Lines of a text. Only byte 10 ends a line.
use Rattle.std.specs.Prelude.{ℕ, ◌+◌, ◌-◌, Bool, ◌==◌, ◌&&◌, not, List, length, slice_index, take, count_by, if◌then◌else◌}

-- how many line ends a text has
abbrev pub newlines : List ℕ → ℕ
newlines text = count_by (λ byte. byte == 10) text

-- the line of a place, from 1
abbrev pub line_at : List ℕ → ℕ → ℕ
line_at text place = newlines (take place text) + 1

-- the text is not empty and its last byte ends no line
abbrev pub ends_within_line : List ℕ → Bool
ends_within_line text = not (length text == 0) && not (slice_index text (length text - 1) == 10)

-- how many lines a text has: a last line without a line end counts too
abbrev pub line_count : List ℕ → ℕ
line_count text = newlines text + (if ends_within_line text then 1 else 0)
