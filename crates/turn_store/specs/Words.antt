-- The fields of a slot's lock word: bit 0 taken, bits 1 to 32 the generation, bits 33 to 56 the change number, bits 57 to 63 the pin.
use Rattle.std.specs.Prelude.{ℕ, ◌/◌, ◌%◌}

-- 1 where the lock is taken, or was tried in its last generation
abbrev pub taken_of : ℕ → ℕ
taken_of w = w % 2

-- how often the lock was given back, counted from the opening generation
abbrev pub generation_of : ℕ → ℕ
generation_of w = w / 2 % 4294967296

-- how often the administrator has set the pin
abbrev pub change_of : ℕ → ℕ
change_of w = w / 2 / 4294967296 % 16777216

-- the role that the administrator set last, 0 for none
abbrev pub pin_of : ℕ → ℕ
pin_of w = w / 2 / 4294967296 / 16777216
