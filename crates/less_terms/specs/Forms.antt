-- The forms of names.
use Rattle.std.specs.Prelude.{ℕ, ◌==◌, Bool, false, ◌&&◌, ◌||◌, List, [], ◌∷◌, length, nat_le}
use Rattle.std.specs.List.{list_all}
use Rattle.less_terms.specs.Decimals.{is_digit}

-- a lower-case letter of ASCII
abbrev pub is_lower : ℕ → Bool
is_lower byte = nat_le 97 byte && nat_le byte 122

-- what a role's name has after its first letter
abbrev pub is_name_byte : ℕ → Bool
is_name_byte byte = is_lower byte || (is_digit byte || (byte == 95))

-- a lower-case letter, and then at most 31 lower-case letters, digits and underscores
abbrev pub is_role : List ℕ → Bool
is_role [] = false
is_role (first ∷ rest) = is_lower first && (nat_le (length rest) 31 && list_all is_name_byte rest)
