-- Numbers as they are read: decimal, without a sign and without a leading zero. As they are written: std's `decimal`.
use Rattle.std.specs.Prelude.{ℕ, ◌==◌, Bool, false, not, ◌&&◌, List, [], ◌∷◌, Option, None, Some, nat_le, if◌then◌else◌}
use Rattle.std.specs.List.{list_all}
use Rattle.std.specs.Str.Parse.{digits_value}

-- the byte is one of `0` to `9`
abbrev pub is_digit : ℕ → Bool
is_digit byte = nat_le 48 byte && nat_le byte 57

-- one digit, or more of which the first is not `0`
abbrev pub is_decimal : List ℕ → Bool
is_decimal [] = false
is_decimal (first ∷ []) = is_digit first
is_decimal (first ∷ second ∷ rest) = not (first == 48) && list_all is_digit (first ∷ second ∷ rest)

-- the number that a decimal text names, where it is at most `most`
abbrev pub decimal_value : ℕ → List ℕ → Option ℕ
decimal_value most text = if is_decimal text && nat_le (digits_value 10 text) most then Some (digits_value 10 text) else None
