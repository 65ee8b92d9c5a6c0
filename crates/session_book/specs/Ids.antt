-- The text of a session's id.
use Rattle.std.specs.Prelude.{List, [], ◌∷◌, ◌++◌, ℕ, zero, suc, ◌+◌, ◌-◌, ◌*◌, ◌/◌, ◌%◌, ◌^◌, ◌<◌, ◌==◌, ◌&&◌, ◌||◌, Bool, nat_lt, nat_le, length, if◌then◌else◌}
use Rattle.std.specs.List.{list_all}
use Rattle.session_book.specs.declared.id.SessionId.{SessionId}

-- a hexadecimal digit in lower case, and what it counts
abbrev pub digit : ℕ → ℕ
digit n = if nat_lt n 10 then 48 + n else 87 + n

abbrev pub is_digit : ℕ → Bool
is_digit b = (nat_le 48 b && nat_le b 57) || (nat_le 97 b && nat_le b 102)

abbrev pub digit_value : ℕ → ℕ
digit_value b = if nat_le b 57 then b - 48 else b - 87

-- a number's k lowest digits, the highest of them first
unfoldable pub digits : ℕ → ℕ → List ℕ
digits zero n = []
digits (suc k) n = digit (n / 2 ^ (4 * k) % 16) ∷ digits k n

-- the number that digits make behind those that made n
abbrev pub number : ℕ → List ℕ → ℕ
number n [] = n
number n (b ∷ bs) = number (n * 16 + digit_value b) bs

-- an id's text: 2 digits of the slot and 32 of the draw
abbrev pub id_digits : SessionId → List ℕ
id_digits id = digits 2 id.slot ++ digits 32 id.draw

-- whether a text is 34 digits
abbrev pub is_id_text : List ℕ → Bool
is_id_text t = (length t == 34) && list_all is_digit t

-- a slot and a draw that fit their types
pub record IsId (id : SessionId) : Type 0 where
  pub slot : id.slot < 2 ^ 8
  pub draw : id.draw < 2 ^ 128
