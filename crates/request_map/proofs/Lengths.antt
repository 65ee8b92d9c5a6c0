-- What a loop over the digits of a length has read.
use Rattle.std.proofs.Common.{◌≡◌, ℕ, ◌+◌, ◌-◌, ◌*◌, ◌<◌, ◌≤◌, true, false, List, length, get_or, take, arith}
use Rattle.std.proofs.lemmas.Grind.{common_steps}
use Rattle.std.specs.List.{list_all}
use Rattle.std.specs.Char.{digit_value, is_ascii_digit}
use Rattle.std.specs.Str.Parse.{digits_value}
use Rattle.std.proofs.lemmas.Str.{digit_value_digit}
use Rattle.std.proofs.lemmas.Int.Digits.{digits_value_more}
use Rattle.std.proofs.lemmas.Str.Parse.{digits_value-take-le}
use Rattle.std.proofs.lemmas.List.Folds.{list_all_at}

digit_in : (text : List ℕ) (i : ℕ) → list_all is_ascii_digit text ≡ true → i < length text → is_ascii_digit (get_or text i 0) ≡ true
digit_in text i h within =
    let other : is_ascii_digit (get_or text i 0) ≡ false → list_all is_ascii_digit text ≡ false = list_all_at is_ascii_digit text i 0 within in
    grind (arith, common_steps, other)

-- the byte at each place is the digit that it writes, and 48
pub read_digit : (text : List ℕ) (i : ℕ) → list_all is_ascii_digit text ≡ true → i < length text → digit_value (get_or text i 0) + 48 ≡ get_or text i 0
read_digit text i h within =
    let digit = digit_in text i h within in
    digit_value_digit (get_or text i 0) (grind (arith, common_steps), grind (arith, common_steps))

-- one more digit was read
pub read_more : (text : List ℕ) (i value : ℕ) → list_all is_ascii_digit text ≡ true → i < length text → value ≡ digits_value 10 (take i text) → value * 10 + (get_or text i 0 - 48) ≡ digits_value 10 (take (i + 1) text)
read_more text i value h within e =
    let digit = read_digit text i h within in
    let more = digits_value_more 10 text i within in
    omega arith

-- the number of all digits is no less
pub passes : (text : List ℕ) (i value : ℕ) → list_all is_ascii_digit text ≡ true → i < length text → value ≡ digits_value 10 (take i text) → value * 10 + (get_or text i 0 - 48) ≤ digits_value 10 text
passes text i value h within e =
    let whole = digits_value-take-le 10 text (i + 1) (omega arith) in
    let front = read_more text i value h within e in
    omega arith
