-- What a loop over the digits of a decimal text has read.
use Rattle.std.proofs.Common.{◌≡◌, ℕ, ◌+◌, ◌-◌, ◌*◌, ◌^◌, ◌<◌, ◌≤◌, true, false, List, [], ◌∷◌, length, get_or, take, arith, refl, None}
use Rattle.std.proofs.lemmas.Grind.{common_steps}
use Rattle.std.specs.List.{list_all}
use Rattle.std.specs.Char.{digit_value}
use Rattle.std.specs.Str.Parse.{digits_value}
use Rattle.std.proofs.lemmas.Str.{digit_value_digit}
use Rattle.std.proofs.lemmas.Int.Digits.{digits_value_more}
use Rattle.std.proofs.lemmas.Str.Parse.{digits_value-take-le}
use Rattle.std.proofs.lemmas.List.Folds.{list_all_at}
use Rattle.less_terms.specs.Decimals.{is_digit, is_decimal, decimal_value}

all_digits : (text : List ℕ) → is_decimal text ≡ true → list_all is_digit text ≡ true
all_digits [] h = refl
all_digits (a ∷ []) h = grind (arith, common_steps)
all_digits (a ∷ b ∷ rest) h = grind (arith, common_steps)

digit_in : (text : List ℕ) (i : ℕ) → list_all is_digit text ≡ true → i < length text → is_digit (get_or text i 0) ≡ true
digit_in text i h within =
    let other : is_digit (get_or text i 0) ≡ false → list_all is_digit text ≡ false = list_all_at is_digit text i 0 within in
    grind (arith, common_steps, other)

-- the byte at each place of a decimal text is the digit that it writes, and 48
pub read_digit : (text : List ℕ) (i : ℕ) → is_decimal text ≡ true → i < length text → digit_value (get_or text i 0) + 48 ≡ get_or text i 0
read_digit text i h within =
    let digit = digit_in text i (all_digits text h) within in
    digit_value_digit (get_or text i 0) (grind (arith, common_steps), grind (arith, common_steps))

-- one more digit was read
pub read_more : (text : List ℕ) (i value : ℕ) → is_decimal text ≡ true → i < length text → value ≡ digits_value 10 (take i text) → value * 10 + (get_or text i 0 - 48) ≡ digits_value 10 (take (i + 1) text)
read_more text i value h within e =
    let digit = read_digit text i h within in
    let more = digits_value_more 10 text i within in
    omega arith

-- a number whose first digits pass 64 bits passes each number of 64 bits
pub passes : (most : ℕ) (text : List ℕ) (i value : ℕ) → most < 2 ^ 64 → is_decimal text ≡ true → i < length text → value ≡ digits_value 10 (take i text) → 2 ^ 64 ≤ value * 10 + (get_or text i 0 - 48) → decimal_value most text ≡ None
passes most text i value fits h within e large =
    let whole = digits_value-take-le 10 text (i + 1) (omega arith) in
    let front = read_more text i value h within e in
    grind (arith, common_steps)
