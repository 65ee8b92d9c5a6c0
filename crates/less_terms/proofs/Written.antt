-- A number is written in one way: its text is read as the number, and no other text is.
use Rattle.std.proofs.Common.{◌≡◌, ℕ, ◌+◌, ◌^◌, ◌<◌, ◌≤◌, ◌==◌, true, false, not, ◌&&◌, List, [], ◌∷◌, length, get_or, Some, None, nat_le, if◌then◌else◌, arith, refl, zero, suc}
use Rattle.std.proofs.lemmas.Grind.{common_steps}
use Rattle.std.specs.List.{list_all}
use Rattle.std.specs.Fmt.{decimal}
use Rattle.std.specs.Str.Parse.{digits_value}
use Rattle.std.proofs.lemmas.Str.Parse.{IsDigitsTest, IsNumeralModel, numerals_by_value}
use Rattle.std.proofs.lemmas.Fmt.{decimal_nonempty, length-decimal-le, first_decimal, digits_decimal, digits_value-decimal, decimal-digits_value}
use Rattle.less_terms.specs.Decimals.{is_digit, is_decimal, decimal_value}

abbrev are_digits : List ℕ → Type 0
are_digits ds = list_all is_digit ds ≡ true

tells_are_digits : IsDigitsTest are_digits
tells_are_digits = record {
  empty = refl;
  parts = λ c cs e. grind (arith, common_steps);
  more = λ c cs k e. grind (arith, common_steps);
}

own : IsNumeralModel are_digits (digits_value 10)
own = numerals_by_value are_digits tells_are_digits

forms : (text : List ℕ) → are_digits text → 0 < length text → (get_or text 0 0 ≡ 48 → length text ≡ 1) → is_decimal text ≡ true
forms [] d l f = absurd (omega arith)
forms (a ∷ []) d l f = grind (arith, common_steps)
forms (a ∷ b ∷ rest) d l f = grind (arith, common_steps)

pub digits : (text : List ℕ) → is_decimal text ≡ true → are_digits text
digits [] e = refl
digits (a ∷ []) e = grind (arith, common_steps)
digits (a ∷ b ∷ rest) e = grind (arith, common_steps)

some : (text : List ℕ) → is_decimal text ≡ true → 0 < length text
some [] e = grind (arith, common_steps)
some (a ∷ rest) e = omega arith

no_zero : (text : List ℕ) → is_decimal text ≡ true → get_or text 0 0 ≡ 48 → length text ≡ 1
no_zero [] e f = grind (arith, common_steps)
no_zero (a ∷ []) e f = refl
no_zero (a ∷ b ∷ rest) e f = grind (arith, common_steps)

first : (n : ℕ) → n < 2 ^ 64 → get_or (decimal n) 0 0 ≡ 48 → length (decimal n) ≡ 1
first zero fits e = omega (arith, decimal_nonempty 0 fits, length-decimal-le 1 0 (omega arith) (omega arith) (omega arith))
first (suc n) fits e = absurd (omega (arith, first_decimal (suc n) (omega arith) fits))

pub is_decimal-decimal : (n : ℕ) → n < 2 ^ 64 → is_decimal (decimal n) ≡ true
is_decimal-decimal n fits = forms (decimal n) (digits_decimal own n fits) (decimal_nonempty n fits) (first n fits)

-- the text of a number is read as the number
pub read_written : (most n : ℕ) → n < 2 ^ 64 → n ≤ most → decimal_value most (decimal n) ≡ Some n
read_written most n fits within =
    let form = is_decimal-decimal n fits in
    let value = digits_value-decimal own n fits in
    grind (arith, common_steps)

-- what is read as a number is its text
pub written_read : (most n : ℕ) (text : List ℕ) → most < 2 ^ 64 → decimal_value most text ≡ Some n → text ≡ decimal n
written_read most n text fits e =
    let form : is_decimal text ≡ true = grind (arith, common_steps) in
    let value : digits_value 10 text ≡ n = grind (arith, common_steps) in
    let within : n ≤ most = grind (arith, common_steps) in
    let back = decimal-digits_value own text (digits text form) (some text form) (no_zero text form) (omega (arith, value)) in
    grind (arith, common_steps)
