-- Texts with their lengths: what stands where in one, and that bytes begin with one text at most.
use Rattle.std.proofs.Common.{◌≡◌, ℕ, ◌+◌, ◌-◌, ◌^◌, ◌<◌, ◌≤◌, Bool, true, false, not, Option, Some, None, List, [], ◌∷◌, ◌++◌, length, get_or, take, drop, eqb, nat_le, decimal, refl, sym, ap, ◌∙◌, subst, arith, inl, inr, zero, suc, cond}
use Rattle.std.specs.Prelude.{unwrap_or, is_some}
use Rattle.std.specs.List.{position, position_or_len, prefix_len, list_all}
use Rattle.std.specs.Char.{digit_value}
use Rattle.std.specs.Str.Parse.{digits_value, AllDigits}
use Rattle.std.proofs.lemmas.Bool.Decides.{nat_tests}
use Rattle.std.proofs.lemmas.Grind.{common_steps}
use Rattle.std.proofs.lemmas.Fmt.{decimal_is_IsNumeral, decimal_digit, first_decimal, decimal-digits_value}
use Rattle.std.proofs.lemmas.List.{append_assoc, length-append, take_at, drop_at, take-append-drop, length-take-le}
use Rattle.std.proofs.lemmas.List.Quantifiers.{position-Some}
use Rattle.std.proofs.lemmas.Str.{digit_value_digit}
use Rattle.std.proofs.lemmas.Str.Parse.{digit_from_value, numerals_by_value, tells_digits}
use Rattle.less_terms.specs.Decimals.{is_digit, is_decimal, decimal_value}
use Rattle.tables_journal.specs.Texts.{text_of, HasNoText}

-- ---- decimal numbers

digits_listed : (ds : List ℕ) → AllDigits 10 ds → list_all is_digit ds ≡ true
digits_listed [] h = refl
digits_listed (d ∷ ds) h =
    let range = digit_from_value d h.0 in
    let rest = digits_listed ds h.1 in
    let here : is_digit d ≡ true = grind (arith, nat_tests, range) in
    grind (arith, common_steps)

is_digit_range : (d : ℕ) → is_digit d ≡ true → (48 ≤ d) × (d ≤ 57)
is_digit_range d h = (grind (arith, nat_tests), grind (arith, nat_tests))

listed_digits : (ds : List ℕ) → list_all is_digit ds ≡ true → AllDigits 10 ds
listed_digits [] h = tt
listed_digits (d ∷ ds) h =
    let here : is_digit d ≡ true = grind (arith, common_steps) in
    let range = is_digit_range d here in
    let rest : list_all is_digit ds ≡ true = grind (arith, common_steps) in
    (omega (arith, digit_value_digit d range, range), listed_digits ds rest)

pub is_decimal_from : (ds : List ℕ) → list_all is_digit ds ≡ true → 0 < length ds → (get_or ds 0 0 ≡ 48 → length ds ≡ 1) → is_decimal ds ≡ true
is_decimal_from [] h some lead = absurd (omega arith)
is_decimal_from (a ∷ []) h some lead = grind (arith, common_steps)
is_decimal_from (a ∷ b ∷ ds) h some lead = grind (arith, common_steps, lead)

pub record IsDecimalText (ds : List ℕ) : Type 0 where
  pub digits : list_all is_digit ds ≡ true
  pub some : 0 < length ds
  pub lead : get_or ds 0 0 ≡ 48 → length ds ≡ 1

decimal_parts : (ds : List ℕ) → is_decimal ds ≡ true → IsDecimalText ds
decimal_parts [] h = absurd (cc)
decimal_parts (a ∷ []) h = record { digits = grind (arith, common_steps); some = omega arith; lead = λ _. omega arith }
decimal_parts (a ∷ b ∷ ds) h = record { digits = grind (arith, common_steps); some = omega arith; lead = λ z. absurd (grind (arith, common_steps, z)) }

decimal_lead : (n : ℕ) → n < 2 ^ 64 → get_or (decimal n) 0 0 ≡ 48 → length (decimal n) ≡ 1
decimal_lead zero small zero_first = ap (λ (l : List ℕ). length l) (decimal_digit 0 (omega arith))
decimal_lead (suc n) small zero_first = absurd (omega (arith, first_decimal (suc n) (omega arith) small))

pub decimal_text : (n : ℕ) → n < 2 ^ 64 → IsDecimalText (decimal n)
decimal_text n small =
    let numeral = decimal_is_IsNumeral n small in
    record { digits = digits_listed (decimal n) numeral.0.1; some = numeral.0.0; lead = decimal_lead n small }

pub value_of_decimal : (most n : ℕ) → n ≤ most → most < 2 ^ 64 → decimal_value most (decimal n) ≡ Some n
value_of_decimal most n le small =
    let text = decimal_text n (omega arith) in
    let is : is_decimal (decimal n) ≡ true = is_decimal_from (decimal n) text.digits text.some text.lead in
    let value = (decimal_is_IsNumeral n (omega arith)).1 in
    let test : nat_le n most ≡ true = grind (arith, nat_tests) in
    rw (is, value, test) refl

pub decimal_of_value : (most n : ℕ) (text : List ℕ) → most < 2 ^ 64 → decimal_value most text ≡ Some n → text ≡ decimal n
decimal_of_value most n text small is =
    let yes : is_decimal text ≡ true = grind (arith, common_steps) in
    let value : digits_value 10 text ≡ n = grind (arith, common_steps) in
    let low : nat_le (digits_value 10 text) most ≡ true = grind (arith, common_steps) in
    let le : digits_value 10 text ≤ most = grind (arith, nat_tests) in
    let parts = decimal_parts text yes in
    sym (decimal-digits_value (numerals_by_value _ tells_digits) text (listed_digits text parts.digits) parts.some parts.lead (omega arith)) ∙ ap decimal value

pub value_small : (most n : ℕ) (text : List ℕ) → decimal_value most text ≡ Some n → n ≤ most
value_small most n text is =
    let yes : is_decimal text ≡ true = grind (arith, common_steps) in
    let value : digits_value 10 text ≡ n = grind (arith, common_steps) in
    let low : nat_le (digits_value 10 text) most ≡ true = grind (arith, common_steps) in
    let le : digits_value 10 text ≤ most = grind (arith, nat_tests) in
    omega arith

-- ---- where a text's length ends

prefix_colon : (ds rest : List ℕ) → list_all is_digit ds ≡ true → prefix_len (λ byte. not (eqb byte 58)) (ds ++ 58 ∷ rest) ≡ length ds
prefix_colon [] rest h = refl
prefix_colon (d ∷ ds) rest h =
    let here : is_digit d ≡ true = grind (arith, common_steps) in
    let range = is_digit_range d here in
    let other : eqb d 58 ≡ false = grind (arith, nat_tests) in
    let more = prefix_colon ds rest (grind (arith, common_steps)) in
    rw other (omega arith)

pub colon_place : (ds rest : List ℕ) → list_all is_digit ds ≡ true → position (λ byte. eqb byte 58) (ds ++ 58 ∷ rest) ≡ Some (length ds)
colon_place ds rest h =
    let e : position_or_len (λ byte. eqb byte 58) (ds ++ 58 ∷ rest) ≡ length ds = prefix_colon ds rest h in
    let long = length-append ds (58 ∷ rest) in
    rw e (grind (arith, nat_tests))

-- what stands where in bytes that begin with a text
pub record IsFront (bytes text rest : List ℕ) : Type 0 where
  pub place : position (λ byte. eqb byte 58) bytes ≡ Some (length (decimal (length text)))
  pub digits : take (length (decimal (length text))) bytes ≡ decimal (length text)
  pub value : decimal_value (2 ^ 64 - 1) (decimal (length text)) ≡ Some (length text)
  pub behind : drop (length (decimal (length text))) bytes ≡ 58 ∷ (text ++ rest)

pub front_small : (bytes text rest : List ℕ) → length text < 2 ^ 64 → bytes ≡ text_of text ++ rest → IsFront bytes text rest
front_small bytes text rest fits is =
    let ds = decimal (length text) in
    let flat : bytes ≡ ds ++ 58 ∷ (text ++ rest) = is ∙ append_assoc ds (58 ∷ text) rest in
    let number = decimal_text (length text) fits in
    record {
      place = rw flat (colon_place ds (text ++ rest) number.digits);
      digits = rw flat (take_at ds (58 ∷ (text ++ rest)) (length ds) refl);
      value = value_of_decimal (2 ^ 64 - 1) (length text) (omega arith) (omega arith);
      behind = rw flat (drop_at ds (58 ∷ (text ++ rest)) (length ds) refl);
    }

-- a text is no longer than bytes that begin with it
pub text_within : (text rest : List ℕ) → length text < length (text_of text ++ rest)
text_within text rest = omega (arith, length-append (text_of text) rest, length-append (decimal (length text)) (58 ∷ text))

pub front_of : (bytes text rest : List ℕ) → length bytes < 2 ^ 64 → bytes ≡ text_of text ++ rest → IsFront bytes text rest
front_of bytes text rest fits is = front_small bytes text rest (omega (arith, text_within text rest, ap (λ (l : List ℕ). length l) is)) is

pub same_number : (a b : ℕ) → Some a ≡ Some b → a ≡ b
same_number a b e = ap (λ o. unwrap_or o 0) e

same_front : (bytes a x b y : List ℕ) → IsFront bytes a x → IsFront bytes b y → (a ≡ b) × (x ≡ y)
same_front bytes a x b y fa fb =
    let places : length (decimal (length a)) ≡ length (decimal (length b)) = same_number _ _ (sym fa.place ∙ fb.place) in
    let digits : decimal (length a) ≡ decimal (length b) = sym fa.digits ∙ ap (λ n. take n bytes) places ∙ fb.digits in
    let long : length a ≡ length b = same_number _ _ (sym fa.value ∙ ap (decimal_value (2 ^ 64 - 1)) digits ∙ fb.value) in
    let tails : a ++ x ≡ b ++ y = ap (drop 1) (sym fa.behind ∙ ap (λ n. drop n bytes) places ∙ fb.behind) in (
      sym (take_at a x (length a) refl) ∙ ap (take (length a)) tails ∙ take_at b y (length a) (sym long),
      sym (drop_at a x (length a) refl) ∙ ap (drop (length a)) tails ∙ drop_at b y (length a) (sym long),
    )

-- bytes begin with one text at most
pub text_unique : (bytes a x b y : List ℕ) → length bytes < 2 ^ 64 → bytes ≡ text_of a ++ x → bytes ≡ text_of b ++ y → (a ≡ b) × (x ≡ y)
text_unique bytes a x b y fits is_a is_b = same_front bytes a x b y (front_of bytes a x fits is_a) (front_of bytes b y fits is_b)

-- the same, where the bytes may be longer than memory holds
pub short_unique : (bytes a x b y : List ℕ) → length a < 2 ^ 64 → length b < 2 ^ 64 → bytes ≡ text_of a ++ x → bytes ≡ text_of b ++ y → (a ≡ b) × (x ≡ y)
short_unique bytes a x b y fa fb is_a is_b = same_front bytes a x b y (front_small bytes a x fa is_a) (front_small bytes b y fb is_b)

-- ---- why bytes begin with no text

pub no_colon : (bytes : List ℕ) → length bytes < 2 ^ 64 → position (λ byte. eqb byte 58) bytes ≡ None → HasNoText bytes
no_colon bytes fits none text rest is =
    let front = front_of bytes text rest fits is in
    let e : None ≡ Some (length (decimal (length text))) = sym none ∙ front.place in
    absurd (cc)

pub no_number : (bytes : List ℕ) (place : ℕ) → length bytes < 2 ^ 64 → position (λ byte. eqb byte 58) bytes ≡ Some place → decimal_value (2 ^ 64 - 1) (take place bytes) ≡ None → HasNoText bytes
no_number bytes place fits found none text rest is =
    let front = front_of bytes text rest fits is in
    let at : place ≡ length (decimal (length text)) = same_number _ _ (sym found ∙ front.place) in
    let e : None ≡ Some (length text) = sym none ∙ ap (λ n. decimal_value (2 ^ 64 - 1) (take n bytes)) at ∙ ap (decimal_value (2 ^ 64 - 1)) front.digits ∙ front.value in
    absurd (cc)

pub too_short : (bytes : List ℕ) (place n : ℕ) → length bytes < 2 ^ 64 → position (λ byte. eqb byte 58) bytes ≡ Some place → decimal_value (2 ^ 64 - 1) (take place bytes) ≡ Some n → length (drop 1 (drop place bytes)) < n → HasNoText bytes
too_short bytes place n fits found value short text rest is =
    let front = front_of bytes text rest fits is in
    let at : place ≡ length (decimal (length text)) = same_number _ _ (sym found ∙ front.place) in
    let same : n ≡ length text = same_number _ _ (sym value ∙ ap (λ k. decimal_value (2 ^ 64 - 1) (take k bytes)) at ∙ ap (decimal_value (2 ^ 64 - 1)) front.digits ∙ front.value) in
    let behind : drop 1 (drop place bytes) ≡ text ++ rest = ap (drop 1) (ap (λ k. drop k bytes) at ∙ front.behind) in
    omega (arith, same, ap (λ (l : List ℕ). length l) behind, length-append text rest)

drop-colon : (place : ℕ) (bytes : List ℕ) → place < length bytes → get_or bytes place 0 ≡ 58 → drop place bytes ≡ 58 ∷ drop 1 (drop place bytes)
drop-colon place [] lt is = absurd (omega arith)
drop-colon zero (b ∷ bs) lt is = ap (λ x. x ∷ bs) is
drop-colon (suc place) (b ∷ bs) lt is = drop-colon place bs (omega arith) is

pub colon_split : (bytes : List ℕ) (place : ℕ) → position (λ byte. eqb byte 58) bytes ≡ Some place → drop place bytes ≡ 58 ∷ drop 1 (drop place bytes)
colon_split bytes place found =
    let at = position-Some (λ byte. eqb byte 58) bytes place 0 found in
    drop-colon place bytes at.0 (grind (arith, nat_tests, at.1))

-- a text that was found
pub text_found : (bytes : List ℕ) (place n : ℕ) → position (λ byte. eqb byte 58) bytes ≡ Some place → decimal_value (2 ^ 64 - 1) (take place bytes) ≡ Some n → n ≤ length (drop 1 (drop place bytes)) → bytes ≡ text_of (take n (drop 1 (drop place bytes))) ++ drop n (drop 1 (drop place bytes))
text_found bytes place n found value fits =
    let at = position-Some (λ byte. eqb byte 58) bytes place 0 found in
    let colon : get_or bytes place 0 ≡ 58 = grind (arith, nat_tests, at.1) in
    let behind = drop 1 (drop place bytes) in
    let split : drop place bytes ≡ 58 ∷ behind = drop-colon place bytes at.0 colon in
    let digits : take place bytes ≡ decimal n = decimal_of_value (2 ^ 64 - 1) n (take place bytes) (omega arith) value in
    let long : length (take n behind) ≡ n = length-take-le n behind fits in
    sym (take-append-drop place bytes)
    ∙ ap (λ l. take place bytes ++ l) (split ∙ ap (λ l. 58 ∷ l) (sym (take-append-drop n behind)))
    ∙ ap (λ ds. ds ++ 58 ∷ (take n behind ++ drop n behind)) (digits ∙ ap decimal (sym long))
    ∙ sym (append_assoc (decimal (length (take n behind))) (58 ∷ take n behind) (drop n behind))

-- one element more of a list that is gone over
pub take_item : {X : Type 0} (xs : List X) (i : ℕ) (x : X) → i < length xs → x ≡ get_or xs i x → take (i + 1) xs ≡ take i xs ++ x ∷ []
take_item [] i x lt is = absurd (omega arith)
take_item (y ∷ ys) zero x lt is = ap (λ z. z ∷ []) (sym is)
take_item (y ∷ ys) (suc i) x lt is =
    let e : suc i + 1 ≡ suc (i + 1) = omega arith in
    rw e (ap (λ l. y ∷ l) (take_item ys i x (omega arith) is))

pub none_of : {X : Type 0} (o : Option X) → is_some o ≡ false → o ≡ None
none_of None e = refl
none_of (Some x) e = absurd (cc)
