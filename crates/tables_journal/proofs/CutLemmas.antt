-- Commits that end early: what is missing of one, and which bytes are none.
use Rattle.std.proofs.Common.{◌≡◌, ◌≢◌, ℕ, ◌+◌, ◌-◌, ◌^◌, ◌<◌, ◌≤◌, Bool, true, false, Some, None, List, [], ◌∷◌, ◌++◌, length, get_or, take, drop, eqb, nat_le, decimal, refl, sym, ap, ◌∙◌, subst, arith, inl, inr, zero, suc}
use Rattle.std.specs.List.{position, list_all}
use Rattle.std.specs.Str.Parse.{digits_value}
use Rattle.std.proofs.lemmas.Bool.{cases_lt}
use Rattle.std.proofs.lemmas.Bool.Decides.{nat_tests}
use Rattle.std.proofs.lemmas.Grind.{common_steps}
use Rattle.std.proofs.lemmas.Fmt.{decimal_is_IsNumeral}
use Rattle.std.proofs.lemmas.List.{append_assoc, append-nil, length-append, length-drop, length-take-le, take_at, take-append-le, take-append-drop, get_or_append_left, get_or_at}
use Rattle.std.proofs.lemmas.List.Quantifiers.{position-Some}
use Rattle.std.proofs.lemmas.Str.Parse.{digits_value-take-le}
use Rattle.less_terms.specs.Decimals.{is_digit, is_decimal, decimal_value}
use Rattle.tables_keeper.proofs.Places.{position_is, position_none}
use Rattle.tables_journal.specs.Texts.{text_of}
use Rattle.tables_journal.specs.Journal.{EndsEarly, EndsNotEarly}
use Rattle.tables_journal.proofs.TextLemmas.{IsFront, front_small, short_unique, same_number, decimal_text, is_decimal_from}

abbrev len : List ℕ → ℕ
len bytes = length bytes

abbrev is_colon : ℕ → Bool
is_colon byte = eqb byte 58

-- what is missing of a commit of which bytes are a front part
record IsCut (bytes : List ℕ) : Type 0 where
  content : List ℕ
  small : length content < 2 ^ 64
  fill : List ℕ
  some : 0 < length fill
  whole : bytes ++ fill ≡ 99 ∷ text_of content

cut_of : (bytes : List ℕ) → EndsEarly bytes → IsCut bytes
cut_of bytes early =
    let all = 99 ∷ text_of early.content in
    record {
      content = early.content;
      small = early.small;
      fill = drop early.kept all;
      some = omega (arith, length-drop early.kept all, early.within);
      whole = ap (λ l. l ++ drop early.kept all) early.is ∙ take-append-drop early.kept all;
    }

-- bytes that begin with a whole commit
pub not_early_whole : (bytes content behind : List ℕ) → length content < 2 ^ 64 → bytes ≡ (99 ∷ text_of content) ++ behind → EndsNotEarly bytes
not_early_whole bytes content behind small is early =
    let cut = cut_of bytes early in
    let one : text_of cut.content ≡ text_of content ++ (behind ++ cut.fill) = ap (drop 1) (sym cut.whole ∙ ap (λ l. l ++ cut.fill) is) ∙ append_assoc (text_of content) behind cut.fill in
    let same = short_unique (text_of cut.content) content (behind ++ cut.fill) cut.content [] small cut.small one (sym (append-nil (text_of cut.content))) in
    omega (arith, cut.some, length-append behind cut.fill, ap len same.1)

-- bytes that begin with another letter
pub not_early_letter : (kind : ℕ) (behind : List ℕ) → kind ≢ 99 → EndsNotEarly (kind ∷ behind)
not_early_letter kind behind other early =
    let cut = cut_of (kind ∷ behind) early in
    other (ap (λ (l : List ℕ). get_or l 0 0) cut.whole)

-- the first place of a test stays where more follows
position_front : (bytes more : List ℕ) (place : ℕ) → position is_colon bytes ≡ Some place → position is_colon (bytes ++ more) ≡ Some place
position_front bytes more place found =
    let at = position-Some is_colon bytes place 0 found in
    position_is is_colon (bytes ++ more) place 0 (omega (arith, length-append bytes more, at.0))
    (ap is_colon (get_or_append_left bytes more 0 place at.0) ∙ at.1)
    (λ k below. ap is_colon (get_or_append_left bytes more 0 k (omega (arith, at.0))) ∙ at.2 k below)

-- what is behind the letter, where a colon is there
record IsCutAt (bytes : List ℕ) (place : ℕ) : Type 0 where
  length_of : ℕ
  missing : ℕ
  some : 0 < missing
  value : decimal_value (2 ^ 64 - 1) (take place bytes) ≡ Some length_of
  long : length bytes + missing ≡ place + 1 + length_of

cut_at : (bytes : List ℕ) (place : ℕ) → position is_colon bytes ≡ Some place → EndsEarly (99 ∷ bytes) → IsCutAt bytes place
cut_at bytes place found early =
    let cut = cut_of (99 ∷ bytes) early in
    let whole : bytes ++ cut.fill ≡ text_of cut.content = ap (drop 1) cut.whole in
    let front = front_small (bytes ++ cut.fill) cut.content [] cut.small (whole ∙ sym (append-nil (text_of cut.content))) in
    let within = (position-Some is_colon bytes place 0 found).0 in
    let at : place ≡ length (decimal (length cut.content)) = same_number _ _ (sym (position_front bytes cut.fill place found) ∙ front.place) in
    let digits : take place bytes ≡ decimal (length cut.content) = sym (take-append-le place bytes cut.fill (omega (arith, within))) ∙ ap (λ n. take n (bytes ++ cut.fill)) at ∙ front.digits in
    record {
      length_of = length cut.content;
      missing = length cut.fill;
      some = cut.some;
      value = ap (decimal_value (2 ^ 64 - 1)) digits ∙ front.value;
      long = omega (arith, at, ap len whole, length-append bytes cut.fill, length-append (decimal (length cut.content)) (58 ∷ cut.content));
    }

-- bytes whose length is no number
pub not_early_number : (bytes : List ℕ) (place : ℕ) → position (λ byte. eqb byte 58) bytes ≡ Some place → decimal_value (2 ^ 64 - 1) (take place bytes) ≡ None → EndsNotEarly (99 ∷ bytes)
not_early_number bytes place found none early =
    let cut = cut_at bytes place found early in
    let e : None ≡ Some cut.length_of = sym none ∙ cut.value in
    absurd (cc)

-- bytes that hold what their length says
pub not_early_long : (bytes : List ℕ) (place n : ℕ) → position (λ byte. eqb byte 58) bytes ≡ Some place → decimal_value (2 ^ 64 - 1) (take place bytes) ≡ Some n → n ≤ length (drop 1 (drop place bytes)) → EndsNotEarly (99 ∷ bytes)
not_early_long bytes place n found value fits early =
    let cut = cut_at bytes place found early in
    let same : n ≡ cut.length_of = same_number _ _ (sym value ∙ cut.value) in
    let within = (position-Some is_colon bytes place 0 found).0 in
    omega (arith, cut.some, cut.long, same, within, length-drop 1 (drop place bytes), length-drop place bytes)

-- ---- the front of a number is one

digits_front : (ds : List ℕ) (k : ℕ) → list_all is_digit ds ≡ true → list_all is_digit (take k ds) ≡ true
digits_front [] zero h = refl
digits_front [] (suc k) h = refl
digits_front (d ∷ ds) zero h = refl
digits_front (d ∷ ds) (suc k) h =
    let here : is_digit d ≡ true = grind (arith, common_steps) in
    let more = digits_front ds k (grind (arith, common_steps)) in
    rw (here, more) refl

first_front : (ds : List ℕ) (k : ℕ) → 0 < k → get_or (take k ds) 0 0 ≡ get_or ds 0 0
first_front ds zero some = absurd (omega arith)
first_front [] (suc k) some = refl
first_front (d ∷ ds) (suc k) some = refl

number_front : (n k : ℕ) → n < 2 ^ 64 → 0 < k → k ≤ length (decimal n) → decimal_value (2 ^ 64 - 1) (take k (decimal n)) ≡ Some (digits_value 10 (take k (decimal n)))
number_front n k small some fits =
    let ds = decimal n in
    let text = decimal_text n small in
    let long : length (take k ds) ≡ k = length-take-le k ds fits in
    let is : is_decimal (take k ds) ≡ true = is_decimal_from (take k ds) (digits_front ds k text.digits) (omega (arith, long)) (λ z. omega (arith, long, fits, some, text.lead (sym (first_front ds k some) ∙ z))) in
    let value = (decimal_is_IsNumeral n small).1 in
    let low = digits_value-take-le 10 ds k (omega arith) in
    let le : digits_value 10 (take k ds) ≤ 2 ^ 64 - 1 = omega (arith, low, value, small) in
    let test : nat_le (digits_value 10 (take k ds)) (2 ^ 64 - 1) ≡ true = grind (arith, nat_tests) in
    rw (is, test) refl

-- bytes without a colon, which are no number
pub not_early_digits : (bytes : List ℕ) → position (λ byte. eqb byte 58) bytes ≡ None → decimal_value (2 ^ 64 - 1) bytes ≡ None → 0 < length bytes → EndsNotEarly (99 ∷ bytes)
not_early_digits bytes none value some early =
    let cut = cut_of (99 ∷ bytes) early in
    let ds = decimal (length cut.content) in
    let whole : bytes ++ cut.fill ≡ ds ++ 58 ∷ cut.content = ap (drop 1) cut.whole in
    elim (cases_lt (length ds) (length bytes)) [
      | inl past ↦
          let other : eqb (get_or bytes (length ds) 0) 58 ≡ false = position_none is_colon bytes none (length ds) 0 past in
          let colon : get_or bytes (length ds) 0 ≡ 58 = sym (get_or_append_left bytes cut.fill 0 (length ds) past) ∙ ap (λ (l : List ℕ). get_or l (length ds) 0) whole ∙ get_or_at ds 58 cut.content 0 (length ds) refl in
          let e : true ≡ false = ap is_colon (sym colon) ∙ other in
          absurd (cc)
      | inr within ↦
          let same : bytes ≡ take (length bytes) ds = sym (take_at bytes cut.fill (length bytes) refl) ∙ ap (take (length bytes)) whole ∙ take-append-le (length bytes) ds (58 ∷ cut.content) within in
          let number = number_front (length cut.content) (length bytes) cut.small some within in
          let e : None ≡ Some (digits_value 10 (take (length bytes) ds)) = sym value ∙ ap (decimal_value (2 ^ 64 - 1)) same ∙ number in
          absurd (cc)
    ]
