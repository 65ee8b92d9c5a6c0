-- Numbers and their hexadecimal digits.
use Rattle.std.proofs.Common.{◌≡◌, ℕ, zero, suc, ◌+◌, ◌-◌, ◌*◌, ◌/◌, ◌%◌, ◌^◌, ◌<◌, ◌≤◌, true, List, [], ◌∷◌, ◌++◌, ◌==◌, length, length-append, append_assoc, append-nil, take, drop, get_or, refl, sym, ap, subst, ◌∙◌, IsTrue, arith}
use Rattle.std.proofs.Math.Nat.{pow-le-pow_right, mul-le-mul_left}
use Rattle.std.proofs.Math.Arith.{mod-mul}
use Rattle.std.proofs.lemmas.Nat.{pow-add, mod-mul-add}
use Rattle.std.proofs.lemmas.Bool.{false≢true}
use Rattle.std.proofs.lemmas.Bool.Decides.{nat_tests}
use Rattle.std.proofs.lemmas.List.{drop_more, take_at, drop_at}
use Rattle.std.proofs.lemmas.List.Folds.{list_all-append}
use Rattle.std.specs.List.{list_all}
use Rattle.order_map.proofs.Keys.{and_left, and_right, and_both}
use Rattle.session_book.specs.Ids.{digit, is_digit, digit_value, digits, number, is_id_text}

-- ---- what a digit's place is worth

pub unit-suc : (k : ℕ) → 2 ^ (4 * suc k) ≡ 16 * 2 ^ (4 * k)
unit-suc k = let e : 4 * suc k ≡ 4 + 4 * k = omega arith in ap (λ n. 2 ^ n) e ∙ pow-add 2 4 (4 * k)

pub unit-some : (k : ℕ) → 0 < 2 ^ (4 * k)
unit-some k = pow-le-pow_right {n = 2} (omega arith) {i = 0} {j = 4 * k} (omega arith)

-- ---- one digit

pub value-small : (b : ℕ) → IsTrue (is_digit b) → digit_value b < 16
value-small b h = grind (arith, nat_tests)

pub digit-value : (b : ℕ) → IsTrue (is_digit b) → digit (digit_value b) ≡ b
digit-value b h = grind (arith, nat_tests)

pub value-digit : (n : ℕ) → n < 16 → digit_value (digit n) ≡ n
value-digit n h = grind (arith, nat_tests)

pub is_digit-digit : (n : ℕ) → n < 16 → IsTrue (is_digit (digit n))
is_digit-digit n h = grind (arith, nat_tests)

-- ---- the number of digits

number-from : (h : ℕ) (bs : List ℕ) → number h bs ≡ h * 2 ^ (4 * length bs) + number 0 bs
number-from h [] = omega arith
number-from h (b ∷ bs) =
    let a = number-from (h * 16 + digit_value b) bs in
    let z = number-from (0 * 16 + digit_value b) bs in
    let u = ap (λ x. h * x) (unit-suc (length bs)) in
    omega arith

pub number-small : (bs : List ℕ) → IsTrue (list_all is_digit bs) → number 0 bs < 2 ^ (4 * length bs)
number-small [] h = omega arith
number-small (b ∷ bs) h =
    let z = number-from (0 * 16 + digit_value b) bs in
    let u = unit-suc (length bs) in
    let s = number-small bs (and_right (is_digit b) _ h) in
    let v = value-small b (and_left (is_digit b) _ h) in
    let le : digit_value b ≤ 15 = omega arith in
    let m = mul-le-mul_left (2 ^ (4 * length bs)) le in
    omega arith

-- ---- digits and back

place : (q r u : ℕ) → 0 < u → r < u → (q * u + r) / u ≡ q
place q r u some h = grind (arith)

pub digits-number : (h : ℕ) (bs : List ℕ) → IsTrue (list_all is_digit bs) → digits (length bs) (number h bs) ≡ bs
unfolding digits
digits-number h [] s = refl
digits-number h (b ∷ bs) s =
    let d = and_left (is_digit b) _ s in
    let m = number-from (h * 16 + digit_value b) bs in
    let low = number-small bs (and_right (is_digit b) _ s) in
    let v = value-small b d in
    let q : number (h * 16 + digit_value b) bs / 2 ^ (4 * length bs) ≡ h * 16 + digit_value b = ap (λ n. n / 2 ^ (4 * length bs)) m ∙ place (h * 16 + digit_value b) (number 0 bs) (2 ^ (4 * length bs)) (unit-some (length bs)) low in
    let e : digit (number (h * 16 + digit_value b) bs / 2 ^ (4 * length bs) % 16) ≡ b = ap (λ n. digit (n % 16)) q ∙ ap digit (mod-mul-add h 16 (digit_value b) v) ∙ digit-value b d in
    (λ i. e i ∷ digits-number (h * 16 + digit_value b) bs (and_right (is_digit b) _ s) i)

number-step : (h n k : ℕ) → (h * 16 + n / 2 ^ (4 * k) % 16) * 2 ^ (4 * k) + n % 2 ^ (4 * k) ≡ h * 2 ^ (4 * suc k) + n % 2 ^ (4 * suc k)
number-step h n k = let some = unit-some k in rw (unit-suc k, mod-mul n {m = 16} {c = 2 ^ (4 * k)} (omega arith) some) (omega arith)

pub number-digits : (h k n : ℕ) → number h (digits k n) ≡ h * 2 ^ (4 * k) + n % 2 ^ (4 * k)
unfolding digits
number-digits h zero n = omega arith
number-digits h (suc k) n =
    let d : n / 2 ^ (4 * k) % 16 < 16 = omega arith in
    ap (λ v. number (h * 16 + v) (digits k n)) (value-digit (n / 2 ^ (4 * k) % 16) d) ∙ number-digits (h * 16 + n / 2 ^ (4 * k) % 16) k n ∙ number-step h n k

pub length-digits : (k n : ℕ) → length (digits k n) ≡ k
unfolding digits
length-digits zero n = refl
length-digits (suc k) n = ap suc (length-digits k n)

pub all-digits : (k n : ℕ) → IsTrue (list_all is_digit (digits k n))
unfolding digits
all-digits zero n = refl
all-digits (suc k) n = let d : n / 2 ^ (4 * k) % 16 < 16 = omega arith in and_both _ _ (is_digit-digit (n / 2 ^ (4 * k) % 16) d) (all-digits k n)

-- ---- reading digit by digit

-- the number of the digits before a place, and what is still to come
pub record Counted (text : List ℕ) (n i : ℕ) : Type 0 where
  pub made : number n (drop i text) ≡ number 0 text
  pub within : n < 2 ^ (4 * i)
  pub left : IsTrue (list_all is_digit (drop i text))

pub counted-room : (text : List ℕ) (n i : ℕ) → Counted text n i → i < length text → length text ≤ 32 → n * 16 + 15 < 2 ^ 128
counted-room text n i h l r =
    let u = unit-suc i in
    let w = h.within in
    let p : 2 ^ (4 * suc i) ≤ 2 ^ 128 = pow-le-pow_right {n = 2} (omega arith) {i = 4 * suc i} {j = 128} (omega arith) in
    omega arith

pub counted-step : (text : List ℕ) (n i : ℕ) → Counted text n i → i < length text → Counted text (n * 16 + digit_value (get_or text i 0)) (i + 1)
counted-step text n i h l =
    let front = drop_more text i 0 l in
    let left = subst (λ t. IsTrue (list_all is_digit t)) front h.left in
    let v = value-small (get_or text i 0) (and_left (is_digit (get_or text i 0)) _ left) in
    let u = unit-suc i in
    let w = h.within in
    let s : i + 1 ≡ suc i = omega arith in
    let b : n * 16 + digit_value (get_or text i 0) < 2 ^ (4 * suc i) = omega arith in
    record {
      made = sym (ap (number n) front) ∙ h.made;
      within = rw s b;
      left = and_right (is_digit (get_or text i 0)) _ left;
    }

-- ---- ids

-- what is written for a place and those below it
pub push-step : (t : List ℕ) (p n : ℕ) → 0 < p → (t ++ digit (n / 2 ^ (4 * (p - 1)) % 16) ∷ []) ++ digits (p - 1) n ≡ t ++ digits p n
unfolding digits
push-step t zero n h = absurd (omega arith)
push-step t (suc p) n h = let e : suc p - 1 ≡ p = omega arith in rw e (append_assoc t (digit (n / 2 ^ (4 * p) % 16) ∷ []) (digits p n))

pub digits-none : (t : List ℕ) (p n : ℕ) → p ≤ 0 → t ++ digits p n ≡ t
unfolding digits
digits-none t zero n h = append-nil t
digits-none t (suc p) n h = absurd (omega arith)

same_length : (t : List ℕ) → IsTrue (length t == 34) → length t ≡ 34
same_length t h = grind (arith, nat_tests)

pub id-back : (t : List ℕ) (s d : ℕ) → is_id_text t ≡ true → s ≡ number 0 (take 2 t) → d ≡ number 0 (drop 2 t) → digits 2 s ++ digits 32 d ≡ t
id-back [] s d h es ed = absurd (false≢true h)
id-back (a ∷ []) s d h es ed = absurd (false≢true h)
id-back (a ∷ b ∷ t) s d h es ed =
    let l = same_length (a ∷ b ∷ t) (and_left (length (a ∷ b ∷ t) == 34) (list_all is_digit (a ∷ b ∷ t)) h) in
    let k : length t ≡ 32 = omega arith in
    let all = and_right (length (a ∷ b ∷ t) == 34) _ h in
    let da = and_left (is_digit a) _ all in
    let rest = and_right (is_digit a) _ all in
    let db = and_left (is_digit b) _ rest in
    let dt = and_right (is_digit b) _ rest in
    let two : IsTrue (list_all is_digit (a ∷ b ∷ [])) = and_both _ _ da (and_both _ _ db refl) in
    let front : digits 2 s ≡ a ∷ b ∷ [] = ap (digits 2) es ∙ digits-number 0 (a ∷ b ∷ []) two in
    let back : digits 32 d ≡ t = ap (digits 32) ed ∙ subst (λ k. digits k (number 0 t) ≡ t) k (digits-number 0 t dt) in
    (λ i. front i ++ back i)

pub id-form : (s d : ℕ) → is_id_text (digits 2 s ++ digits 32 d) ≡ true
id-form s d =
    let l : length (digits 2 s ++ digits 32 d) ≡ 34 = omega (arith, length-append (digits 2 s) (digits 32 d), length-digits 2 s, length-digits 32 d) in
    and_both _ _ (ap (λ n. n == 34) l) (list_all-append is_digit (digits 2 s) (digits 32 d) ∙ and_both _ _ (all-digits 2 s) (all-digits 32 d))

pub slot-back : (t : List ℕ) (s d : ℕ) → s < 2 ^ 8 → digits 2 s ++ digits 32 d ≡ t → number 0 (take 2 t) ≡ s
slot-back t s d h e =
    let m = number-digits 0 2 s in
    ap (λ t. number 0 (take 2 t)) (sym e) ∙ ap (number 0) (take_at (digits 2 s) (digits 32 d) 2 (length-digits 2 s)) ∙ m ∙ omega arith

pub draw-back : (t : List ℕ) (s d : ℕ) → d < 2 ^ 128 → digits 2 s ++ digits 32 d ≡ t → number 0 (drop 2 t) ≡ d
draw-back t s d h e =
    let m = number-digits 0 32 d in
    ap (λ t. number 0 (drop 2 t)) (sym e) ∙ ap (number 0) (drop_at (digits 2 s) (digits 32 d) 2 (length-digits 2 s)) ∙ m ∙ omega arith
