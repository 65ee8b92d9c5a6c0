-- The value of digits, one digit at a time.
use Rattle.std.proofs.Common.{◌≡◌, ℕ, suc, ◌+◌, ◌-◌, ◌*◌, ◌^◌, ◌≤◌, ◌<◌, [], ◌∷◌, length, get_or, drop, Some, None, sym, ◌∙◌, lit≤, arith, length-drop, add-one}
use Rattle.std.proofs.lemmas.Grind.{common_steps}
use Rattle.std.proofs.Math.Nat.{pow-suc, one-le-pow, mul-le-mul, pow-le-pow_left, pow-le-pow_right, le-mul_of_pos_right}
use Rattle.std.proofs.Math.Seq.{drop-cons}
use Rattle.std.specs.Char.{digit_value}
use Rattle.php_lexer.specs.Bytes.{Text}
use Rattle.php_lexer.specs.Numbers.{value, within}

shuffle : (acc base p d v : ℕ) → acc * (p * base) + (d * p + v) ≡ (acc * base + d) * p + v
shuffle acc base p d v = grind arith

value_cons : (base acc d k : ℕ) (ds : Text) → length ds ≡ k
    → acc * base ^ suc k + value base (d ∷ ds) ≡ (acc * base + digit_value d) * base ^ k + value base ds
value_cons base acc d k ds e = rw (e, pow-suc base k) (shuffle acc base (base ^ k) (digit_value d) (value base ds))

-- a digit more
pub value_step : (base acc i : ℕ) (s : Text) → i < length s
    → (acc * base + digit_value (get_or s i 0)) * base ^ (length s - (i + 1)) + value base (drop (i + 1) s) ≡ acc * base ^ (length s - i) + value base (drop i s)
value_step base acc i s h =
    let len : length (drop (i + 1) s) ≡ length s - (i + 1) = length-drop (i + 1) s in
    let more : length s - i ≡ suc (length s - (i + 1)) = omega arith in
    let front : drop i s ≡ get_or s i 0 ∷ drop (i + 1) s = rw add-one (drop-cons s i 0 h) in
    rw (more, front) (sym (value_cons base acc (get_or s i 0) (length s - (i + 1)) (drop (i + 1) s) len))

-- what was read counts at least for itself
pub value_least : (base n k v : ℕ) → 1 ≤ base → n ≤ n * base ^ k + v
value_least base n k v h = let p : 1 ≤ base ^ k = one-le-pow k base h in let q : n ≤ n * base ^ k = le-mul_of_pos_right n p in omega arith

-- what is too large stays so
pub too_large : (m n v : ℕ) → n ≤ v → within m n ≡ None → within m v ≡ None
too_large m n v h e = grind (arith, common_steps)

pub within_some : (m n k : ℕ) → within m n ≡ Some k → (k ≡ n) × (k ≤ m)
within_some m n k e = grind (arith, common_steps)

-- where a digit is too much, the whole is
pub value_over : (m base acc i : ℕ) (s : Text) → i < length s → 1 ≤ base
    → acc * base ^ (length s - i) + value base (drop i s) ≡ value base s
    → within m (acc * base + digit_value (get_or s i 0)) ≡ None → within m (value base s) ≡ None
value_over m base acc i s h b inv e =
    let d = acc * base + digit_value (get_or s i 0) in
    let whole : d * base ^ (length s - (i + 1)) + value base (drop (i + 1) s) ≡ value base s = value_step base acc i s h ∙ inv in
    let least : d ≤ d * base ^ (length s - (i + 1)) + value base (drop (i + 1) s) = value_least base d (length s - (i + 1)) (value base (drop (i + 1) s)) b in
    let large : d ≤ value base s = rw whole at least in
    too_large m d (value base s) large e

-- ---- a few digits

digit_small : (b : ℕ) → digit_value b ≤ 36
digit_small b = grind (arith, common_steps)

grows : (base d p q v : ℕ) → d ≤ 36 → p ≤ q → v ≤ 3 * q → d * p + v ≤ 3 * (q * 16)
grows base d p q v h k l = let m : d * p ≤ 36 * q = mul-le-mul h k in omega arith

value_below : (base : ℕ) (ds : Text) → base ≤ 16 → value base ds ≤ 3 * 16 ^ length ds
value_below base [] h = omega arith
value_below base (d ∷ ds) h =
    rw (pow-suc 16 (length ds)) (grows base (digit_value d) (base ^ length ds) (16 ^ length ds) (value base ds) (digit_small d) (pow-le-pow_left h (length ds)) (value_below base ds h))

pub value_few : (base : ℕ) (ds : Text) → base ≤ 16 → length ds ≤ 3 → value base ds ≤ 12288
value_few base ds h k =
    let p : 16 ^ length ds ≤ 16 ^ 3 = pow-le-pow_right (lit≤ tt) k in
    let q = value_below base ds h in omega arith

pub within_few : (m base : ℕ) (ds : Text) → base ≤ 16 → length ds ≤ 3 → 12288 ≤ m → within m (value base ds) ≡ None → ⊥
within_few m base ds h k l e = let few = value_few base ds h k in grind (arith, common_steps)
