-- A naming with given texts for the first numbers, and longer texts for all others.
use Rattle.std.proofs.Common.{◌≡◌, ℕ, zero, suc, ◌+◌, ◌<◌, ◌≤◌, Bool, true, false, ◌==◌, List, [], ◌∷◌, length, replicate, slice_get, Some, None, refl, sym, ap, ◌∙◌, arith}
use Rattle.std.specs.List.{list_any}
use Rattle.std.specs.Str.{bytes_eq}
use Rattle.std.proofs.lemmas.Bool.Decides.{Decides-eqb}
use Rattle.std.proofs.lemmas.List.{length-replicate}
use Rattle.std.proofs.lemmas.Slice.Eq.{bytes_eq-Decides}
use Rattle.php_link.specs.Names.{Knows}
use Rattle.php_link.proofs.Texts.{not_true, or_none, Lone}

abbrev pub total : ℕ → List (List ℕ) → ℕ → List ℕ
total long [] n = replicate (long + n) 0
total long (x ∷ xs) zero = x
total long (x ∷ xs) (suc n) = total long xs n

-- a length that no text has
abbrev pub above : List (List ℕ) → ℕ
above [] = 1
above (x ∷ xs) = length x + above xs

abbrev pub Short : ℕ → List (List ℕ) → Type 0
Short long [] = 0 < long
Short long (x ∷ xs) = (length x < long) × Short long xs

widen : (a b : ℕ) (xs : List (List ℕ)) → a ≤ b → Short a xs → Short b xs
widen a b [] le h = omega (arith, h)
widen a b (x ∷ xs) le h = let less : length x < a = h.0 in (omega (arith, less), widen a b xs le h.1)

pub positive : (xs : List (List ℕ)) → 0 < above xs
positive [] = omega arith
positive (x ∷ xs) = let h = positive xs in omega (arith, h)

pub short : (xs : List (List ℕ)) → Short (above xs) xs
short [] = omega arith
short (x ∷ xs) = let h = positive xs in (omega (arith, h), widen (above xs) (length x + above xs) xs (omega arith) (short xs))

unlike : (a b : List ℕ) → length a < length b → bytes_eq a b ≡ false
unlike a b less = not_true (bytes_eq a b) (λ (e : bytes_eq a b ≡ true). let same : length a ≡ length b = ap length ((bytes_eq-Decides a b).0 e) in omega (arith, same, less))

other : (x : List ℕ) (long : ℕ) (xs : List (List ℕ)) (n : ℕ) → list_any (bytes_eq x) xs ≡ false → length x < long → bytes_eq x (total long xs n) ≡ false
other x long [] n e less = unlike x (replicate (long + n) 0) (let l : length {A = ℕ} (replicate (long + n) 0) ≡ long + n = length-replicate (long + n) 0 in omega (arith, l, less))
other x long (y ∷ ys) zero e less = (or_none (bytes_eq x y) (list_any (bytes_eq x) ys) e).0
other x long (y ∷ ys) (suc n) e less = other x long ys n (or_none (bytes_eq x y) (list_any (bytes_eq x) ys) e).1 less

clash : (x y : List ℕ) → bytes_eq x y ≡ false → x ≡ y → ⊥
clash x y unlike_them same = let alike : bytes_eq x y ≡ true = (bytes_eq-Decides x y).1 same in cc

one_number : (long : ℕ) (xs : List (List ℕ)) → Lone xs → Short long xs → (m n : ℕ) → total long xs m ≡ total long xs n → m ≡ n
one_number long [] l s m n e =
    let a : length {A = ℕ} (replicate (long + m) 0) ≡ long + m = length-replicate (long + m) 0 in
    let b : length {A = ℕ} (replicate (long + n) 0) ≡ long + n = length-replicate (long + n) 0 in
    let same : length {A = ℕ} (replicate (long + m) 0) ≡ length {A = ℕ} (replicate (long + n) 0) = ap length e in
    omega (arith, a, b, same)
one_number long (x ∷ xs) l s zero zero e = refl
one_number long (x ∷ xs) l s zero (suc n) e = absurd (clash x (total long xs n) (other x long xs n l.0 s.0) e)
one_number long (x ∷ xs) l s (suc m) zero e = absurd (clash x (total long xs m) (other x long xs m l.0 s.0) (sym e))
one_number long (x ∷ xs) l s (suc m) (suc n) e = ap suc (one_number long xs l.1 s.1 m n e)

eq_by : (a b : Bool) → (a ≡ true → b ≡ true) → (b ≡ true → a ≡ true) → a ≡ b
eq_by true b f g = sym (f refl)
eq_by false true f g = g refl
eq_by false false f g = refl

pub total_differs : (xs : List (List ℕ)) → Lone xs → (m n : ℕ) → bytes_eq (total (above xs) xs m) (total (above xs) xs n) ≡ (m == n)
total_differs xs l m n =
    eq_by (bytes_eq (total (above xs) xs m) (total (above xs) xs n)) (m == n)
    (λ (e : bytes_eq (total (above xs) xs m) (total (above xs) xs n) ≡ true). (Decides-eqb m n).1 (one_number (above xs) xs l (short xs) m n ((bytes_eq-Decides (total (above xs) xs m) (total (above xs) xs n)).0 e)))
    (λ (e : (m == n) ≡ true). (bytes_eq-Decides (total (above xs) xs m) (total (above xs) xs n)).1 (ap (total (above xs) xs) ((Decides-eqb m n).0 e)))

pub total_knows : (long : ℕ) (xs : List (List ℕ)) → Knows (total long xs) xs
total_knows long [] n text e = cc
total_knows long (x ∷ xs) zero text e = cc
total_knows long (x ∷ xs) (suc n) text e = total_knows long xs n text e
