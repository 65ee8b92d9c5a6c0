-- Lists of texts of which none stands twice.
use Rattle.std.proofs.Common.{◌≡◌, ℕ, zero, suc, ◌+◌, ◌<◌, ◌≤◌, Bool, true, false, ◌||◌, not, cond, nat_lt, List, [], ◌∷◌, ◌++◌, length, map, take, get_or, slice_get, position, Option, Some, None, refl, sym, ap, subst, ◌∙◌, arith}
use Rattle.std.specs.List.{list_any, position_or_len}
use Rattle.std.specs.Str.{bytes_eq}
use Rattle.std.specs.Cmp.Lexicographic.{same_text}
use Rattle.std.proofs.lemmas.Bool.Decides.{Decides-ltb}
use Rattle.std.proofs.lemmas.List.Quantifiers.{position-Some}
use Rattle.php_names.proofs.Tables.{bytes_eq-swapped}
use Rattle.php_tables.proofs.Names.{none_passes}
use Rattle.php_state.specs.Linked.{AreApart}
use Rattle.php_link.specs.Names.{Grows, first_names}

pub not_true : (b : Bool) → (b ≡ true → ⊥) → b ≡ false
not_true true h = absurd (h refl)
not_true false h = refl

pub or_none : (a b : Bool) → (a || b) ≡ false → (a ≡ false) × (b ≡ false)
or_none true b e = (e, cc)
or_none false b e = (refl, e)

pub both_false : (a b : Bool) → a ≡ false → b ≡ false → (a || b) ≡ false
both_false true b e f = e
both_false false b e f = f

less_itself : (n : ℕ) → nat_lt n n ≡ false
less_itself n = not_true (nat_lt n n) (λ (e : nat_lt n n ≡ true). let h : n < n = (Decides-ltb n n).0 e in omega (arith, h))

none_len : (p : List ℕ → Bool) (xs : List (List ℕ)) → list_any p xs ≡ false → position_or_len p xs ≡ length xs
none_len p [] e = refl
none_len p (x ∷ xs) e =
    let h = or_none (p x) (list_any p xs) e in
    let more : 1 + length xs ≡ length (x ∷ xs) = omega arith in
    ap (λ b. cond (not b) (1 + position_or_len p xs) 0) h.0 ∙ (ap (λ n. 1 + n) (none_len p xs h.1) ∙ more)

pub not_there : (p : List ℕ → Bool) (xs : List (List ℕ)) → list_any p xs ≡ false → position p xs ≡ None
not_there p xs e = ap (λ n. cond (nat_lt n (length xs)) (Some n) None) (none_len p xs e) ∙ ap (λ b. cond b (Some (length xs)) None) (less_itself (length xs))

-- each text is none of those after it
abbrev pub Lone : List (List ℕ) → Type 0
Lone [] = Unit {0}
Lone (p ∷ ps) = (list_any (bytes_eq p) ps ≡ false) × Lone ps

pub lone : (ps : List (List ℕ)) → AreApart ps → Lone ps
lone [] h = tt
lone (p ∷ ps) h = (none_passes (bytes_eq p) ps h.0, lone ps h.1)

pub apart : (ps : List (List ℕ)) → Lone ps → AreApart ps
apart [] h = tt
apart (p ∷ ps) h = (not_there (bytes_eq p) ps h.0, apart ps h.1)

any_more : (p : List ℕ → Bool) (xs : List (List ℕ)) (y : List ℕ) → list_any p xs ≡ false → p y ≡ false → list_any p (xs ++ y ∷ []) ≡ false
any_more p [] y e f = ap (λ b. b || false) f
any_more p (x ∷ xs) y e f = let h = or_none (p x) (list_any p xs) e in both_false (p x) (list_any p (xs ++ y ∷ [])) h.0 (any_more p xs y h.1 f)

lone_more : (ps : List (List ℕ)) (q : List ℕ) → Lone ps → list_any (bytes_eq q) ps ≡ false → Lone (ps ++ q ∷ [])
lone_more [] q h e = (refl, tt)
lone_more (p ∷ ps) q h e =
    let f = or_none (bytes_eq q p) (list_any (bytes_eq q) ps) e in
    (any_more (bytes_eq p) ps q h.0 (bytes_eq-swapped p q ∙ f.0), lone_more ps q h.1 f.1)

-- one text more
pub apart_more : (ps : List (List ℕ)) (q : List ℕ) → AreApart ps → position (bytes_eq q) ps ≡ None → AreApart (ps ++ q ∷ [])
apart_more ps q h e = apart (ps ++ q ∷ []) (lone_more ps q (lone ps h) (none_passes (bytes_eq q) ps e))

none_at : {A : Type 0} (f : A → List ℕ) (p : List ℕ → Bool) (xs : List A) (i : ℕ) (x : A) → list_any p (map f xs) ≡ false → i < length xs → x ≡ get_or xs i x → p (f x) ≡ false
none_at f p [] i x e less is = absurd (omega arith)
none_at f p (y ∷ ys) zero x e less is = ap (λ z. p (f z)) is ∙ (or_none (p (f y)) (list_any p (map f ys)) e).0
none_at f p (y ∷ ys) (suc i) x e less is = none_at f p ys i x (or_none (p (f y)) (list_any p (map f ys)) e).1 (omega arith) is

lone_before : {A : Type 0} (f : A → List ℕ) (xs : List A) (i : ℕ) (x : A) → Lone (map f xs) → i < length xs → x ≡ get_or xs i x → list_any (bytes_eq (f x)) (map f (take i xs)) ≡ false
lone_before f [] i x h less is = absurd (omega arith)
lone_before f (y ∷ ys) zero x h less is = refl
lone_before f (y ∷ ys) (suc i) x h less is =
    both_false (bytes_eq (f x) (f y)) (list_any (bytes_eq (f x)) (map f (take i ys)))
    (bytes_eq-swapped (f x) (f y) ∙ none_at f (bytes_eq (f y)) ys i x h.0 (omega arith) is)
    (lone_before f ys i x h.1 (omega arith) is)

-- a text of such a list is none of those before it
pub not_before : {A : Type 0} (f : A → List ℕ) (xs : List A) (i : ℕ) (x : A) (text : List ℕ) (table : List (List ℕ)) → AreApart (map f xs) → i < length xs → x ≡ get_or xs i x
    → table ≡ map f (take i xs) → text ≡ f x → position (bytes_eq text) table ≡ None
not_before f xs i x text table h less is e is_text =
    ap (λ z. position (bytes_eq z) table) is_text ∙ (ap (position (bytes_eq (f x))) e ∙ not_there (bytes_eq (f x)) (map f (take i xs)) (lone_before f xs i x (lone (map f xs) h) less is))

-- ---- numbers

pub at_end : (xs : List (List ℕ)) (x : List ℕ) → slice_get (xs ++ x ∷ []) (length xs) ≡ Some x
at_end [] x = refl
at_end (y ∷ ys) x = at_end ys x

pub grows_more : (xs ys : List (List ℕ)) → Grows xs (xs ++ ys)
grows_more [] ys n text e = cc
grows_more (x ∷ xs) ys zero text e = e
grows_more (x ∷ xs) ys (suc n) text e = grows_more xs ys n text e

got : (xs : List (List ℕ)) (i : ℕ) → i < length xs → slice_get xs i ≡ Some (get_or xs i [])
got [] i within = absurd (omega arith)
got (x ∷ xs) zero within = refl
got (x ∷ xs) (suc i) within = got xs i (omega arith)

pub place : (xs : List (List ℕ)) (x : List ℕ) (n : ℕ) → position (bytes_eq x) xs ≡ Some n → slice_get xs n ≡ Some x
place xs x n e =
    let at = position-Some (bytes_eq x) xs n [] e in
    let same : x ≡ get_or xs n [] = same_text x (get_or xs n []) (sym at.1) in
    got xs n at.0 ∙ ap Some (sym same)

pub begins : (front xs : List (List ℕ)) → Grows front xs → take (length front) xs ≡ front
begins [] xs g = refl
begins (y ∷ ys) [] g = let e : None ≡ Some y = g zero y refl in cc
begins (y ∷ ys) (x ∷ xs) g =
    let e : Some x ≡ Some y = g zero y refl in
    let f : x ≡ y = cc in
    ap (λ z. z ∷ take (length ys) xs) f ∙ ap (λ z. y ∷ z) (begins ys xs (λ n. g (suc n)))

pub first_apart : AreApart first_names
first_apart = (refl, (refl, (refl, (refl, (refl, (refl, (refl, tt)))))))
