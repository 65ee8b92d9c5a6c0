-- Lists of names, and what is found in them.
use denote.Ref.{Bor}
use Rattle.std.proofs.Common.{◌≡◌, ℕ, suc, ◌+◌, ◌≤◌, Bool, true, false, ◌||◌, not, cond, List, [], ◌∷◌, ◌++◌, length, map, position, Option, Some, None, is_some, nat_lt, if◌then◌else◌, refl, sym, ap, ◌∙◌, arith}
use Rattle.std.proofs.lemmas.Bool.{ltb-false, le-ltb}
use Rattle.std.proofs.lemmas.List.{map-append, length-map}
use Rattle.std.proofs.lemmas.List.Folds.{list_any-append}
use Rattle.std.specs.Cmp.Lexicographic.{same_text}
use Rattle.std.specs.Option.{option_copied}
use Rattle.std.specs.Result.{is_err}
use Rattle.std.proofs.Common.{Result, Ok, Err, OnOk}
use Rattle.std.specs.List.{list_any, position_or_len}
use Rattle.std.specs.Str.{bytes_eq}
use Rattle.indexmap.specs.IndexSet.{insert_key}
use Rattle.php_names.specs.Tables.{found}
use Rattle.php_tables.specs.Entered.{path_at, AreTheSame}

-- ---- places

position_or_len-map : {K A : Type 0} (h : K → A) (test : A → Bool) (ks : List K) → position_or_len (λ k. test (h k)) ks ≡ position_or_len test (map h ks)
position_or_len-map h test [] = refl
position_or_len-map h test (k ∷ ks) = ap (λ n. cond (not (test (h k))) (1 + n) 0) (position_or_len-map h test ks)

pub position-map : {K A : Type 0} (h : K → A) (test : A → Bool) (ks : List K) → position (λ k. test (h k)) ks ≡ position test (map h ks)
position-map h test ks = let l = sym (length-map ks h) in λ i. cond (nat_lt (position_or_len-map h test ks i) (l i)) (Some (position_or_len-map h test ks i)) None

no_place : (b : Bool) (n : ℕ) → cond b (Some n) None ≡ None → b ≡ false
no_place true n e = absurd cc
no_place false n e = refl

step_back : (b r : Bool) (n m : ℕ) → nat_lt (cond (not b) (1 + n) 0) (suc m) ≡ false → (nat_lt n m ≡ false → r ≡ false) → (b || r) ≡ false
step_back true r n m e more = let h : suc m ≤ 0 = ltb-false 0 (suc m) e in absurd (omega arith)
step_back false r n m e more = let h : suc m ≤ 1 + n = ltb-false (1 + n) (suc m) e in more (le-ltb n m (omega arith))

past_all : {A : Type 0} (test : A → Bool) (xs : List A) → nat_lt (position_or_len test xs) (length xs) ≡ false → list_any test xs ≡ false
past_all test [] e = refl
past_all test (x ∷ xs) e = step_back (test x) (list_any test xs) (position_or_len test xs) (length xs) e (past_all test xs)

pub none_passes : {A : Type 0} (test : A → Bool) (xs : List A) → position test xs ≡ None → list_any test xs ≡ false
none_passes test xs e = past_all test xs (no_place (nat_lt (position_or_len test xs) (length xs)) (position_or_len test xs) e)

any_mapped : {K A : Type 0} (h : K → A) (test : A → Bool) (ks : List K) → list_any (λ k. test (h k)) ks ≡ list_any test (map h ks)
any_mapped h test [] = refl
any_mapped h test (k ∷ ks) = ap (λ b. test (h k) || b) (any_mapped h test ks)

insert_if : {K A : Type 0} (h : K → A) (b : Bool) (ks : List K) (k : K) → b ≡ false → map h (if b then ks else ks ++ k ∷ []) ≡ map h ks ++ h k ∷ []
insert_if h true ks k e = absurd cc
insert_if h false ks k e = map-append h ks (k ∷ [])

-- a key that is not there goes last
pub inserted : {K : Type 0} (text : K → List ℕ) (ks new : List K) (k : K) (name : List ℕ) (names : List (List ℕ)) → text k ≡ name → map text ks ≡ names →
    new ≡ insert_key (λ i j. bytes_eq (text i) (text j)) ks k → position (bytes_eq name) names ≡ None → map text new ≡ names ++ name ∷ []
inserted text ks new k name names text_is view is none =
    ap (map text) is
    ∙ (insert_if text (list_any (λ j. bytes_eq (text k) (text j)) ks) ks k
    (any_mapped text (bytes_eq (text k)) ks ∙ ((λ i. list_any (bytes_eq (text_is i)) (view i)) ∙ none_passes (bytes_eq name) names none))
    ∙ (λ i. view i ++ text_is i ∷ []))

-- ---- files that were entered

absorbed : (b c : Bool) → (c ≡ true → b ≡ true) → b ≡ (b || c)
absorbed true c h = refl
absorbed false true h = h refl
absorbed false false h = refl

last_of_any : (q p : List ℕ) (paths : List (List ℕ)) → list_any (λ r. bytes_eq r q) (paths ++ p ∷ []) ≡ (list_any (λ r. bytes_eq r q) paths || bytes_eq p q)
last_of_any q p paths = list_any-append (λ r. bytes_eq r q) paths (p ∷ []) ∙ ap (λ b. list_any (λ r. bytes_eq r q) paths || b) (or_false (bytes_eq p q))
  where
    or_false : (b : Bool) → (b || false) ≡ b
    or_false true = refl
    or_false false = refl

-- a file that was entered before
pub again : {V : Type 0} (names : List (List ℕ × V)) (paths more : List (List ℕ)) (p : List ℕ) → AreTheSame names paths → is_some (found p names) ≡ true → more ≡ paths ++ p ∷ [] →
    AreTheSame names more
again names paths more p same there is q =
    same q
    ∙ (absorbed (list_any (λ r. bytes_eq r q) paths) (bytes_eq p q) (λ e. sym (same q) ∙ (ap (λ r. is_some (found r names)) (sym (same_text p q (sym e))) ∙ there))
    ∙ (sym (last_of_any q p paths) ∙ ap (list_any (λ r. bytes_eq r q)) (sym is)))

some_or : {V : Type 0} (b : Bool) (v : V) (o : Option V) (c : Bool) (r : Bool) → r ≡ (is_some o || c) → (if b then true else r) ≡ (is_some (if b then Some v else o) || c)
some_or true v o c r e = refl
some_or false v o c r e = e

is_some_if : {V : Type 0} (b : Bool) (v : V) (o : Option V) → is_some (if b then Some v else o) ≡ (if b then true else is_some o)
is_some_if true v o = refl
is_some_if false v o = refl

one_found : {V : Type 0} (b : Bool) (v : V) → (if b then true else false) ≡ (false || b)
one_found true v = refl
one_found false v = refl

found_more : {V : Type 0} (q p : List ℕ) (v : V) (names : List (List ℕ × V)) → is_some (found q (names ++ (p, v) ∷ [])) ≡ (is_some (found q names) || bytes_eq p q)
found_more q p v [] = is_some_if (bytes_eq p q) v None ∙ one_found (bytes_eq p q) v
found_more q p v (n ∷ names) =
    is_some_if (bytes_eq n.0 q) n.1 (found q (names ++ (p, v) ∷ []))
    ∙ some_or (bytes_eq n.0 q) n.1 (found q names) (bytes_eq p q) (is_some (found q (names ++ (p, v) ∷ []))) (found_more q p v names)

-- a file that is entered for the first time
pub first_time : {V : Type 0} (names new : List (List ℕ × V)) (paths more : List (List ℕ)) (p : List ℕ) (v : V) → AreTheSame names paths → new ≡ names ++ (p, v) ∷ [] → more ≡ paths ++ p ∷ [] →
    AreTheSame new more
first_time names new paths more p v same new_is is q =
    ap (λ n. is_some (found q n)) new_is
    ∙ (found_more q p v names ∙ (ap (λ b. b || bytes_eq p q) (same q) ∙ (sym (last_of_any q p paths) ∙ ap (list_any (λ r. bytes_eq r q)) (sym is))))

pub paths_more : (order more : List (Bor (List ℕ))) (p : Bor (List ℕ)) → more ≡ order ++ p ∷ [] → map path_at more ≡ map path_at order ++ p.now ∷ []
paths_more order more p is = ap (map path_at) is ∙ map-append path_at order (p ∷ [])

pub some_copied : {V : Type 0} (o : Option (Bor V)) → is_some (option_copied o) ≡ is_some o
some_copied (Some v) = refl
some_copied None = refl

-- what a call that did not fail has done
pub done : {T E : Type 0} (r : Result T E) (P : Type 0) → OnOk r P → is_err r ≡ false → P
done (Ok v) P p e = p
done (Err f) P p e = absurd cc
