-- Walks over names, texts, users and keep lists.
use Rattle.std.proofs.Common.{◌≡◌, ℕ, ◌+◌, ◌<◌, ◌≤◌, Bool, true, false, List, [], ◌∷◌, ◌++◌, map, length, take, drop, get_or, Option, Some, None, if◌then◌else◌, String, Vec, Global, string_bytes, refl, sym, ap, ◌∙◌}
use Rattle.std.proofs.lemmas.List.{drop_all, drop_more, take_more}
use Rattle.std.specs.List.{list_any}
use Rattle.std.specs.Str.{bytes_eq}
use Rattle.std.specs.declared.result.Result.TheVariants.{Ok, Err}
use Rattle.toml.specs.Data.{Data, Items, item, Members, member}
use Rattle.role_routing.specs.Names as named
use Rattle.role_routing.specs.Names.{again, user_of}
use Rattle.role_routing.specs.Held.{role_of}
use Rattle.role_routing.specs.Files.{FileFault, ◌>>=◌, text_of, texts_of, list_of, number_from, number_of, users_of, keep_of}
use Rattle.role_routing.proofs.Judging.{bind-more}

-- ---- texts

pub texts-step : (ts : List (String Global)) (s : String Global) (d : Data) (ds : Items) → string_bytes s ≡ text_of d → map string_bytes (ts ++ s ∷ []) ++ texts_of ds ≡ map string_bytes ts ++ texts_of (item d ds)
texts-step [] s d ds e = ap (λ b. b ∷ texts_of ds) e
texts-step (t ∷ ts) s d ds e = ap (λ l. string_bytes t ∷ l) (texts-step ts s d ds e)

-- ---- names by their place

names-drop : (xs : List (String Global)) (i : ℕ) (x : String Global) → i < length xs → map string_bytes (drop i xs) ≡ string_bytes (get_or xs i x) ∷ map string_bytes (drop (i + 1) xs)
names-drop xs i x l = ap (map string_bytes) (drop_more xs i x l)

passed : (b : Bool) (i : ℕ) (rest : Option ℕ) → b ≡ false → (if b then Some i else rest) ≡ rest
passed true i rest e = absurd (cc)
passed false i rest e = refl

met : (b : Bool) (i : ℕ) (rest : Option ℕ) → b ≡ true → (if b then Some i else rest) ≡ Some i
met true i rest e = refl
met false i rest e = absurd (cc)

-- the name at a place is another
pub number-next : (xs : List (String Global)) (i : ℕ) (x : String Global) (name : List ℕ) → i < length xs → x ≡ get_or xs i x → bytes_eq (string_bytes x) name ≡ false
    → number_from (i + 1) name (map string_bytes (drop i xs)) ≡ number_from (i + 1 + 1) name (map string_bytes (drop (i + 1) xs))
number-next xs i x name l e other =
    ap (number_from (i + 1) name) (names-drop xs i x l ∙ ap (λ y. string_bytes y ∷ map string_bytes (drop (i + 1) xs)) (sym e))
    ∙ passed (bytes_eq (string_bytes x) name) (i + 1) (number_from (i + 1 + 1) name (map string_bytes (drop (i + 1) xs))) other

-- the name at a place is sought
pub number-here : (xs : List (String Global)) (i : ℕ) (x : String Global) (name : List ℕ) → i < length xs → x ≡ get_or xs i x → bytes_eq (string_bytes x) name ≡ true
    → number_from (i + 1) name (map string_bytes (drop i xs)) ≡ Some (i + 1)
number-here xs i x name l e same =
    ap (number_from (i + 1) name) (names-drop xs i x l ∙ ap (λ y. string_bytes y ∷ map string_bytes (drop (i + 1) xs)) (sym e))
    ∙ met (bytes_eq (string_bytes x) name) (i + 1) (number_from (i + 1 + 1) name (map string_bytes (drop (i + 1) xs))) same

pub number-none : (xs : List (String Global)) (i : ℕ) (name : List ℕ) → length xs ≤ i → number_from (i + 1) name (map string_bytes (drop i xs)) ≡ None
number-none xs i name l = ap (λ l. number_from (i + 1) name (map string_bytes l)) (drop_all i xs l)

-- ---- names that stand again

fresh : (b : Bool) (n : List ℕ) (rest : Option (List ℕ)) → b ≡ false → (if b then Some n else rest) ≡ rest
fresh true n rest e = absurd (cc)
fresh false n rest e = refl

stale : (b : Bool) (n : List ℕ) (rest : Option (List ℕ)) → b ≡ true → (if b then Some n else rest) ≡ Some n
stale true n rest e = refl
stale false n rest e = absurd (cc)

names-push : (xs : List (String Global)) (x : String Global) → map string_bytes (xs ++ x ∷ []) ≡ map string_bytes xs ++ string_bytes x ∷ []
names-push [] x = refl
names-push (y ∷ xs) x = ap (λ l. string_bytes y ∷ l) (names-push xs x)

again-front : (xs : List (String Global)) (i : ℕ) (x : String Global) → i < length xs → x ≡ get_or xs i x
    → again (map string_bytes (take i xs)) (map string_bytes (drop i xs)) ≡ again (map string_bytes (take i xs)) (string_bytes x ∷ map string_bytes (drop (i + 1) xs))
again-front xs i x l e = ap (again (map string_bytes (take i xs))) (names-drop xs i x l ∙ ap (λ y. string_bytes y ∷ map string_bytes (drop (i + 1) xs)) (sym e))

pub again-next : (xs : List (String Global)) (i : ℕ) (x : String Global) → i < length xs → x ≡ get_or xs i x → list_any (bytes_eq (string_bytes x)) (map string_bytes (take i xs)) ≡ false
    → again (map string_bytes (take i xs)) (map string_bytes (drop i xs)) ≡ again (map string_bytes (take (i + 1) xs)) (map string_bytes (drop (i + 1) xs))
again-next xs i x l e other =
    let more = take_more xs i x l ∙ ap (λ y. take i xs ++ y ∷ []) (sym e) in
    again-front xs i x l e
    ∙ fresh (list_any (bytes_eq (string_bytes x)) (map string_bytes (take i xs))) (string_bytes x) (again (map string_bytes (take i xs) ++ string_bytes x ∷ []) (map string_bytes (drop (i + 1) xs))) other
    ∙ sym (ap (λ l. again l (map string_bytes (drop (i + 1) xs))) (ap (map string_bytes) more ∙ names-push (take i xs) x))

pub again-here : (xs : List (String Global)) (i : ℕ) (x : String Global) → i < length xs → x ≡ get_or xs i x → list_any (bytes_eq (string_bytes x)) (map string_bytes (take i xs)) ≡ true
    → again (map string_bytes (take i xs)) (map string_bytes (drop i xs)) ≡ Some (string_bytes x)
again-here xs i x l e same =
    again-front xs i x l e ∙ stale (list_any (bytes_eq (string_bytes x)) (map string_bytes (take i xs))) (string_bytes x) (again (map string_bytes (take i xs) ++ string_bytes x ∷ []) (map string_bytes (drop (i + 1) xs))) same

pub again-none : (xs : List (String Global)) (i : ℕ) → length xs ≤ i → again (map string_bytes (take i xs)) (map string_bytes (drop i xs)) ≡ None
again-none xs i l = ap (λ l. again (map string_bytes (take i xs)) (map string_bytes l)) (drop_all i xs l)

-- ---- users and keep lists

pub users-more : (names : List (List ℕ)) (k : List ℕ) (d : Data) (ms : Members) (n : ℕ) (done : List (List ℕ × ℕ)) → number_of names (text_of d) ≡ Ok n
    → (users_of names (member k d ms) >>= (λ us. Ok (done ++ us))) ≡ (users_of names ms >>= (λ us. Ok ((done ++ (k, n) ∷ []) ++ us)))
users-more names k d ms n done e =
    ap (λ r. (r >>= (λ n. users_of names ms >>= (λ us. Ok ((k, n) ∷ us)))) >>= (λ us. Ok (done ++ us))) e ∙ bind-more (users_of names ms) done (k, n)

pub users-refused : (names : List (List ℕ)) (k : List ℕ) (d : Data) (ms : Members) (f : FileFault) (done : List (List ℕ × ℕ)) → number_of names (text_of d) ≡ Err f
    → (users_of names (member k d ms) >>= (λ us. Ok (done ++ us))) ≡ Err f
users-refused names k d ms f done e = ap (λ r. (r >>= (λ n. users_of names ms >>= (λ us. Ok ((k, n) ∷ us)))) >>= (λ us. Ok (done ++ us))) e

pub users-push : (us : List (String Global × ℕ)) (u : String Global × ℕ) → map user_of (us ++ u ∷ []) ≡ map user_of us ++ user_of u ∷ []
users-push [] u = refl
users-push (v ∷ us) u = ap (λ l. user_of v ∷ l) (users-push us u)

pub keep-more : (names : List (List ℕ)) (k : List ℕ) (d : Data) (ms : Members) (n : ℕ) (done : List (ℕ × List (List ℕ))) → number_of names k ≡ Ok n
    → (keep_of names (member k d ms) >>= (λ ks. Ok (done ++ ks))) ≡ (keep_of names ms >>= (λ ks. Ok ((done ++ (n, list_of (Some d)) ∷ []) ++ ks)))
keep-more names k d ms n done e =
    ap (λ r. (r >>= (λ n. keep_of names ms >>= (λ ks. Ok ((n, list_of (Some d)) ∷ ks)))) >>= (λ ks. Ok (done ++ ks))) e ∙ bind-more (keep_of names ms) done (n, list_of (Some d))

pub keep-refused : (names : List (List ℕ)) (k : List ℕ) (d : Data) (ms : Members) (f : FileFault) (done : List (ℕ × List (List ℕ))) → number_of names k ≡ Err f
    → (keep_of names (member k d ms) >>= (λ ks. Ok (done ++ ks))) ≡ Err f
keep-refused names k d ms f done e = ap (λ r. (r >>= (λ n. keep_of names ms >>= (λ ks. Ok ((n, list_of (Some d)) ∷ ks)))) >>= (λ ks. Ok (done ++ ks))) e

-- ---- the role of a user

role_step : (b : Bool) (r : ℕ) (rest : Option ℕ) → b ≡ false → (if b then Some r else rest) ≡ rest
role_step true r rest e = absurd (cc)
role_step false r rest e = refl

pub role-next : (user : List ℕ) (us : List (List ℕ × ℕ)) (u : List ℕ × ℕ) → bytes_eq u.0 user ≡ false → role_of user (u ∷ us) ≡ role_of user us
role-next user us u e = role_step (bytes_eq u.0 user) u.1 (role_of user us) e

pub keep-push : (ks : List (ℕ × Vec (String Global) Global)) (k : ℕ × Vec (String Global) Global) → map named.keep_of (ks ++ k ∷ []) ≡ map named.keep_of ks ++ named.keep_of k ∷ []
keep-push [] k = refl
keep-push (j ∷ ks) k = ap (λ l. named.keep_of j ∷ l) (keep-push ks k)
