-- Numbers of roles that were read are numbers of roles.
use Rattle.std.proofs.Common.{◌≡◌, ℕ, suc, ◌+◌, ◌<◌, ◌≤◌, Bool, true, false, List, [], ◌∷◌, length, codes, Option, Some, None, is_none, IsTrue, if◌then◌else◌, map, String, Global, string_bytes, refl, ap, subst, arith}
use Rattle.std.proofs.lemmas.List.{length-map}
use Rattle.std.proofs.lemmas.Bool.Decides.{nat_tests}
use Rattle.std.specs.List.{list_all}
use Rattle.std.specs.Str.{bytes_eq}
use Rattle.std.specs.declared.result.Result.TheVariants.{Ok}
use Rattle.order_map.proofs.Keys.{and_both}
use Rattle.toml.specs.Data.{Members, no_members, member, get_member}
use Rattle.role_routing.specs.Names.{again, are_names, are_roles, is_number}
use Rattle.role_routing.specs.Forms.{bad_key}
use Rattle.role_routing.specs.Files.{◌>>=◌, text_of, list_of, unless_again, role_names, number_from, known, number_of, users_of, keep_of}
use Rattle.role_routing.proofs.Judging.{bind-ok}
use Rattle.role_routing.proofs.Formed.{roles-formed}

-- ---- one number

within_step : (b : Bool) (i n : ℕ) (count : ℕ) (rest : Option ℕ) → (if b then Some i else rest) ≡ Some n → (rest ≡ Some n → (i + 1 ≤ n) × (n < i + 1 + count)) → (i ≤ n) × (n < i + suc count)
within_step true i n count rest e ih = let q : i ≡ n = cc in (omega arith, omega arith)
within_step false i n count rest e ih = let w = ih e in let a = w.0 in let b = w.1 in (omega arith, omega arith)

number-within : (i : ℕ) (name : List ℕ) (ns : List (List ℕ)) (n : ℕ) → number_from i name ns ≡ Some n → (i ≤ n) × (n < i + length ns)
number-within i name [] n e = absurd (cc)
number-within i name (m ∷ ns) n e = within_step (bytes_eq m name) i n (length ns) (number_from (i + 1) name ns) e (λ h. number-within (i + 1) name ns n h)

known_step : (name : List ℕ) (o : Option ℕ) (n : ℕ) → known name o ≡ Ok n → o ≡ Some n
known_step name None n e = absurd (cc)
known_step name (Some m) n e = let q : m ≡ n = cc in ap Some q

numbered : (count n : ℕ) → 1 ≤ n → n < 1 + count → IsTrue (is_number count n)
numbered count n a b = grind (arith, nat_tests)

pub number-sound : (names : List (List ℕ)) (name : List ℕ) (n : ℕ) → number_of names name ≡ Ok n → IsTrue (is_number (length names) n)
unfolding number_of
number-sound names name n e =
    let w = number-within 1 name names n (known_step name (number_from 1 name names) n e) in
    numbered (length names) n w.0 w.1

-- ---- the numbers of users and of keep lists

pub users-sound : (names : List (List ℕ)) (ms : Members) (us : List (List ℕ × ℕ)) → users_of names ms ≡ Ok us → IsTrue (list_all (λ u. is_number (length names) u.1) us)
users-sound names no_members us e = let q : [] ≡ us = cc in subst (λ l. IsTrue (list_all (λ u. is_number (length names) u.1) l)) q refl
users-sound names (member user d ms) us e =
    let a = bind-ok (number_of names (text_of d)) (λ n. users_of names ms >>= (λ us. Ok ((user, n) ∷ us))) us e in
    let b = bind-ok (users_of names ms) (λ us. Ok ((user, a.0) ∷ us)) us a.2 in
    let q : (user, a.0) ∷ b.0 ≡ us = cc in
    subst (λ l. IsTrue (list_all (λ u. is_number (length names) u.1) l)) q (and_both _ _ (number-sound names (text_of d) a.0 a.1) (users-sound names ms b.0 b.1))

pub keep-sound : (names : List (List ℕ)) (ms : Members) (ks : List (ℕ × List (List ℕ))) → keep_of names ms ≡ Ok ks → IsTrue (list_all (λ k. is_number (length names) k.0) ks)
keep-sound names no_members ks e = let q : [] ≡ ks = cc in subst (λ l. IsTrue (list_all (λ k. is_number (length names) k.0) l)) q refl
keep-sound names (member role d ms) ks e =
    let a = bind-ok (number_of names role) (λ n. keep_of names ms >>= (λ ks. Ok ((n, list_of (Some d)) ∷ ks))) ks e in
    let b = bind-ok (keep_of names ms) (λ ks. Ok ((a.0, list_of (Some d)) ∷ ks)) ks a.2 in
    let q : (a.0, list_of (Some d)) ∷ b.0 ≡ ks = cc in
    subst (λ l. IsTrue (list_all (λ k. is_number (length names) k.0) l)) q (and_both _ _ (number-sound names role a.0 a.1) (keep-sound names ms b.0 b.1))

-- ---- the names

names_step : (ns : List (List ℕ)) (o : Option (List ℕ)) (names : List (List ℕ)) → unless_again ns o ≡ Ok names → (ns ≡ names) × (o ≡ None)
names_step ns None names e = let q : ns ≡ names = cc in (q, refl)
names_step ns (Some n) names e = absurd (cc)

pub names-sound : (ms : Members) (names : List (List ℕ)) → bad_key ms ≡ None → role_names ms ≡ Ok names → IsTrue (are_names names)
unfolding role_names
names-sound ms names h e =
    let ns = list_of (get_member (codes "roles") ms) in
    let f = roles-formed ms h in
    let s = names_step ns (again [] ns) names e in
    subst (λ l. IsTrue (are_names l)) s.0 (and_both _ _ f.count (and_both _ _ f.forms (ap is_none s.1)))

-- so few that each number fits a byte
pub few-names : (names : List (List ℕ)) → IsTrue (are_names names) → length names < 256
few-names names h = grind (arith, nat_tests)

-- roles of sound parts
pub roles-sound : (names : List (List ℕ)) (guest : ℕ) (us : List (List ℕ × ℕ)) (ks : List (ℕ × List (List ℕ))) → IsTrue (are_names names) → IsTrue (is_number (length names) guest)
    → IsTrue (list_all (λ u. is_number (length names) u.1) us) → IsTrue (list_all (λ k. is_number (length names) k.0) ks) → IsTrue (are_roles (record { names = names; guest = guest; users = us; keep = ks }))
roles-sound names guest us ks a b c d = and_both _ _ (and_both _ _ a b) (and_both _ _ c d)

pub few-slice : (ms : Members) (xs ys : List (String Global)) → bad_key ms ≡ None → role_names ms ≡ Ok (map string_bytes xs) → ys ≡ xs → length ys < 256
few-slice ms xs ys h e same =
    let few = few-names (map string_bytes xs) (names-sound ms (map string_bytes xs) h e) in
    let l = length-map xs (string_bytes {Z = Global}) in
    rw same (omega arith)
