-- The names that a set holds, and their places.
use denote.Ref.{Bor}
use Rattle.std.proofs.Common.{◌≡◌, ℕ, ◌+◌, ◌≤◌, min, Bool, true, false, ◌||◌, not, cond, List, [], ◌∷◌, ◌++◌, length, map, Some, None, nat_lt, position, if◌then◌else◌, refl, ap, ◌∙◌, arith}
use Rattle.std.proofs.lemmas.Bool.{ltb-false}
use Rattle.std.proofs.lemmas.List.{map-append, length-take}
use Rattle.std.proofs.lemmas.List.Folds.{length-prefix_len}
use Rattle.std.specs.Str.{bytes_eq}
use Rattle.std.specs.List.{list_any, position_or_len}
use Rattle.indexmap.specs.IndexSet.{insert_key}
use Rattle.php_lexemes.specs.Names.{pointed, noted, number_in}

any_pointed : (name : List ℕ) (ks : List (Bor (List ℕ))) → list_any (λ k. bytes_eq name k.now) ks ≡ list_any (bytes_eq name) (map pointed ks)
any_pointed name [] = refl
any_pointed name (k ∷ ks) = ap (λ b. bytes_eq name k.now || b) (any_pointed name ks)

noted_if : (b : Bool) (name : Bor (List ℕ)) (ks : List (Bor (List ℕ))) → map pointed (if b then ks else ks ++ name ∷ []) ≡ (if b then map pointed ks else map pointed ks ++ name.now ∷ [])
noted_if true name ks = refl
noted_if false name ks = map-append pointed ks (name ∷ [])

-- a key that is inserted is a name that is noted
pub note_keys : (ks : List (Bor (List ℕ))) (name : Bor (List ℕ)) → map pointed (insert_key (λ x y. bytes_eq x.now y.now) ks name) ≡ noted (map pointed ks) name.now
note_keys ks name =
    noted_if (list_any (λ k. bytes_eq name.now k.now) ks) name ks
    ∙ ap (λ b. if b then map pointed ks else map pointed ks ++ name.now ∷ []) (any_pointed name.now ks)

place_pointed : (name : List ℕ) (ks : List (Bor (List ℕ))) → position_or_len (λ k. bytes_eq name k.now) ks ≡ number_in (map pointed ks) name
place_pointed name [] = refl
place_pointed name (k ∷ ks) = ap (λ n. cond (not (bytes_eq name k.now)) (1 + n) 0) (place_pointed name ks)

some_place : (b : Bool) (n i : ℕ) → Some i ≡ cond b (Some n) None → i ≡ n
some_place true n i e = cc
some_place false n i e = absurd cc

pub number_found : (name : List ℕ) (ks : List (Bor (List ℕ))) (i : ℕ) → Some i ≡ position (λ k. bytes_eq name k.now) ks → i ≡ number_in (map pointed ks) name
number_found name ks i e = some_place (nat_lt (position_or_len (λ k. bytes_eq name k.now) ks) (length ks)) _ i e ∙ place_pointed name ks

no_place : (b : Bool) (n : ℕ) → None ≡ cond b (Some n) None → b ≡ false
no_place true n e = absurd cc
no_place false n e = refl

below : (n m k : ℕ) → k ≡ n → k ≡ min n m → n ≤ m
below n m k e f = omega arith

past_end : (n m : ℕ) → n ≤ m → nat_lt n m ≡ false → m ≡ n
past_end n m l e = let k = ltb-false n m e in omega arith

pub number_absent : (name : List ℕ) (ks : List (Bor (List ℕ))) → None ≡ position (λ k. bytes_eq name k.now) ks → length ks ≡ number_in (map pointed ks) name
number_absent name ks e = past_end (position_or_len (λ k. bytes_eq name k.now) ks) (length ks) (below _ _ _ (length-prefix_len (λ k. not (bytes_eq name k.now)) ks) (length-take (position_or_len (λ k. bytes_eq name k.now) ks) ks)) (no_place _ _ e) ∙ place_pointed name ks
