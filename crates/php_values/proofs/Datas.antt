-- The data of values, variant by variant, and of pairs.
use Rattle.std.proofs.Common.{rules, ◌≡◌, ℕ, Bool, true, false, not, List, [], ◌∷◌, refl, sym, ap, ◌∙◌, map, length, nat_eq, arith, zero, suc, ◌+◌, ◌++◌, drop, slice_get, Option, Some, None, option_map, IsSome, is_some, Ok, Err, Bor, nat_le, if◌then◌else◌, ◌<◌, ◌≤◌}
use Rattle.std.specs.Option.{option_copied}
use Rattle.std.proofs.lemmas.Bool.Decides.{nat_tests}
use Rattle.php_values.specs.declared.fault.ValueFault.TheVariants.{Size}
use Rattle.order_map.specs.declared.key.Key.{Key}
use Rattle.order_map.specs.MapView.{MapView, mapped}
use Rattle.order_map.specs.Keys.{same_key, next_after}
use Rattle.order_map.specs.Arrays.{pairs_of, next_of, AreCopies, IsCopy, look, put}
use Rattle.order_map.proofs.Places.{pairs_of-mapped, next_of-mapped}
use Rattle.php_values.specs.declared.value.Value.{Value, fold-roll-Value}
use Rattle.php_values.specs.declared.value.ArrayValue.{ArrayValue, fold_out-ArrayValue}
use Rattle.php_values.specs.declared.value.Value.TheVariants as kind
use Rattle.php_values.specs.declared.value.Value.TheOpen.{Value-F}
use Rattle.php_values.specs.Data.{Data, array, ArrayData, pair, of_pairs, data_of, array_of, map_data, pairs_data, data_step, array_step, data_pairs}
use Rattle.php_values.specs.Data.{count_of}
use Rattle.php_values.specs.Convert.{has_pairs}
use Rattle.php_values.specs.Compare.{value_of}
use Rattle.php_values.specs.Arithmetic.{put_last, added_if_missing, value_in, with_missing, max_pairs, sized_array}

pairs-mapped : (ps : List (Key × Value)) → pairs_data (map (λ p. (p.0, data_of p.1)) ps) ≡ data_pairs ps
pairs-mapped [] = refl
pairs-mapped (p ∷ ps) = ap (pair p.0 (data_of p.1)) (pairs-mapped ps)

-- the data of a map's values, taken value by value
pub map_data-mapped : (m : MapView Value) → map_data (mapped data_of m) ≡ array_of m
map_data-mapped m =
    (λ i. of_pairs (pairs_data (pairs_of-mapped data_of m i)) (next_of-mapped data_of m i)) ∙ ap (λ ps. of_pairs ps (next_of m)) (pairs-mapped (pairs_of m))

pub data-List : (a : ArrayValue) → data_of (kind.List a) ≡ array (array_of a.map.value)
data-List a = ap data_of (sym (kind.rolls-List a)) ∙ fold-roll-Value Data ArrayData data_step array_step (Value-F.List a) ∙ ap array (fold_out-ArrayValue Data ArrayData data_step array_step a ∙ map_data-mapped a.map.value)

pub has_pairs-length : (ps : List (Key × Value)) → not (nat_eq (length ps) 0) ≡ has_pairs (data_pairs ps)
has_pairs-length [] = refl
has_pairs-length (p ∷ ps) = grind arith

pub data_pairs-copies : (ps qs : List (Key × Value)) → AreCopies (λ value copy. data_of copy ≡ data_of value) ps qs → data_pairs qs ≡ data_pairs ps
data_pairs-copies [] [] h = refl
data_pairs-copies [] (q ∷ qs) h = absurd h
data_pairs-copies (p ∷ ps) [] h = absurd h
data_pairs-copies (p ∷ ps) (q ∷ qs) h = (λ i. pair (h.0 i) (h.1 i) (data_pairs-copies ps qs h.2 i))

pub array_of-copy : (m n : MapView Value) → IsCopy (λ value copy. data_of copy ≡ data_of value) m n → array_of n ≡ array_of m
array_of-copy m n h = (λ i. of_pairs (data_pairs-copies (pairs_of m) (pairs_of n) h.pairs i) (h.next i))

-- ---- a key among the pairs, and a pair behind them

look_step : (b : Bool) (v : Value) (o : Option Value) (d : Option Data) → option_map data_of o ≡ d → option_map data_of (if b then Some v else o) ≡ (if b then Some (data_of v) else d)
look_step true v o d e = refl
look_step false v o d e = e

pub look-data : (key : Key) (ps : List (Key × Value)) → option_map data_of (look key ps) ≡ value_of key (data_pairs ps)
look-data key [] = refl
look-data key (p ∷ ps) = look_step (same_key p.0 key) p.1 (look key ps) (value_of key (data_pairs ps)) (look-data key ps)

pub data_pairs-push : (ps : List (Key × Value)) (key : Key) (v : Value) → data_pairs (ps ++ (key, v) ∷ []) ≡ put_last key (data_of v) (data_pairs ps)
data_pairs-push [] key v = refl
data_pairs-push (p ∷ ps) key v = ap (pair p.0 (data_of p.1)) (data_pairs-push ps key v)

put_step : (b : Bool) (key k : Key) (x v : Value) (ps : List (Key × Value)) (o : Option Value) → (if b then Some x else o) ≡ None → (o ≡ None → put key v ps ≡ ps ++ (key, v) ∷ [])
    → (if b then (k, v) ∷ ps else (k, x) ∷ put key v ps) ≡ (k, x) ∷ (ps ++ (key, v) ∷ [])
put_step true key k x v ps o e ih = search rules
put_step false key k x v ps o e ih = ap (λ l. (k, x) ∷ l) (ih e)

pub put-missing : (key : Key) (v : Value) (ps : List (Key × Value)) → look key ps ≡ None → put key v ps ≡ ps ++ (key, v) ∷ []
put-missing key v [] e = refl
put-missing key v (p ∷ ps) e = put_step (same_key p.0 key) key p.0 p.1 v ps (look key ps) e (put-missing key v ps)

pub count-data : (ps : List (Key × Value)) → count_of (data_pairs ps) ≡ length ps
count-data [] = refl
count-data (p ∷ ps) = let h = count-data ps in omega arith

-- a key that a map lacks is added behind its pairs
pub added-missing : (key : Key) (v : Value) (m n : MapView Value) → look key (pairs_of m) ≡ None → pairs_of n ≡ put key v (pairs_of m) → next_of n ≡ next_after key (next_of m)
    → array_of n ≡ added_if_missing (value_in key (array_of m)) key (data_of v) (array_of m)
added-missing key v m n none pairs next =
    let e = ap data_pairs (pairs ∙ put-missing key v (pairs_of m) none) ∙ data_pairs-push (pairs_of m) key v in
    let o = sym (look-data key (pairs_of m)) ∙ ap (option_map data_of) none in
    (λ i. of_pairs (e i) (next i)) ∙ ap (λ o. added_if_missing o key (data_of v) (array_of m)) (sym o)

some_there : (o : Option Data) (key : Key) (d : Data) (a : ArrayData) → IsSome o → a ≡ added_if_missing o key d a
some_there None key d a h = search (rules, h)
some_there (Some e) key d a h = refl

map_some : (o : Option Value) (p : Option Data) → IsSome o → option_map data_of o ≡ p → IsSome p
map_some None p h e = search (rules, h)
map_some (Some v) None h e = search rules
map_some (Some v) (Some d) h e = refl

-- a key that is there stays
pub kept-there : (key : Key) (d : Data) (m : MapView Value) → IsSome (look key (pairs_of m)) → array_of m ≡ added_if_missing (value_in key (array_of m)) key d (array_of m)
kept-there key d m h = some_there (value_in key (array_of m)) key d (array_of m) (map_some (look key (pairs_of m)) _ h (look-data key (pairs_of m)))

-- one pair of the others taken
pub missing-step : (a : ArrayData) (ps : List (Key × Value)) (i : ℕ) (key : Key) (v : Value) → Some (key, v) ≡ slice_get ps i
    → with_missing (added_if_missing (value_in key a) key (data_of v) a) (data_pairs (drop (i + 1) ps)) ≡ with_missing a (data_pairs (drop i ps))
missing-step a [] i key v e = search rules
missing-step a (p ∷ ps) zero key v e = let q : (key, v) ≡ p = cc in ap (λ q. with_missing (added_if_missing (value_in q.0 a) q.0 (data_of q.1) a) (data_pairs ps)) q
missing-step a (p ∷ ps) (suc i) key v e = let n : suc i + 1 ≡ suc (i + 1) = omega arith in rw n (missing-step a ps i key v e)

pub copied_some : (o : Option (Bor Value)) (p : Option Value) → is_some o ≡ true → option_copied o ≡ p → IsSome p
copied_some None p h e = search (rules, h)
copied_some (Some x) None h e = search (rules, e)
copied_some (Some x) (Some v) h e = refl

pub copied_none : (o : Option (Bor Value)) (p : Option Value) → is_some o ≡ false → option_copied o ≡ p → p ≡ None
copied_none None p h e = sym e
copied_none (Some x) p h e = search (rules, h)

-- copies of a key and of a value are added
pub added : (key copy : Key) (d : Data) (v : Value) (m n : MapView Value) → copy ≡ key → data_of v ≡ d → look key (pairs_of m) ≡ None → pairs_of n ≡ put copy v (pairs_of m) → next_of n ≡ next_after copy (next_of m)
    → array_of n ≡ added_if_missing (value_in key (array_of m)) key d (array_of m)
added key copy d v m n k e none pairs next =
    added-missing key v m n none (pairs ∙ ap (λ k. put k v (pairs_of m)) k) (next ∙ ap (λ k. next_after k (next_of m)) k)
    ∙ ap (λ d. added_if_missing (value_in key (array_of m)) key d (array_of m)) e

fits_step : (b : Bool) (n : ℕ) (a : ArrayData) → nat_le n max_pairs ≡ b → (if nat_le n max_pairs then Ok (array a) else Err Size) ≡ (if b then Ok (array a) else Err Size)
fits_step b n a e = ap (λ b. if b then Ok (array a) else Err Size) e

sized-count : (m : MapView Value) → sized_array (array_of m) ≡ (if nat_le (length (pairs_of m)) max_pairs then Ok (array (array_of m)) else Err Size)
sized-count m = ap (λ n. if nat_le n max_pairs then Ok (array (array_of m)) else Err Size) (count-data (pairs_of m))

pub sized-big : (m : MapView Value) (a : ArrayData) → array_of m ≡ a → max_pairs < length (pairs_of m) → sized_array a ≡ Err Size
sized-big m a e h = ap sized_array (sym e) ∙ sized-count m ∙ fits_step false (length (pairs_of m)) (array_of m) (grind (arith, nat_tests))

pub sized-fits : (m : MapView Value) (a : ArrayData) → array_of m ≡ a → length (pairs_of m) ≤ max_pairs → sized_array a ≡ Ok (array (array_of m))
sized-fits m a e h = ap sized_array (sym e) ∙ sized-count m ∙ fits_step true (length (pairs_of m)) (array_of m) (grind (arith, nat_tests))
