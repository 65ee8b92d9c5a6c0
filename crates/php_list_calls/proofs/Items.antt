-- The data of maps whose items were changed.
use Rattle.std.proofs.Common.{rules, ◌≡◌, ◌∙◌, ℕ, zero, suc, ◌+◌, ◌≤◌, pos, Bool, true, false, List, [], ◌∷◌, ◌++◌, map, length, take, drop, Option, Some, None, option_map, is_some, Bor, refl, sym, ap, arith, if◌then◌else◌, append-nil, append_assoc, length-append}
use Rattle.std.specs.Option.{option_copied}
use Rattle.order_map.specs.declared.key.Key.{Key}
use Rattle.order_map.specs.declared.key.Key.TheVariants.{Int}
use Rattle.order_map.specs.Keys.{same_key, next_after}
use Rattle.order_map.specs.MapView.{MapView}
use Rattle.order_map.specs.Arrays.{pairs_of, next_of, look, put}
use Rattle.php_values.specs.declared.value.Value.{Value}
use Rattle.php_values.specs.Data.{Data, ArrayData, of_pairs, array_pairs, Pairs, no_pairs, pair, data_of, data_pairs, array_of, count_of}
use Rattle.php_values.specs.Compare.{value_of}
use Rattle.php_values.specs.Arithmetic.{put_last}
use Rattle.php_values.proofs.Datas.{data_pairs-push, count-data, look-data}
use Rattle.php_arguments.specs.Results.{numbered, array_list}
use Rattle.php_list_calls.specs.Items.{Item, pair_items, items, items_of, set_pair, with_set, with_next, with_values, empty}

-- ---- items

pub items-data : (ps : List (Key × Value)) → pair_items (data_pairs ps) ≡ items_of ps
items-data [] = refl
items-data (p ∷ ps) = ap (λ es. (p.0, data_of p.1) ∷ es) (items-data ps)

pub length-items : (ps : List (Key × Value)) → length (items_of ps) ≡ length ps
length-items [] = refl
length-items (p ∷ ps) = ap suc (length-items ps)

pub count-items : (m : MapView Value) (n : ℕ) → n ≡ length (pairs_of m) → n ≡ count_of (array_pairs (array_of m))
count-items m n e = e ∙ sym (count-data (pairs_of m))

-- what a walk over a map has
pub walked : (m : MapView Value) (ps : List (Key × Value)) → ps ≡ pairs_of m → items_of ps ≡ items (array_of m)
walked m ps e = ap items_of e ∙ sym (items-data (pairs_of m))

pub new-data : (m : MapView Value) → pairs_of m ≡ [] → next_of m ≡ 0 → array_of m ≡ empty
new-data m p n = λ i. of_pairs (data_pairs (p i)) (n i)

-- ---- a key that is sought

copied_there : (o : Option (Bor Value)) (p : Option Value) (q : Option Data) → option_copied o ≡ p → option_map data_of p ≡ q → is_some o ≡ is_some q
copied_there None None q e f = ap is_some f
copied_there None (Some v) q e f = absurd (cc)
copied_there (Some b) None q e f = absurd (cc)
copied_there (Some b) (Some v) q e f = ap is_some f

pub key-there : (key : Key) (m : MapView Value) (o : Option (Bor Value)) → option_copied o ≡ look key (pairs_of m) → is_some o ≡ is_some (value_of key (array_pairs (array_of m)))
key-there key m o e = copied_there o (look key (pairs_of m)) _ e (look-data key (pairs_of m))

-- ---- items that are set

put_by : (b : Bool) (key k : Key) (x v : Value) (ps : List (Key × Value)) → data_pairs (put key v ps) ≡ set_pair key (data_of v) (data_pairs ps)
    → data_pairs (if b then (k, v) ∷ ps else (k, x) ∷ put key v ps) ≡ (if b then pair k (data_of v) (data_pairs ps) else pair k (data_of x) (set_pair key (data_of v) (data_pairs ps)))
put_by true key k x v ps e = refl
put_by false key k x v ps e = ap (pair k (data_of x)) e

put-data : (key : Key) (v : Value) (ps : List (Key × Value)) → data_pairs (put key v ps) ≡ set_pair key (data_of v) (data_pairs ps)
put-data key v [] = refl
put-data key v (p ∷ ps) = put_by (same_key p.0 key) key p.0 p.1 v ps (put-data key v ps)

pub set-data : (key : Key) (v : Value) (m n : MapView Value) → pairs_of n ≡ put key v (pairs_of m) → next_of n ≡ next_after key (next_of m) → array_of n ≡ with_set key (data_of v) (array_of m)
set-data key v m n p q = let e = ap data_pairs p ∙ put-data key v (pairs_of m) in (λ i. of_pairs (e i) (q i))

pub next-data : (v : Value) (m n : MapView Value) → pairs_of n ≡ pairs_of m ++ (Int (pos (next_of m)), v) ∷ [] → next_of n ≡ next_of m + 1 → array_of n ≡ with_next (data_of v) (array_of m)
next-data v m n p q = let e = ap data_pairs p ∙ data_pairs-push (pairs_of m) (Int (pos (next_of m))) v in (λ i. of_pairs (e i) (q i))

-- ---- lists of values

last-numbered : (n k : ℕ) (d : Data) (ds : List Data) → k ≡ n + length ds → put_last (Int (pos k)) d (numbered n ds) ≡ numbered n (ds ++ d ∷ [])
last-numbered n k d [] e = let z : k ≡ n = omega (arith, e) in ap (λ k. pair (Int (pos k)) d no_pairs) z
last-numbered n k d (c ∷ ds) e = ap (pair (Int (pos n)) c) (last-numbered (n + 1) k d ds (omega (arith, e)))

next-list : (ds : List Data) (d : Data) → with_next d (array_list ds) ≡ array_list (ds ++ d ∷ [])
next-list ds d =
    let e = last-numbered 0 (length ds) d ds (omega arith) in
    let n : length ds + 1 ≡ length (ds ++ d ∷ []) = sym (length-append ds (d ∷ [])) in
    (λ i. of_pairs (e i) (n i))

-- values under the next keys of a list
pub values-list : (ds es : List Data) → with_values (array_list ds) es ≡ array_list (ds ++ es)
values-list ds [] = ap array_list (sym (append-nil ds))
values-list ds (d ∷ es) = ap (λ a. with_values a es) (next-list ds d) ∙ values-list (ds ++ d ∷ []) es ∙ ap array_list (append_assoc ds (d ∷ []) es)
