-- Steps of the loops that walk over items.
use Rattle.std.proofs.Common.{rules, ◌≡◌, ◌∙◌, ℕ, zero, suc, ◌+◌, ◌-◌, ◌≤◌, max, Bool, true, false, List, [], ◌∷◌, ◌++◌, map, length, take, drop, reverse, Option, Some, None, Bor, refl, sym, ap, arith, if◌then◌else◌, Ok, Err, ℤ, length-drop, ◌<◌, nat_lt}
use Rattle.std.proofs.lemmas.List.{reverse-append, take_all}
use Rattle.std.specs.List.{drop-map}
use Rattle.std.proofs.lemmas.Bool.Decides.{nat_tests}
use Rattle.php_values.specs.Arithmetic.{max_pairs}
use Rattle.php_arguments.specs.declared.fault.CallFault.TheVariants.{Size}
use Rattle.php_list_calls.specs.Ends.{shifted, unshifted}
use Rattle.order_map.specs.declared.key.Key.{Key}
use Rattle.order_map.specs.MapView.{MapView}
use Rattle.order_map.specs.Arrays.{pairs_of, next_of}
use Rattle.php_values.specs.declared.value.Value.{Value}
use Rattle.php_values.specs.Data.{Data, int, ArrayData, of_pairs, data_of, data_pairs, array_of}
use Rattle.php_list_calls.specs.declared.numbers.Direction.{Direction}
use Rattle.php_list_calls.specs.Numbers.{run, away}
use Rattle.php_arguments.specs.declared.fault.CallFault.{CallFault}
use Rattle.php_arguments.specs.Answers.{CallAnswer, go_on}
use Rattle.php_arguments.specs.Results.{array_list}
use Rattle.php_list_calls.specs.declared.pairs.Pair.{Pair}
use Rattle.php_list_calls.specs.Pairs.{lent_items, lent_item}
use Rattle.php_list_calls.specs.Items.{Item, items, items_of, with_next, with_values, with_item, with_items, with_set, with_all, with_next_key, empty, renumbered}
use Rattle.php_list_calls.specs.Looking.{key_where, slice, counted_slice, slice_start, slice_count}
use Rattle.php_list_calls.proofs.Items.{walked, new-data, values-list, length-items}

-- ---- values that are listed

module _ (f : Item → Data) where
  pub list-begins : (m n : MapView Value) (ps : List (Key × Value)) → pairs_of m ≡ [] → next_of m ≡ 0 → ps ≡ pairs_of n → with_values (array_of m) (map f (items_of ps)) ≡ array_list (map f (items (array_of n)))
  list-begins m n ps p q e = (λ i. with_values (new-data m p q i) (map f (walked n ps e i))) ∙ values-list [] (map f (items (array_of n)))

-- ---- items whose number keys are counted anew

pub items-go-on : (a b : ArrayData) (n m : ℕ) (k : Key) (v : Value) (old new : List (Key × Value)) → old ≡ (k, v) ∷ new → n ≡ suc m → b ≡ with_item k (data_of v) a
    → with_items b (take m (items_of new)) ≡ with_items a (take n (items_of old))
items-go-on a b n m k v old new e c g = ap (λ b. with_items b (take m (items_of new))) g ∙ (λ i. with_items a (take (sym c i) (items_of (sym e i))))

-- all items of a walk
pub items-whole : (a : ArrayData) (m : MapView Value) (n : ℕ) (ps : List (Key × Value)) → ps ≡ pairs_of m → n ≡ length (pairs_of m) → with_items a (take n (items_of ps)) ≡ with_items a (items (array_of m))
items-whole a m n ps e c =
    let few : length (items_of ps) ≤ n = omega (arith, length-items ps, ap length e, c) in
    ap (with_items a) (take_all n (items_of ps) few ∙ walked m ps e)

-- ---- a walk that passes over items

pub passes : {A : Type 0} (n m : ℕ) (x : A) (old new : List A) → old ≡ x ∷ new → n ≡ suc m → drop m new ≡ drop n old
passes n m x old new e c = λ i. drop (sym c i) (sym e i)

-- an array without its first item
pub shifted-all : (b : ArrayData) (m n : MapView Value) (len : ℕ) (w ps : List (Key × Value)) → pairs_of n ≡ [] → next_of n ≡ 0 → ps ≡ pairs_of m → w ≡ drop 1 ps → len ≡ length (pairs_of m)
    → b ≡ with_items (array_of n) (take len (items_of w)) → b ≡ shifted (array_of m)
shifted-all b m n len w ps p q e f c h =
    let rest : items_of w ≡ drop 1 (items (array_of m)) = ap items_of f ∙ sym (drop-map _ 1 ps) ∙ ap (drop 1) (walked m ps e) in
    let few : length (items_of w) ≤ len = omega (arith, length-items w, ap length f, length-drop 1 ps, ap length e, c) in
    h ∙ (λ i. with_items (new-data n p q i) (take_all len (items_of w) few i)) ∙ ap (with_items empty) rest

-- a value before the items of an array
unshift_by : (b : Bool) (d : Data) (a : ArrayData) → nat_lt max_pairs (length (items a) + 1) ≡ b → unshifted d a ≡ (if b then Err Size else Ok (with_items (with_next d empty) (items a)))
unshift_by b d a e = ap (λ b. if b then Err Size else Ok (with_items (with_next d empty) (items a))) e

count-walked : (m : MapView Value) (n : ℕ) → n ≡ length (pairs_of m) → length (items (array_of m)) ≡ n
count-walked m n e = ap length (sym (walked m (pairs_of m) refl)) ∙ length-items (pairs_of m) ∙ sym e

pub unshift_big : (d : Data) (m : MapView Value) (n : ℕ) → n ≡ length (pairs_of m) → max_pairs ≤ n → unshifted d (array_of m) ≡ Err Size
unshift_big d m n e h = let c = count-walked m n e in unshift_by true d (array_of m) (grind (arith, nat_tests))

pub unshift_fits : (d : Data) (m n0 : MapView Value) (n : ℕ) (v : Value) (b c : ArrayData) → n ≡ length (pairs_of m) → n < max_pairs → pairs_of n0 ≡ [] → next_of n0 ≡ 0 → data_of v ≡ d
    → b ≡ with_next (data_of v) (array_of n0) → c ≡ with_items b (items (array_of m)) → unshifted d (array_of m) ≡ Ok c
unshift_fits d m n0 n v b c e h p q f g k =
    let len = count-walked m n e in
    unshift_by false d (array_of m) (grind (arith, nat_tests))
    ∙ ap Ok (sym (k ∙ ap (λ b. with_items b (items (array_of m))) (g ∙ (λ i. with_next (f i) (new-data n0 p q i)))))

-- ---- a slice

pub sliced : (a b : ArrayData) (m : MapView Value) (start count : ℕ) (i : ℤ) (c : Option ℤ) (ps : List (Key × Value)) → a ≡ empty
    → start ≡ slice_start (length (pairs_of m)) i → count ≡ slice_count (length (pairs_of m) - start) c → ps ≡ drop start (pairs_of m) → b ≡ with_items a (take count (items_of ps))
    → b ≡ renumbered (slice (items (array_of m)) i c)
sliced a b m start count i c ps e s t w h =
    let es = items_of (pairs_of m) in
    let len : length es ≡ length (pairs_of m) = length-items (pairs_of m) in
    let same : items (array_of m) ≡ es = sym (walked m (pairs_of m) refl) in
    let rest : items_of ps ≡ drop start es = ap items_of w ∙ sym (drop-map _ start (pairs_of m)) in
    let left : length (items_of ps) ≡ length (pairs_of m) - start = length-items ps ∙ ap length w ∙ length-drop start (pairs_of m) in
    let first : start ≡ slice_start (length es) i = s ∙ ap (λ n. slice_start n i) (sym len) in
    let many : count ≡ slice_count (length (drop start es)) c = t ∙ ap (λ n. slice_count n c) (sym left ∙ ap length rest) in
    h ∙ ap (λ a. with_items a (take count (items_of ps))) e
    ∙ (λ j. renumbered (take (many j) (rest j)))
    ∙ ap (λ s. renumbered (counted_slice (drop s es) c)) first
    ∙ ap (λ es. renumbered (slice es i c)) (sym same)

-- ---- runs of numbers

pub run-begins : (m : MapView Value) (way : Direction) (n : ℤ) (count : ℕ) → pairs_of m ≡ [] → next_of m ≡ 0 → with_values (array_of m) (run way n 0 (count - 0)) ≡ array_list (run way n 0 count)
run-begins m way n count p q =
    let z : count - 0 ≡ count = omega arith in
    (λ i. with_values (new-data m p q i) (run way n 0 (z i))) ∙ values-list [] (run way n 0 count)

pub run-goes-on : (a b : ArrayData) (way : Direction) (m : ℤ) (k n p : ℕ) → n ≡ suc p → b ≡ with_next (int (away way m k)) a → with_values b (run way m (k + 1) p) ≡ with_values a (run way m k n)
run-goes-on a b way m k n p c h = ap (λ b. with_values b (run way m (k + 1) p)) h ∙ ap (λ n. with_values a (run way m k n)) (sym c)

-- ---- a next key that is raised

-- ---- lists

pub listing-begins : (m : MapView Value) (ds : List Data) → pairs_of m ≡ [] → next_of m ≡ 0 → with_values (array_of m) ds ≡ array_list ds
listing-begins m ds p q = ap (λ a. with_values a ds) (new-data m p q) ∙ values-list [] ds
