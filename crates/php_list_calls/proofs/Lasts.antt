-- Arrays that lose or get values at their ends.
use Rattle.std.proofs.Common.{rules, ◌≡◌, ◌∙◌, ℕ, zero, suc, ◌+◌, ◌-◌, ◌<◌, ◌≤◌, ℤ, pos, negsuc, Bool, true, false, not, ◌&&◌, ◌||◌, IsTrue, List, [], ◌∷◌, ◌++◌, map, length, Option, Some, None, refl, sym, ap, subst, arith, nat_lt, nat_eq, if◌then◌else◌}
use Rattle.std.proofs.lemmas.Bool.Decides.{nat_tests}
use Rattle.order_map.specs.declared.key.Key.{Key}
use Rattle.order_map.specs.declared.key.Key.TheVariants.{Int, Text}
use Rattle.order_map.specs.Keys.{same_key, has_key, all_distinct, is_below, all_below, spent}
use Rattle.order_map.specs.MapView.{MapView}
use Rattle.order_map.specs.Arrays.{pairs_of, next_of, keys_of, IsArray}
use Rattle.php_values.specs.declared.value.Value.{Value}
use Rattle.php_values.specs.Data.{Data, ArrayData, of_pairs, array_pairs, array_next, Pairs, no_pairs, pair, data_of, data_pairs, array_of, count_of}
use Rattle.php_values.specs.Arithmetic.{max_pairs}
use Rattle.php_arguments.specs.declared.fault.CallFault.{CallFault}
use Rattle.php_arguments.specs.declared.fault.CallFault.TheVariants.{Size, Keys}
use Rattle.php_list_calls.specs.Items.{Item}
use Rattle.php_list_calls.specs.Ends.{lack, last_or, value_or_null, last_value, but_last, popped_pairs, popped, next_without, next_after_pop}

-- ---- what an array lacks

lack_by : (b c : Bool) (ps : Pairs) (next n : ℕ) → nat_lt max_pairs (count_of ps + n) ≡ b → nat_lt spent (next + n) ≡ c → lack (of_pairs ps next) n ≡ (if b then Some Size else (if c then Some Keys else None))
lack_by b c ps next n e f = λ i. if e i then Some Size else (if f i then Some Keys else None)

pub lack_size : (a : ArrayData) (n : ℕ) → max_pairs < count_of (array_pairs a) + n → lack a n ≡ Some Size
lack_size (of_pairs ps next) n h = lack_by true (nat_lt spent (next + n)) ps next n (grind (arith, nat_tests)) refl

pub lack_keys : (a : ArrayData) (n : ℕ) → count_of (array_pairs a) + n ≤ max_pairs → spent < array_next a + n → lack a n ≡ Some Keys
lack_keys (of_pairs ps next) n h k = lack_by false true ps next n (grind (arith, nat_tests)) (grind (arith, nat_tests))

pub lack_none : (a : ArrayData) (n : ℕ) → count_of (array_pairs a) + n ≤ max_pairs → array_next a + n ≤ spent → lack a n ≡ None
lack_none (of_pairs ps next) n h k = lack_by false false ps next n (grind (arith, nat_tests)) (grind (arith, nat_tests))

-- ---- the last key

and_both : (b c : Bool) → IsTrue (b && c) → IsTrue b × IsTrue c
and_both true c h = (search rules, h)
and_both false c h = search (rules, h)

and_true : (b c : Bool) → IsTrue b → IsTrue c → IsTrue (b && c)
and_true true c h k = k
and_true false c h k = search (rules, h)

not_true : (b : Bool) → IsTrue (not b) → b ≡ false
not_true true h = search (rules, h)
not_true false h = refl

or_false : (b c : Bool) → (b || c) ≡ false → (b ≡ false) × (c ≡ false)
or_false true c e = search (rules, e)
or_false false c e = (refl, e)

last_apart : (k key : Key) (ks : List Key) → has_key k (ks ++ key ∷ []) ≡ false → same_key key k ≡ false
last_apart k key [] e = (or_false (same_key key k) false e).0
last_apart k key (c ∷ ks) e = last_apart k key ks (or_false (same_key c k) (has_key k (ks ++ key ∷ [])) e).1

below_one : (n : ℕ) (k : Key) → IsTrue (is_below (n + 1) k) → same_key (Int (pos n)) k ≡ false → IsTrue (is_below n k)
below_one n (Int (pos m)) h e = grind (arith, nat_tests)
below_one n (Int (negsuc m)) h e = search rules
below_one n (Text t) h e = search rules

-- the other keys are below the last one, where that was the one before the next
pub below-last : (n : ℕ) (ks : List Key) → IsTrue (all_distinct (ks ++ Int (pos n) ∷ [])) → IsTrue (all_below (n + 1) (ks ++ Int (pos n) ∷ [])) → IsTrue (all_below n ks)
below-last n [] d b = search rules
below-last n (k ∷ ks) d b =
    let e = and_both (not (has_key k (ks ++ Int (pos n) ∷ []))) (all_distinct (ks ++ Int (pos n) ∷ [])) d in
    let f = and_both (is_below (n + 1) k) (all_below (n + 1) (ks ++ Int (pos n) ∷ [])) b in
    and_true (is_below n k) (all_below n ks) (below_one n k f.0 (last_apart k (Int (pos n)) ks (not_true (has_key k (ks ++ Int (pos n) ∷ [])) e.0))) (below-last n ks e.1 f.1)

-- ---- the last pair

last-push : (o : Option Item) (ps : List (Key × Value)) (k : Key) (v : Value) → last_or o (data_pairs (ps ++ (k, v) ∷ [])) ≡ Some (k, data_of v)
last-push o [] k v = refl
last-push o (p ∷ ps) k v = last-push (Some (p.0, data_of p.1)) ps k v

but_last-push : (l : Key) (d : Data) (ps : List (Key × Value)) (k : Key) (v : Value) → but_last l d (data_pairs (ps ++ (k, v) ∷ [])) ≡ pair l d (data_pairs ps)
but_last-push l d [] k v = refl
but_last-push l d (p ∷ ps) k v = ap (pair l d) (but_last-push p.0 (data_of p.1) ps k v)

popped-push : (ps : List (Key × Value)) (k : Key) (v : Value) → popped_pairs (data_pairs (ps ++ (k, v) ∷ [])) ≡ data_pairs ps
popped-push [] k v = refl
popped-push (p ∷ ps) k v = but_last-push p.0 (data_of p.1) ps k v

pub popped-last : (m n : MapView Value) (k : Key) (v : Value) → pairs_of m ≡ pairs_of n ++ (k, v) ∷ [] → next_of n ≡ next_without k (next_of m) → array_of n ≡ popped (array_of m)
popped-last m n k v e f =
    let ps = ap data_pairs e in
    let rest : popped_pairs (data_pairs (pairs_of m)) ≡ data_pairs (pairs_of n) = ap popped_pairs ps ∙ popped-push (pairs_of n) k v in
    let last : last_or None (data_pairs (pairs_of m)) ≡ Some (k, data_of v) = ap (last_or None) ps ∙ last-push None (pairs_of n) k v in
    let next : next_after_pop (last_or None (data_pairs (pairs_of m))) (next_of m) ≡ next_of n = ap (λ o. next_after_pop o (next_of m)) last ∙ sym f in
    sym (λ i. of_pairs (rest i) (next i))

pub value-last : (m : MapView Value) (ps : List (Key × Value)) (k : Key) (v : Value) → pairs_of m ≡ ps ++ (k, v) ∷ [] → data_of v ≡ last_value (array_pairs (array_of m))
value-last m ps k v e = sym (ap value_or_null (ap (last_or None) (ap data_pairs e) ∙ last-push None ps k v))

pub lowered-below : (n : ℤ) (k : Key) (next : ℕ) (ks : List Key) → k ≡ Int n → n ≡ pos (next - 1) → 0 < next → IsTrue (all_distinct (ks ++ k ∷ [])) → IsTrue (all_below next (ks ++ k ∷ [])) → IsTrue (all_below (next - 1) ks)
lowered-below n k next ks e f h d b =
    let key : k ≡ Int (pos (next - 1)) = e ∙ ap Int f in
    let s : next ≡ next - 1 + 1 = omega (arith, h) in
    below-last (next - 1) ks (subst (λ k. IsTrue (all_distinct (ks ++ k ∷ []))) key d)
    (subst (λ k. IsTrue (all_below (next - 1 + 1) (ks ++ k ∷ []))) key (subst (λ n. IsTrue (all_below n (ks ++ k ∷ []))) s b))
