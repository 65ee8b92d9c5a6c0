-- One step of a write, over plain values.
use Rattle.std.proofs.Common.{rules, ◌≡◌, ℕ, pos, ◌+◌, max, Bool, true, false, List, [], ◌∷◌, ◌++◌, refl, sym, ap, ◌∙◌, Option, Some, None, option_map, is_some, unwrap_or, arith, if◌then◌else◌, ◌==◌, eqb-true}
use Rattle.order_map.specs.declared.key.Key.{Key}
use Rattle.order_map.specs.declared.key.Key.TheVariants.{Int}
use Rattle.order_map.specs.MapView.{MapView}
use Rattle.order_map.specs.Keys.{same_key, next_after, spent}
use Rattle.order_map.specs.Arrays.{pairs_of, next_of, look, put}
use Rattle.php_values.specs.declared.value.Value.{Value, fold-roll-Value}
use Rattle.php_values.specs.declared.value.Value.TheOpen.{Value-F}
use Rattle.php_values.specs.declared.value.ArrayValue.{ArrayValue}
use Rattle.php_values.specs.declared.value.Value.TheVariants as kind
use Rattle.php_values.specs.Data.{Data, null, array, ArrayData, of_pairs, Pairs, no_pairs, pair, data_of, array_of, data_pairs, data_step, array_step}
use Rattle.php_values.specs.Compare.{value_of}
use Rattle.php_values.specs.Arithmetic.{value_in, added_pair}
use Rattle.php_values.proofs.Datas.{data-List, look-data, data_pairs-push}
use Rattle.parameters.specs.declared.step.Step.{Step}
use Rattle.parameters.specs.Nested.{put_pair, put_in, or_null, array_in, stepped, written, set_over}

put_step : (b : Bool) (key k : Key) (x v : Value) (ps : List (Key × Value)) → data_pairs (put key v ps) ≡ put_pair key (data_of v) (data_pairs ps)
    → data_pairs (if b then (k, v) ∷ ps else (k, x) ∷ put key v ps) ≡ (if b then pair k (data_of v) (data_pairs ps) else pair k (data_of x) (put_pair key (data_of v) (data_pairs ps)))
put_step true key k x v ps ih = refl
put_step false key k x v ps ih = ap (pair k (data_of x)) ih

pub data-put : (key : Key) (v : Value) (ps : List (Key × Value)) → data_pairs (put key v ps) ≡ put_pair key (data_of v) (data_pairs ps)
data-put key v [] = refl
data-put key v (p ∷ ps) = put_step (same_key p.0 key) key p.0 p.1 v ps (data-put key v ps)

-- a pair was set
pub was_put : (key : Key) (v : Value) (m n : MapView Value) → pairs_of n ≡ put key v (pairs_of m) → next_of n ≡ next_after key (next_of m) → array_of n ≡ put_in key (data_of v) (array_of m)
was_put key v m n pairs next = let e = ap data_pairs pairs ∙ data-put key v (pairs_of m) in (λ i. of_pairs (e i) (next i))

found_step : (b : Bool) (key k : Key) (d e x v : Data) (ps : Pairs) → same_key k key ≡ b → (if b then Some x else value_of key ps) ≡ Some v → (value_of key ps ≡ Some v → put_pair key e (put_pair key d ps) ≡ put_pair key e ps)
    → put_pair key e (if b then pair k d ps else pair k x (put_pair key d ps)) ≡ (if b then pair k e ps else pair k x (put_pair key e ps))
found_step true key k d e x v ps is h ih = ap (λ b. if b then pair k e ps else pair k d (put_pair key e ps)) is
found_step false key k d e x v ps is h ih =
    ap (λ b. if b then pair k e (put_pair key d ps) else pair k x (put_pair key e (put_pair key d ps))) is ∙ ap (pair k x) (ih h)

-- a value that is set over another one of the same key
found_twice : (key : Key) (d e v : Data) (ps : Pairs) → value_of key ps ≡ Some v → put_pair key e (put_pair key d ps) ≡ put_pair key e ps
found_twice key d e v no_pairs h = search (rules, h)
found_twice key d e v (pair k x ps) h = found_step (same_key k key) key k d e x v ps refl h (found_twice key d e v ps)

over_null : (o : Option Value) (key : Key) (d : Data) (m n : MapView Value) → o ≡ look key (pairs_of m) → pairs_of n ≡ (if is_some o then put key kind.Null (pairs_of m) else pairs_of m) → next_of n ≡ next_of m
    → put_in key d (array_of n) ≡ put_in key d (array_of m)
over_null None key d m n found pairs next = (λ i. put_in key d (of_pairs (data_pairs (pairs i)) (next i)))
over_null (Some u) key d m n found pairs next =
    let there = sym (look-data key (pairs_of m)) ∙ ap (option_map data_of) (sym found) in
    let e = ap data_pairs pairs ∙ data-put key kind.Null (pairs_of m) in
    (λ i. put_in key d (of_pairs (e i) (next i))) ∙ ap (λ ps. of_pairs ps (next_after key (next_of m))) (found_twice key (data_of kind.Null) d (data_of u) (data_pairs (pairs_of m)) there)

data-Null : data_of kind.Null ≡ null
data-Null = ap data_of (sym kind.rolls-Null) ∙ fold-roll-Value Data ArrayData data_step array_step Value-F.Null

old_data : (o : Option Value) → data_of (unwrap_or o kind.Null) ≡ or_null (option_map data_of o)
old_data None = data-Null
old_data (Some v) = refl

-- the value that stood at a key, or null
pub old_is : (o : Option Value) (key : Key) (old : Value) (m : MapView Value) → o ≡ look key (pairs_of m) → old ≡ unwrap_or o kind.Null → data_of old ≡ or_null (value_in key (array_of m))
old_is o key old m found is = ap data_of is ∙ old_data o ∙ ap or_null (ap (option_map data_of) found ∙ look-data key (pairs_of m))

-- a value was taken out at a key, changed and put back
pub put_back : (o : Option Value) (key copy : Key) (new : Value) (within : Data → Data) (old : Value) (m n p : MapView Value) → o ≡ look key (pairs_of m) → pairs_of n ≡ (if is_some o then put key kind.Null (pairs_of m) else pairs_of m) → next_of n ≡ next_of m
    → old ≡ unwrap_or o kind.Null → data_of new ≡ within (data_of old) → copy ≡ key → array_of p ≡ put_in copy (data_of new) (array_of n)
    → array_of p ≡ put_in key (within (or_null (value_in key (array_of m)))) (array_of m)
put_back o key copy new within old m n p found pairs next was is same put =
    put ∙ ap (λ k. put_in k (data_of new) (array_of n)) same ∙ over_null o key (data_of new) m n found pairs next
    ∙ ap (λ d. put_in key d (array_of m)) (is ∙ ap within (old_is o key old m found was))

-- a value was added under the next key
pub was_added : (v : Value) (m n : MapView Value) → pairs_of n ≡ pairs_of m ++ (Int (pos (next_of m)), v) ∷ [] → next_of n ≡ next_of m + 1 → array_of n ≡ added_pair (Int (pos (next_of m))) (data_of v) (array_of m)
was_added v m n pairs next =
    let e = ap data_pairs pairs ∙ data_pairs-push (pairs_of m) (Int (pos (next_of m))) v in
    let f : next_of n ≡ max (next_of m) (next_of m + 1) = grind (arith, next) in
    (λ i. of_pairs (e i) (f i))

pub array-List : (v : Value) (a : ArrayValue) → kind.List a ≡ v → array_of a.map.value ≡ array_in (data_of v)
array-List v a is = ap array_in (sym (data-List a)) ∙ ap (λ v. array_in (data_of v)) is

pub data-null : data_of kind.Null ≡ null
data-null = data-Null

free_step : (b : Bool) (x y : ℕ) (a c d : ArrayData) → (x == y) ≡ b → (x ≡ y → ⊥) → c ≡ d → c ≡ (if b then a else d)
free_step true x y a c d is free e = absurd (free (eqb-true x y is))
free_step false x y a c d is free e = e

-- the same as a step of a write, where the next key was not spent
pub next_written : (v : Value) (d : Data) (m n : MapView Value) → (next_of m ≡ spent → ⊥) → pairs_of n ≡ pairs_of m ++ (Int (pos (next_of m)), v) ∷ [] → next_of n ≡ next_of m + 1 → data_of v ≡ d
    → array_of n ≡ (if next_of m == spent then array_of m else added_pair (Int (pos (next_of m))) d (array_of m))
next_written v d m n free pairs next is =
    free_step (next_of m == spent) (next_of m) spent (array_of m) (array_of n) (added_pair (Int (pos (next_of m))) d (array_of m)) refl free
    (was_added v m n pairs next ∙ ap (λ d. added_pair (Int (pos (next_of m))) d (array_of m)) is)

-- an array was written into
pub list_made : (value old : Data) (s : Step) (path more : List Step) (a b : ArrayValue) → path ≡ s ∷ more → array_of a.map.value ≡ array_in old → array_of b.map.value ≡ stepped s (written value more) (array_of a.map.value)
    → data_of (kind.List b) ≡ written value path old
list_made value old s path more a b cut was is =
    data-List b ∙ ap array (is ∙ ap (stepped s (written value more)) was) ∙ sym (ap (λ p. written value p old) cut)

pub set_more : (key copy : Key) (v : Value) (d : Data) (ps rest : List (Key × Value)) (a b : ArrayData) → ps ≡ (key, v) ∷ rest → copy ≡ key → d ≡ data_of v → b ≡ put_in copy d a
    → set_over (data_pairs rest) b ≡ set_over (data_pairs ps) a
set_more key copy v d ps rest a b cut same is put =
    ap (set_over (data_pairs rest)) (put ∙ (λ i. put_in (same i) (is i) a)) ∙ sym (ap (λ ps. set_over (data_pairs ps) a) cut)
