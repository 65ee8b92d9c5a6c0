-- One level of a write, over plain values.
use Rattle.std.proofs.Common.{rules, ◌≡◌, pos, suc, ◌+◌, ◌≤◌, max, Bool, true, false, not, ◌==◌, nat_lt, if◌then◌else◌, List, [], ◌∷◌, ◌++◌, length, refl, sym, subst, ap, ◌∙◌, Option, Some, None, option_map, is_some, Ok, Err, arith, take, drop, slice_index_or, ◌-◌}
use Rattle.std.specs.declared.result.Result.{Result}
use Rattle.order_map.specs.declared.key.Key.{Key}
use Rattle.order_map.specs.declared.key.Key.TheVariants.{Int}
use Rattle.order_map.specs.MapView.{MapView}
use Rattle.order_map.specs.Keys.{same_key, next_after}
use Rattle.order_map.specs.Arrays.{pairs_of, next_of, look, put, without}
use Rattle.php_values.specs.declared.value.Value.{Value}
use Rattle.php_values.specs.declared.value.ArrayValue.{ArrayValue}
use Rattle.php_values.specs.declared.value.Value.TheVariants as kind
use Rattle.php_values.specs.Data.{Data, null, array, ArrayData, Pairs, no_pairs, pair, of_pairs, data_of, array_of, data_pairs, array_next}
use Rattle.php_values.specs.Compare.{value_of}
use Rattle.php_values.proofs.Datas.{data-List, look-data, data_pairs-push, put-missing, count-data}
use Rattle.php_world.specs.declared.fault.PlaceFault.{PlaceFault}
use Rattle.php_world.specs.declared.fault.PlaceFault.TheVariants.{Size, Keys}
use Rattle.php_world.specs.Answers.{Answer, and_then, when_ok, Makes, IsRefused}
use Rattle.php_world.specs.Steps.{Step}
use Rattle.php_world.specs.declared.step.Step as step
use Rattle.php_world.specs.declared.step.Step.TheVariants as stepped
use Rattle.php_world.specs.View.{step_of, path_of}
use Rattle.php_world.specs.Places.{set_at, with_item, with_new, is_full, is_spent, is_blank, array_in, opened, no_array, write_key, write_next, write_index, write_item, change_item, change_missing, change_found, without_at, unset_within, unset_key, unset_item, unset_index, unset_step, unset_at}

-- what is made further in is made of the whole
pub makes_in : {A B C : Type 0} (r : Result C PlaceFault) (expected : Answer A) (f : A → B) (d e : A) (a b : B) → b ≡ f e → f d ≡ a → Makes expected d e r → Makes (when_ok f expected) a b r
makes_in (Ok c) expected f d e a b out back h = ap (when_ok f) h ∙ ap Ok (sym out)
makes_in (Err fault) expected f d e a b out back h = λ n. record { fault_is = ap (when_ok f) (h n).fault_is; unchanged = out ∙ ap f (h n).unchanged ∙ back }

pub makes_of : {A C : Type 0} (r : Result C PlaceFault) (x y : Answer A) (a b : A) → y ≡ x → Makes x a b r → Makes y a b r
makes_of r x y a b e h = subst (λ y. Makes y a b r) (sym e) h

-- ---- pairs

set_step : (b : Bool) (key k : Key) (u x v : Value) (ps : List (Key × Value)) → (if b then Some x else look key ps) ≡ Some u → (look key ps ≡ Some u → data_pairs (put key v ps) ≡ set_at key (data_of v) (data_pairs ps))
    → data_pairs (if b then (k, v) ∷ ps else (k, x) ∷ put key v ps) ≡ (if b then pair k (data_of v) (data_pairs ps) else pair k (data_of x) (set_at key (data_of v) (data_pairs ps)))
set_step true key k u x v ps e ih = refl
set_step false key k u x v ps e ih = ap (pair k (data_of x)) (ih e)

-- the value of a key that is there is put
pub data-set : (key : Key) (u v : Value) (ps : List (Key × Value)) → look key ps ≡ Some u → data_pairs (put key v ps) ≡ set_at key (data_of v) (data_pairs ps)
data-set key u v [] e = search (rules, e)
data-set key u v (p ∷ ps) e = set_step (same_key p.0 key) key p.0 u p.1 v ps e (data-set key u v ps)

twice_step : (b : Bool) (key k : Key) (d e x : Data) (ps : Pairs) → same_key k key ≡ b → set_at key e (set_at key d ps) ≡ set_at key e ps
    → set_at key e (if b then pair k d ps else pair k x (set_at key d ps)) ≡ (if b then pair k e ps else pair k x (set_at key e ps))
twice_step true key k d e x ps is ih = ap (λ b. if b then pair k e ps else pair k d (set_at key e ps)) is
twice_step false key k d e x ps is ih = ap (λ b. if b then pair k e (set_at key d ps) else pair k x (set_at key e (set_at key d ps))) is ∙ ap (pair k x) ih

pub set-twice : (key : Key) (d e : Data) (ps : Pairs) → set_at key e (set_at key d ps) ≡ set_at key e ps
set-twice key d e no_pairs = refl
set-twice key d e (pair k x ps) = twice_step (same_key k key) key k d e x ps refl (set-twice key d e ps)

same_step : (b : Bool) (key k : Key) (x : Data) (v : Value) (ps : List (Key × Value)) (y : Value) → data_of y ≡ x → (if b then Some y else look key ps) ≡ Some v → (look key ps ≡ Some v → set_at key (data_of v) (data_pairs ps) ≡ data_pairs ps)
    → (if b then pair k (data_of v) (data_pairs ps) else pair k x (set_at key (data_of v) (data_pairs ps))) ≡ pair k x (data_pairs ps)
same_step true key k x v ps y is e ih = let f : v ≡ y = grind (arith, e) in ap (λ d. pair k d (data_pairs ps)) (ap data_of f ∙ is)
same_step false key k x v ps y is e ih = ap (pair k x) (ih e)

-- a value that is there, put again
pub set-same : (key : Key) (v : Value) (ps : List (Key × Value)) → look key ps ≡ Some v → set_at key (data_of v) (data_pairs ps) ≡ data_pairs ps
set-same key v [] e = refl
set-same key v (p ∷ ps) e = same_step (same_key p.0 key) key p.0 (data_of p.1) v ps p.1 refl e (set-same key v ps)

look_step : (b : Bool) (key k : Key) (u x v : Value) (ps : List (Key × Value)) → same_key k key ≡ b → (if b then Some x else look key ps) ≡ Some u → (look key ps ≡ Some u → look key (put key v ps) ≡ Some v)
    → look key (if b then (k, v) ∷ ps else (k, x) ∷ put key v ps) ≡ Some v
look_step true key k u x v ps is e ih = ap (λ b. if b then Some v else look key ps) is
look_step false key k u x v ps is e ih = ap (λ b. if b then Some x else look key (put key v ps)) is ∙ ih e

pub look-put : (key : Key) (u v : Value) (ps : List (Key × Value)) → look key ps ≡ Some u → look key (put key v ps) ≡ Some v
look-put key u v [] e = search (rules, e)
look-put key u v (p ∷ ps) e = look_step (same_key p.0 key) key p.0 u p.1 v ps refl e (look-put key u v ps)

put_some : (o : Option Value) (key : Key) (x v : Value) (qs rs : List (Key × Value)) → o ≡ Some x → rs ≡ (if is_some o then put key v qs else qs) → rs ≡ put key v qs
put_some None key x v qs rs e h = search (rules, e)
put_some (Some y) key x v qs rs e h = h

-- ---- at a key that is there

-- the value was taken out and another one is put in its place
pub put_again : (o : Option Value) (key : Key) (u v : Value) (m m1 m2 : MapView Value) → Some u ≡ look key (pairs_of m) → pairs_of m1 ≡ put key kind.Null (pairs_of m) → next_of m1 ≡ next_of m
    → o ≡ look key (pairs_of m1) → pairs_of m2 ≡ (if is_some o then put key v (pairs_of m1) else pairs_of m1) → next_of m2 ≡ next_of m1
    → array_of m2 ≡ with_item key (array_of m) (data_of v)
put_again o key u v m m1 m2 at p1 n1 found p2 n2 =
    let there = ap (look key) p1 ∙ look-put key u kind.Null (pairs_of m) (sym at) in
    let put2 = put_some o key kind.Null v (pairs_of m1) (pairs_of m2) (found ∙ there) p2 in
    let e = ap data_pairs put2 ∙ data-set key kind.Null v (pairs_of m1) there ∙ ap (set_at key (data_of v)) (ap data_pairs p1 ∙ data-set key u kind.Null (pairs_of m) (sym at)) ∙ set-twice key (data_of kind.Null) (data_of v) (data_pairs (pairs_of m)) in
    let n = n2 ∙ n1 in
    (λ i. of_pairs (e i) (n i))

value_there : (key : Key) (u : Value) (m : MapView Value) → Some u ≡ look key (pairs_of m) → value_of key (data_pairs (pairs_of m)) ≡ Some (data_of u)
value_there key u m at = sym (look-data key (pairs_of m)) ∙ ap (option_map data_of) (sym at)

value_missing : (key : Key) (m : MapView Value) → None ≡ look key (pairs_of m) → value_of key (data_pairs (pairs_of m)) ≡ None
value_missing key m at = sym (look-data key (pairs_of m)) ∙ ap (option_map data_of) (sym at)

found_in : {C : Type 0} (r : Result C PlaceFault) (key : Key) (W : Data → Answer Data) (u v : Value) (m m2 : MapView Value) → Some u ≡ look key (pairs_of m) → array_of m2 ≡ with_item key (array_of m) (data_of v)
    → Makes (W (data_of u)) (data_of u) (data_of v) r → Makes (change_found key W (array_of m) (data_of u)) (array_of m) (array_of m2) r
found_in r key W u v m m2 at is h =
    makes_in r (W (data_of u)) (with_item key (array_of m)) (data_of u) (data_of v) (array_of m) (array_of m2) is (ap (λ ps. of_pairs ps (next_of m)) (set-same key u (pairs_of m) (sym at))) h

pub write_found : {C : Type 0} (r : Result C PlaceFault) (o : Option Value) (key : Key) (W : Data → Answer Data) (u v : Value) (m m1 m2 : MapView Value) → Some u ≡ look key (pairs_of m) → pairs_of m1 ≡ put key kind.Null (pairs_of m) → next_of m1 ≡ next_of m
    → o ≡ look key (pairs_of m1) → pairs_of m2 ≡ (if is_some o then put key v (pairs_of m1) else pairs_of m1) → next_of m2 ≡ next_of m1
    → Makes (W (data_of u)) (data_of u) (data_of v) r → Makes (write_key W (array_of m) key) (array_of m) (array_of m2) r
write_found r o key W u v m m1 m2 at p1 n1 found p2 n2 h =
    makes_of r (change_found key W (array_of m) (data_of u)) (write_key W (array_of m) key) (array_of m) (array_of m2) (ap (change_item key W (array_of m)) (value_there key u m at))
    (found_in r key W u v m m2 at (put_again o key u v m m1 m2 at p1 n1 found p2 n2) h)

pub unset_found : {C : Type 0} (r : Result C PlaceFault) (o : Option Value) (key : Key) (s : Step) (path : List Step) (W : Data → Answer Data) (u v : Value) (m m1 m2 : MapView Value) → Some u ≡ look key (pairs_of m)
    → pairs_of m1 ≡ put key kind.Null (pairs_of m) → next_of m1 ≡ next_of m → o ≡ look key (pairs_of m1) → pairs_of m2 ≡ (if is_some o then put key v (pairs_of m1) else pairs_of m1) → next_of m2 ≡ next_of m1
    → Makes (W (data_of u)) (data_of u) (data_of v) r → Makes (unset_key (s ∷ path) W (array_of m) key) (array_of m) (array_of m2) r
unset_found r o key s path W u v m m1 m2 at p1 n1 found p2 n2 h =
    makes_of r (change_found key W (array_of m) (data_of u)) (unset_key (s ∷ path) W (array_of m) key) (array_of m) (array_of m2) (ap (unset_within key W (array_of m)) (value_there key u m at))
    (found_in r key W u v m m2 at (put_again o key u v m m1 m2 at p1 n1 found p2 n2) h)

-- ---- at a key that is not there

same_array : (m m1 : MapView Value) → pairs_of m1 ≡ pairs_of m → next_of m1 ≡ next_of m → array_of m1 ≡ array_of m
same_array m m1 p n = (λ i. of_pairs (data_pairs (p i)) (n i))

missing_is : (key : Key) (W : Data → Answer Data) (m : MapView Value) → None ≡ look key (pairs_of m) → write_key W (array_of m) key ≡ change_missing key W (array_of m)
missing_is key W m at = ap (change_item key W (array_of m)) (value_missing key m at)

room_is : (key : Key) (W : Data → Answer Data) (m : MapView Value) (b : Bool) → None ≡ look key (pairs_of m) → b ≡ is_full (array_of m) → write_key W (array_of m) key ≡ (if b then Err Size else when_ok (with_new key (array_of m)) (W null))
room_is key W m b at full = missing_is key W m at ∙ ap (λ b. if b then Err Size else when_ok (with_new key (array_of m)) (W null)) (sym full)

pub missing_full : (key : Key) (W : Data → Answer Data) (m m1 : MapView Value) → None ≡ look key (pairs_of m) → pairs_of m1 ≡ pairs_of m → next_of m1 ≡ next_of m → true ≡ is_full (array_of m1)
    → IsRefused (write_key W (array_of m) key) (array_of m) (array_of m1) Size
missing_full key W m m1 at p n full =
    record { fault_is = room_is key W m true at (full ∙ ap is_full (same_array m m1 p n)); unchanged = same_array m m1 p n }

pub missing_err : (key : Key) (W : Data → Answer Data) (m m1 : MapView Value) (fault : PlaceFault) → None ≡ look key (pairs_of m) → pairs_of m1 ≡ pairs_of m → next_of m1 ≡ next_of m → false ≡ is_full (array_of m1) → W null ≡ Err fault
    → IsRefused (write_key W (array_of m) key) (array_of m) (array_of m1) fault
missing_err key W m m1 fault at p n full h =
    record { fault_is = room_is key W m false at (full ∙ ap is_full (same_array m m1 p n)) ∙ ap (when_ok (with_new key (array_of m))) h; unchanged = same_array m m1 p n }

pub missing_ok : (key : Key) (W : Data → Answer Data) (v : Value) (m m1 m2 : MapView Value) → None ≡ look key (pairs_of m) → pairs_of m1 ≡ pairs_of m → next_of m1 ≡ next_of m → false ≡ is_full (array_of m1) → W null ≡ Ok (data_of v)
    → pairs_of m2 ≡ put key v (pairs_of m1) → next_of m2 ≡ next_after key (next_of m1) → write_key W (array_of m) key ≡ Ok (array_of m2)
missing_ok key W v m m1 m2 at p n full h p2 n2 =
    let e = ap data_pairs (p2 ∙ ap (put key v) p ∙ put-missing key v (pairs_of m) (sym at)) ∙ data_pairs-push (pairs_of m) key v in
    let f = n2 ∙ ap (next_after key) n in
    room_is key W m false at (full ∙ ap is_full (same_array m m1 p n)) ∙ ap (when_ok (with_new key (array_of m))) h ∙ (λ i. Ok (of_pairs (sym e i) (sym f i)))

pub unset_missing : (key : Key) (s : Step) (path : List Step) (W : Data → Answer Data) (m m1 : MapView Value) → None ≡ look key (pairs_of m) → pairs_of m1 ≡ pairs_of m → next_of m1 ≡ next_of m
    → unset_key (s ∷ path) W (array_of m) key ≡ Ok (array_of m1)
unset_missing key s path W m m1 at p n = ap (unset_within key W (array_of m)) (value_missing key m at) ∙ ap Ok (sym (same_array m m1 p n))

without_step : (b : Bool) (k : Key) (x : Value) (ps qs : List (Key × Value)) (q : Pairs) → data_pairs qs ≡ q → data_pairs (if b then ps else (k, x) ∷ qs) ≡ (if b then data_pairs ps else pair k (data_of x) q)
without_step true k x ps qs q e = refl
without_step false k x ps qs q e = ap (pair k (data_of x)) e

data-without : (key : Key) (ps : List (Key × Value)) → data_pairs (without key ps) ≡ without_at key (data_pairs ps)
data-without key [] = refl
data-without key (p ∷ ps) = without_step (same_key p.0 key) p.0 p.1 ps (without key ps) _ (data-without key ps)

pub unset_last : (key : Key) (path : List Step) (W : Data → Answer Data) (m m1 : MapView Value) → path ≡ [] → pairs_of m1 ≡ without key (pairs_of m) → next_of m1 ≡ next_of m → unset_key path W (array_of m) key ≡ Ok (array_of m1)
unset_last key path W m m1 last p n =
    let e = ap data_pairs p ∙ data-without key (pairs_of m) in
    ap (λ path. unset_key path W (array_of m) key) last ∙ (λ i. Ok (of_pairs (sym e i) (sym n i)))

-- ---- at the next key

pub next_full : (W : Data → Answer Data) (a : ArrayData) → true ≡ is_full a → write_next W a ≡ Err Size
next_full W a full = ap (λ b. if b then Err Size else (if is_spent a then Err Keys else when_ok (with_new (Int (pos (array_next a))) a) (W null))) (sym full)

pub next_spent : (W : Data → Answer Data) (a : ArrayData) (b : Bool) → false ≡ is_full a → b ≡ is_spent a → write_next W a ≡ (if b then Err Keys else when_ok (with_new (Int (pos (array_next a))) a) (W null))
next_spent W a b full is =
    ap (λ b. if b then Err Size else (if is_spent a then Err Keys else when_ok (with_new (Int (pos (array_next a))) a) (W null))) (sym full)
    ∙ ap (λ b. if b then Err Keys else when_ok (with_new (Int (pos (array_next a))) a) (W null)) (sym is)

pub appended : (v : Value) (m m2 : MapView Value) → pairs_of m2 ≡ pairs_of m ++ (Int (pos (next_of m)), v) ∷ [] → next_of m2 ≡ next_of m + 1
    → array_of m2 ≡ with_new (Int (pos (array_next (array_of m)))) (array_of m) (data_of v)
appended v m m2 p n =
    let e = ap data_pairs p ∙ data_pairs-push (pairs_of m) (Int (pos (next_of m))) v in
    let f : next_of m2 ≡ max (next_of m) (next_of m + 1) = grind (arith, n) in
    (λ i. of_pairs (e i) (f i))

-- ---- whole values

pub taken : (v : Value) (a : ArrayValue) → v ≡ kind.List a → array_in (data_of v) ≡ Ok (array_of a.map.value)
taken v a is = ap array_in (ap data_of is ∙ data-List a)

-- an array that is written where there was none
pub fresh : (s : Step) (W : Data → Answer Data) (m m2 : MapView Value) (a : ArrayValue) → pairs_of m ≡ [] → next_of m ≡ 0 → write_index s W (array_of m) ≡ Ok (array_of m2) → a.map.value ≡ m2
    → when_ok array (write_index s W no_array) ≡ Ok (data_of (kind.List a))
fresh s W m m2 a p n h is =
    (λ i. when_ok array (write_index s W (of_pairs (data_pairs (sym p i)) (sym n i)))) ∙ ap (when_ok array) h ∙ ap (λ m. Ok (array (array_of m))) (sym is) ∙ ap Ok (sym (data-List a))

array_is : (d : Data) (a : ArrayData) → array_in d ≡ Ok a → array a ≡ d
array_is d a h = search (rules, h)

-- an array that is taken out, written and put back
pub put_back : {C : Type 0} (r : Result C PlaceFault) (s : Step) (W : Data → Answer Data) (d : Data) (a b : ArrayValue) → false ≡ is_blank d → array_in d ≡ Ok (array_of a.map.value)
    → Makes (write_index s W (array_of a.map.value)) (array_of a.map.value) (array_of b.map.value) r → Makes (write_item s W d) d (data_of (kind.List b)) r
put_back r s W d a b blank is h =
    let is_open : opened d ≡ Ok (array_of a.map.value) = ap (λ b. if b then Ok no_array else array_in d) (sym blank) ∙ is in
    makes_of r (when_ok array (write_index s W (array_of a.map.value))) (write_item s W d) d (data_of (kind.List b)) (ap (λ o. when_ok array (and_then o (write_index s W))) is_open)
    (makes_in r (write_index s W (array_of a.map.value)) array (array_of a.map.value) (array_of b.map.value) d (data_of (kind.List b)) (data-List b) (array_is d (array_of a.map.value) is) h)

-- an array that is taken out, part of it removed, and put back
pub unset_back : {C : Type 0} (r : Result C PlaceFault) (s : Step) (path : List Step) (W : Data → Answer Data) (v : Value) (a b : ArrayValue) → v ≡ kind.List a
    → Makes (unset_index s path W (array_of a.map.value)) (array_of a.map.value) (array_of b.map.value) r → Makes (unset_item s path W (data_of v)) (data_of v) (data_of (kind.List b)) r
unset_back r s path W v a b is h =
    let d : data_of v ≡ array (array_of a.map.value) = ap data_of is ∙ data-List a in
    makes_of r (when_ok array (unset_index s path W (array_of a.map.value))) (unset_item s path W (data_of v)) (data_of v) (data_of (kind.List b)) (ap (unset_item s path W) d)
    (makes_in r (unset_index s path W (array_of a.map.value)) array (array_of a.map.value) (array_of b.map.value) (data_of v) (data_of (kind.List b)) (data-List b) (sym d) h)

-- ---- paths as lists of steps

pub path_empty : (path : List step.Step) → true ≡ (length path == 0) → path_of path ≡ []
path_empty [] e = refl
path_empty (s ∷ path) e = grind (arith, e)

pub more_found : {C : Type 0} (r : Result C PlaceFault) (o : Option Value) (key : Key) (path : List step.Step) (W : Data → Answer Data) (u v : Value) (m m1 m2 : MapView Value) → false ≡ (length path == 0) → Some u ≡ look key (pairs_of m)
    → pairs_of m1 ≡ put key kind.Null (pairs_of m) → next_of m1 ≡ next_of m → o ≡ look key (pairs_of m1) → pairs_of m2 ≡ (if is_some o then put key v (pairs_of m1) else pairs_of m1) → next_of m2 ≡ next_of m1
    → Makes (W (data_of u)) (data_of u) (data_of v) r → Makes (unset_key (path_of path) W (array_of m) key) (array_of m) (array_of m2) r
more_found r o key [] W u v m m1 m2 e at p1 n1 found p2 n2 h = search (rules, e)
more_found r o key (s ∷ path) W u v m m1 m2 e at p1 n1 found p2 n2 h = unset_found r o key (step_of s) (path_of path) W u v m m1 m2 at p1 n1 found p2 n2 h

pub more_missing : (key : Key) (path : List step.Step) (W : Data → Answer Data) (m m1 : MapView Value) → false ≡ (length path == 0) → None ≡ look key (pairs_of m) → pairs_of m1 ≡ pairs_of m → next_of m1 ≡ next_of m
    → unset_key (path_of path) W (array_of m) key ≡ Ok (array_of m1)
more_missing key [] W m m1 e at p n = search (rules, e)
more_missing key (s ∷ path) W m m1 e at p n = unset_missing key (step_of s) (path_of path) W m m1 at p n

take-all : (xs : List step.Step) → take (length xs) xs ≡ xs
take-all [] = refl
take-all (x ∷ xs) = ap (λ l. x ∷ l) (take-all xs)

pub cut_path : (path : List step.Step) (d : step.Step) → 1 ≤ length path → path ≡ slice_index_or path 0 d ∷ take (length path - 1) (drop 1 path)
cut_path [] d e = search (rules, e)
cut_path (s ∷ path) d e = let n : suc (length path) - 1 ≡ length path = omega arith in ap (λ l. s ∷ l) (sym (ap (λ k. take k path) n ∙ take-all path))

pub unset_here : {C : Type 0} (r : Result C PlaceFault) (path : List step.Step) (s : step.Step) (more : List step.Step) (key : Value) (d e : Data) → path ≡ s ∷ more → s ≡ stepped.At key
    → Makes (unset_item (step_of s) (path_of more) (unset_at (path_of more)) d) d e r → Makes (unset_at (path_of path) d) d e r
unset_here r path s more key d e cut is h =
    makes_of r (unset_item (step_of s) (path_of more) (unset_at (path_of more)) d) (unset_at (path_of path) d) d e
    (ap (λ p. unset_at (path_of p) d) cut ∙ ap (λ s. unset_step (step_of s) (path_of more) (unset_at (path_of more)) d) is ∙ ap (λ s. unset_item (step_of s) (path_of more) (unset_at (path_of more)) d) (sym is)) h

pub full_count : (m : MapView Value) → is_full (array_of m) ≡ not (nat_lt (length (pairs_of m)) 100000)
full_count m = ap (λ n. not (nat_lt n 100000)) (count-data (pairs_of m))
