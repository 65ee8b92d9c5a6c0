-- Lists that are made of marks: keys that are not there yet, and what each step makes of the whole.
use Rattle.std.proofs.Common.{◌≡◌, ℕ, false, List, [], ◌∷◌, ◌++◌, refl, sym, ap, subst, ◌∙◌, drop, reverse, None, IsTrue, ◌≤◌, arith}
use Rattle.std.proofs.lemmas.Bool.Decides.{nat_tests}
use Rattle.std.proofs.lemmas.List.{reverse-append}
use Rattle.std.proofs.lemmas.Bool.Decides.{same_from_decides}
use Rattle.order_map.specs.declared.key.Key.{Key}
use Rattle.order_map.specs.MapView.{MapView}
use Rattle.order_map.specs.Keys.{same_key, has_key, all_distinct, is_below, all_below, next_after, spent}
use Rattle.order_map.specs.Arrays.{keys_of, look, pairs_of, next_of}
use Rattle.order_map.proofs.Keys.{and_left, and_right, or_no, no_or, not_false, same_key-Decides, next_after-below}
use Rattle.php_values.specs.declared.value.Value.{Value}
use Rattle.php_values.specs.Data.{Data, array, of_pairs, Pairs, no_pairs, pair, data_pairs, array_of}
use Rattle.php_values.specs.Arithmetic.{put_last}
use Rattle.session_book.specs.declared.mark.Mark.{Mark}
use Rattle.session_book.specs.declared.mark.Mark.TheVariants.{Close}
use Rattle.session_book.specs.declared.read.Outer.{Outer}
use Rattle.session_book.specs.declared.read.Making.{Making}
use Rattle.session_book.specs.Kept.{keys_in, is_keyed, is_sound, is_sound_array, are_sound}
use Rattle.session_book.specs.Marks.{innermost, with_pair, with_list, with_mark}
use Rattle.session_book.specs.Steps.{joined, completed, whole_of, CanTake}

-- ---- keys

same_key-sym : (a b : Key) → same_key a b ≡ same_key b a
same_key-sym a b = same_from_decides _ _ (same_key-Decides a b) ((λ e. sym ((same_key-Decides b a).0 e)), (λ e. (same_key-Decides b a).1 (sym e)))

-- a key that stands behind others is none of them
apart : (j : Key) (ks : List Key) (k : Key) (js : List Key) → has_key j (ks ++ k ∷ js) ≡ false → same_key k j ≡ false
apart j [] k js h = (or_no (same_key k j) (has_key j js) h).0
apart j (i ∷ ks) k js h = apart j ks k js (or_no (same_key i j) (has_key j (ks ++ k ∷ js)) h).1

free-keys : (ks : List Key) (k : Key) (js : List Key) → IsTrue (all_distinct (ks ++ k ∷ js)) → has_key k ks ≡ false
free-keys [] k js h = refl
free-keys (j ∷ ks) k js h =
    no_or (same_key j k) (has_key k ks)
    (same_key-sym j k ∙ apart j ks k js (not_false (has_key j (ks ++ k ∷ js)) (and_left _ _ h)))
    (free-keys ks k js (and_right _ _ h))

below-keys : (ks : List Key) (k : Key) (js : List Key) (n : ℕ) → IsTrue (all_below n (ks ++ k ∷ js)) → IsTrue (is_below n k)
below-keys [] k js n h = and_left _ _ h
below-keys (j ∷ ks) k js n h = below-keys ks k js n (and_right _ _ h)

look-absent : {V : Type 0} (key : Key) (ps : List (Key × V)) → has_key key (keys_of ps) ≡ false → look key ps ≡ None
look-absent key [] h = refl
look-absent key (p ∷ ps) h = let w = or_no (same_key p.0 key) (has_key key (keys_of ps)) h in rw w.0 (look-absent key ps w.1)

data-keys : (ps : List (Key × Value)) → keys_in (data_pairs ps) ≡ keys_of ps
data-keys [] = refl
data-keys (p ∷ ps) = ap (λ ks. p.0 ∷ ks) (data-keys ps)

keys-joined : (ps qs : Pairs) → keys_in (joined ps qs) ≡ keys_in ps ++ keys_in qs
keys-joined no_pairs qs = refl
keys-joined (pair k d ps) qs = ap (λ ks. k ∷ ks) (keys-joined ps qs)

-- ---- pairs behind others

pub joined-last : (ps : Pairs) (k : Key) (d : Data) (qs : Pairs) → joined (put_last k d ps) qs ≡ joined ps (pair k d qs)
joined-last no_pairs k d qs = refl
joined-last (pair j e ps) k d qs = ap (pair j e) (joined-last ps k d qs)

pub joined-none : (ps : Pairs) → joined ps no_pairs ≡ ps
joined-none no_pairs = refl
joined-none (pair k d ps) = ap (pair k d) (joined-none ps)

sound-inside : (ps : Pairs) (k : Key) (d : Data) (qs : Pairs) → IsTrue (are_sound (joined ps (pair k d qs))) → IsTrue (is_sound d)
sound-inside no_pairs k d qs h = and_left _ _ h
sound-inside (pair j e ps) k d qs h = sound-inside ps k d qs (and_right _ _ h)

-- ---- the whole

-- where the whole is an array, the innermost open list is one
innermost-sound : (os : List Outer) (done : Pairs) (next : ℕ) (pss : List Pairs) → IsTrue (is_sound_array (completed os done next pss))
    → IsTrue (is_sound_array (of_pairs (joined done (innermost pss)) next))
innermost-sound [] done next pss h = h
innermost-sound (o ∷ os) done next pss h =
    let a = of_pairs (joined done (innermost pss)) next in
    let up = innermost-sound os (put_last o.key (array a) (data_pairs (pairs_of o.map))) (next_of o.map) (drop 1 pss) h in
    let s = and_right (is_keyed (joined (put_last o.key (array a) (data_pairs (pairs_of o.map))) (innermost (drop 1 pss))) (next_of o.map)) _ up in
    sound-inside (data_pairs (pairs_of o.map)) o.key (array a) (innermost (drop 1 pss))
    (subst (λ ps. IsTrue (are_sound ps)) (joined-last (data_pairs (pairs_of o.map)) o.key (array a) (innermost (drop 1 pss))) s)

-- a pair that is to be added: its key is not there, and is below the next key
pub record Fits (m : MapView Value) (k : Key) : Type 0 where
  pub free : look k (pairs_of m) ≡ None
  pub below : next_after k (next_of m) ≡ next_of m

pub fits : (os : List Outer) (m : MapView Value) (k : Key) (d : Data) (pss : List Pairs)
    → IsTrue (is_sound_array (completed os (data_pairs (pairs_of m)) (next_of m) (with_pair k d pss))) → Fits m k
fits os m k d pss h =
    let done = data_pairs (pairs_of m) in
    let all = joined done (pair k d (innermost pss)) in
    let keyed = and_left (is_keyed all (next_of m)) _ (innermost-sound os done (next_of m) (with_pair k d pss) h) in
    let keys : keys_in all ≡ keys_of (pairs_of m) ++ k ∷ keys_in (innermost pss) = keys-joined done (pair k d (innermost pss)) ∙ ap (λ ks. ks ++ k ∷ keys_in (innermost pss)) (data-keys (pairs_of m)) in
    let distinct = subst (λ ks. IsTrue (all_distinct ks)) keys (and_left (all_distinct (keys_in all)) _ keyed) in
    let below = subst (λ ks. IsTrue (all_below (next_of m) ks)) keys (and_left (all_below (next_of m) (keys_in all)) _ (and_right (all_distinct (keys_in all)) _ keyed)) in
    record {
      free = look-absent k (pairs_of m) (free-keys (keys_of (pairs_of m)) k (keys_in (innermost pss)) distinct);
      below = next_after-below k (next_of m) (below-keys (keys_of (pairs_of m)) k (keys_in (innermost pss)) (next_of m) below);
    }

-- a pair was added
pub pair-step : (os : List Outer) (done : Pairs) (next : ℕ) (k : Key) (d : Data) (pss : List Pairs) → completed os (put_last k d done) next pss ≡ completed os done next (with_pair k d pss)
pair-step [] done next k d pss = ap (λ ps. of_pairs ps next) (joined-last done k d (innermost pss))
pair-step (o ∷ os) done next k d pss =
    ap (λ ps. completed os (put_last o.key (array (of_pairs ps next)) (data_pairs (pairs_of o.map))) (next_of o.map) (drop 1 pss)) (joined-last done k d (innermost pss))

-- a list was begun
pub open-step : (os : List Outer) (o : Outer) (next : ℕ) (pss : List Pairs)
    → completed (o ∷ os) no_pairs next pss ≡ completed os (data_pairs (pairs_of o.map)) (next_of o.map) (with_list o.key next pss)
open-step os o next pss = pair-step os (data_pairs (pairs_of o.map)) (next_of o.map) o.key (array (of_pairs (innermost pss) next)) (drop 1 pss)

-- a list that is begun has a next key as arrays have it
pub open-next : (os : List Outer) (done : Pairs) (n : ℕ) (k : Key) (next : ℕ) (pss : List Pairs) → IsTrue (is_sound_array (completed os done n (with_list k next pss)))
    → IsTrue (is_keyed (innermost pss) next)
open-next os done n k next pss h =
    let up = innermost-sound os done n (with_list k next pss) h in
    let s = and_right (is_keyed (joined done (innermost (with_list k next pss))) n) _ up in
    and_left (is_keyed (innermost pss) next) _ (sound-inside done k (array (of_pairs (innermost pss) next)) (innermost (drop 1 pss)) s)

-- a list was ended
pub close-step : (os : List Outer) (o : Outer) (done : Pairs) (next : ℕ) (pss : List Pairs)
    → completed (o ∷ os) done next (no_pairs ∷ pss) ≡ completed os (data_pairs (pairs_of o.map)) (next_of o.map) (with_pair o.key (array (of_pairs done next)) pss)
close-step os o done next pss =
    ap (λ ps. completed os (put_last o.key (array (of_pairs ps next)) (data_pairs (pairs_of o.map))) (next_of o.map) pss) (joined-none done)
    ∙ pair-step os (data_pairs (pairs_of o.map)) (next_of o.map) o.key (array (of_pairs done next)) pss

-- behind the last mark nothing is still to come
pub nothing-more : (os : List Outer) (done : Pairs) (next : ℕ) → completed os done next [] ≡ completed os done next (no_pairs ∷ [])
nothing-more [] done next = refl
nothing-more (o ∷ os) done next = refl

-- ---- steps of the list that is being made

-- what a list that is put behind the others makes of the lists around the innermost one
outer-last : (ws vs : List Outer) (o : Outer) → ws ≡ vs ++ o ∷ [] → reverse ws ≡ o ∷ reverse vs
outer-last ws vs o e = ap reverse e ∙ reverse-append vs (o ∷ [])

pub pair-fits : (making : Making) (m : Mark) (k : Key) (d : Data) → CanTake making m → ((pss : List Pairs) → with_mark m pss ≡ with_pair k d pss) → Fits making.map k
pair-fits making m k d can e =
    fits (reverse making.above.items) making.map k d can.rest (subst (λ pss. IsTrue (is_sound_array (whole_of making pss))) (e can.rest) can.sound)

pub pair-taken : (old new : Making) (m : Mark) (k : Key) (d : Data) → ((pss : List Pairs) → with_mark m pss ≡ with_pair k d pss) → new.above.items ≡ old.above.items
    → data_pairs (pairs_of new.map) ≡ put_last k d (data_pairs (pairs_of old.map)) → next_of new.map ≡ next_of old.map → (pss : List Pairs) → whole_of new pss ≡ whole_of old (with_mark m pss)
pair-taken old new m k d e above pairs next pss =
    (λ i. completed (reverse (above i)) (pairs i) (next i) pss) ∙ pair-step (reverse old.above.items) (data_pairs (pairs_of old.map)) (next_of old.map) k d pss
    ∙ ap (whole_of old) (sym (e pss))

below-spent : (ps : Pairs) (next : ℕ) → IsTrue (is_keyed ps next) → next ≤ spent
below-spent ps next h = let l = and_right (all_below next (keys_in ps)) _ (and_right (all_distinct (keys_in ps)) _ h) in grind (arith, nat_tests)

pub list-next : (making : Making) (m : Mark) (k : Key) (next : ℕ) → CanTake making m → ((pss : List Pairs) → with_mark m pss ≡ with_list k next pss) → next ≤ spent
list-next making m k next can e =
    below-spent (innermost can.rest) next (open-next (reverse making.above.items) (data_pairs (pairs_of making.map)) (next_of making.map) k next can.rest
    (subst (λ pss. IsTrue (is_sound_array (whole_of making pss))) (e can.rest) can.sound))

pub list-opened : (old new : Making) (o : Outer) (next : ℕ) → new.above.items ≡ old.above.items ++ o ∷ [] → o.map ≡ old.map → data_pairs (pairs_of new.map) ≡ no_pairs → next_of new.map ≡ next
    → (pss : List Pairs) → whole_of new pss ≡ whole_of old (with_list o.key next pss)
list-opened old new o next above map pairs n pss =
    (λ i. completed (outer-last new.above.items old.above.items o above i) (pairs i) (n i) pss)
    ∙ open-step (reverse old.above.items) o next pss
    ∙ ap (λ m. completed (reverse old.above.items) (data_pairs (pairs_of m)) (next_of m) (with_list o.key next pss)) map

-- the list around the innermost one has no pair at the key under which that one will stand
pub outer-fits : (making : Making) (o : Outer) (vs : List Outer) → making.above.items ≡ vs ++ o ∷ [] → CanTake making Close → Fits o.map o.key
outer-fits making o vs e can =
    let done = data_pairs (pairs_of making.map) in
    let next = next_of making.map in
    let h = subst (λ os. IsTrue (is_sound_array (completed os done next (no_pairs ∷ can.rest)))) (outer-last making.above.items vs o e) can.sound in
    fits (reverse vs) o.map o.key (array (of_pairs done next)) can.rest (subst (λ a. IsTrue (is_sound_array a)) (close-step (reverse vs) o done next can.rest) h)

pub list-closed : (old new : Making) (o : Outer) (d : Data) → old.above.items ≡ new.above.items ++ o ∷ [] → d ≡ array (array_of old.map)
    → data_pairs (pairs_of new.map) ≡ put_last o.key d (data_pairs (pairs_of o.map)) → next_of new.map ≡ next_of o.map → (pss : List Pairs) → whole_of new pss ≡ whole_of old (no_pairs ∷ pss)
list-closed old new o d above is pairs next pss =
    let done = data_pairs (pairs_of old.map) in
    let os = reverse new.above.items in
    (λ i. completed os (pairs i) (next i) pss)
    ∙ ap (λ d. completed os (put_last o.key d (data_pairs (pairs_of o.map))) (next_of o.map) pss) is
    ∙ pair-step os (data_pairs (pairs_of o.map)) (next_of o.map) o.key (array (array_of old.map)) pss
    ∙ sym (close-step os o done (next_of old.map) pss)
    ∙ sym (ap (λ os. completed os done (next_of old.map) (no_pairs ∷ pss)) (outer-last old.above.items new.above.items o above))

-- the outermost list ends
pub all-closed : (old : Making) → old.above.items ≡ [] → (pss : List Pairs) → array_of old.map ≡ whole_of old (no_pairs ∷ pss)
all-closed old e pss =
    sym (ap (λ ws. completed (reverse ws) (data_pairs (pairs_of old.map)) (next_of old.map) (no_pairs ∷ pss)) e ∙ ap (λ ps. of_pairs ps (next_of old.map)) (joined-none (data_pairs (pairs_of old.map))))
