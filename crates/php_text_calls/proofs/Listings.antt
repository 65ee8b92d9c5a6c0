-- Lists of pieces and of texts under way.
use Rattle.std.proofs.Common.{rules, ◌≡◌, ◌∙◌, ℕ, zero, suc, ◌+◌, ◌<◌, ◌≤◌, Bool, true, false, List, [], ◌∷◌, ◌++◌, drop, slice_get, Some, None, length, length-append, append_assoc, append-nil, nat_le, Ok, Err, if◌then◌else◌, refl, sym, ap, subst, arith}
use Rattle.std.proofs.lemmas.Bool.Decides.{nat_tests}
use Rattle.order_map.specs.declared.key.Key.{Key}
use Rattle.order_map.specs.MapView.{MapView}
use Rattle.php_values.specs.declared.value.Value.{Value}
use Rattle.php_values.specs.Data.{Data, ArrayData, array, data_of, data_pairs, array_of}
use Rattle.php_values.specs.Arithmetic.{max_pairs}
use Rattle.php_arguments.specs.declared.fault.CallFault.{CallFault}
use Rattle.php_arguments.specs.declared.fault.CallFault.TheVariants.{Size}
use Rattle.php_arguments.specs.Answers.{CallAnswer, go_on}
use Rattle.php_arguments.specs.Arguments.{text_row}
use Rattle.php_arguments.specs.Results.{array_list, sized_list, listed, IsListed}
use Rattle.php_text_calls.specs.Pieces.{texts_of}

-- ---- a list of values under way

-- the values that a list has, and those that are still to come
pub record Listing (m : MapView Value) (rest all : List Data) : Type 0 where
  pub done : List Data
  pub is : array_of m ≡ array_list done
  pub parts : done ++ rest ≡ all
  pub few : length done ≤ max_pairs

pub record Pushed (done : List Data) (d : Data) (a : ArrayData) : Type 0 where
  pub is : a ≡ array_list (done ++ d ∷ [])
  pub few : length done < max_pairs

pushed_by : (b : Bool) (done : List Data) (d : Data) (a : ArrayData) → nat_le max_pairs (length done) ≡ b → IsListed (if b then Err Size else Ok (done ++ d ∷ [])) a → Pushed done d a
pushed_by true done d a e h = absurd h
pushed_by false done d a e h = record { is = h; few = grind (arith, nat_tests, e) }

listing_more : (new : MapView Value) (d : Data) (done rest all : List Data) → done ++ d ∷ rest ≡ all → Pushed done d (array_of new) → Listing new rest all
listing_more new d done rest all e p =
    let few = p.few in
    let count = length-append done (d ∷ []) in
    record {
      done = done ++ d ∷ [];
      is = p.is;
      parts = append_assoc done (d ∷ []) rest ∙ e;
      few = omega (arith, few, count);
    }

pub pushed : (m new : MapView Value) (d : Data) (rest all : List Data) → ((ds : List Data) → array_of m ≡ array_list ds → IsListed (listed ds d) (array_of new)) → Listing m (d ∷ rest) all → Listing new rest all
pushed m new d rest all h l =
    listing_more new d l.done rest all l.parts (pushed_by (nat_le max_pairs (length l.done)) l.done d (array_of new) refl (h l.done l.is))

full_by : (b : Bool) (done rest all : List Data) (d : Data) (f : CallFault) → nat_le max_pairs (length done) ≡ b → done ++ d ∷ rest ≡ all → (if b then Err Size else Ok (done ++ d ∷ [])) ≡ Err f → sized_list all ≡ Err f
full_by false done rest all d f e parts h = search (rules, h)
full_by true done rest all d f e parts h =
    let many : max_pairs ≤ length done = grind (arith, nat_tests, e) in
    let count : length all ≡ length done + (length rest + 1) = sym (ap length parts) ∙ grind (arith, length-append) in
    let b : nat_le (length all) max_pairs ≡ false = grind (arith, nat_tests, many, count) in
    let fault : Size ≡ f = cc in
    ap (λ b. if b then Ok (array (array_list all)) else Err Size) b ∙ ap Err fault

pub full : (m : MapView Value) (d : Data) (rest all : List Data) (f : CallFault) → ((ds : List Data) → array_of m ≡ array_list ds → listed ds d ≡ Err f) → Listing m (d ∷ rest) all → sized_list all ≡ Err f
full m d rest all f h l = full_by (nat_le max_pairs (length l.done)) l.done rest all d f refl l.parts (h l.done l.is)

-- the list is whole
pub listed-all : (m : MapView Value) (all : List Data) → Listing m [] all → sized_list all ≡ Ok (array (array_of m))
listed-all m all l =
    let same : l.done ≡ all = sym (append-nil l.done) ∙ l.parts in
    let few = l.few in
    let count = ap length same in
    let b : nat_le (length all) max_pairs ≡ true = grind (arith, nat_tests, few, count) in
    ap (λ b. if b then Ok (array (array_list all)) else Err Size) b ∙ ap (λ a. Ok (array a)) (ap array_list (sym same) ∙ sym l.is)

-- ---- the texts of an array's values

regroup : (X : CallAnswer (List (List ℕ))) (t : List ℕ) (done : List (List ℕ)) → go_on (go_on X (λ ts. Ok (t ∷ ts))) (λ ts. Ok (done ++ ts)) ≡ go_on X (λ ts. Ok ((done ++ t ∷ []) ++ ts))
regroup (Ok ts) t done = ap Ok (sym (append_assoc done (t ∷ []) ts))
regroup (Err f) t done = refl

text_taken : (row : CallAnswer (List ℕ)) (X : CallAnswer (List (List ℕ))) (t : List ℕ) (done : List (List ℕ)) → row ≡ Ok t
    → go_on (go_on row (λ t. go_on X (λ ts. Ok (t ∷ ts)))) (λ ts. Ok (done ++ ts)) ≡ go_on X (λ ts. Ok ((done ++ t ∷ []) ++ ts))
text_taken row X t done e = ap (λ row. go_on (go_on row (λ t. go_on X (λ ts. Ok (t ∷ ts)))) (λ ts. Ok (done ++ ts))) e ∙ regroup X t done

text_refused : (row : CallAnswer (List ℕ)) (X : CallAnswer (List (List ℕ))) (f : CallFault) (done : List (List ℕ)) → row ≡ Err f
    → go_on (go_on row (λ t. go_on X (λ ts. Ok (t ∷ ts)))) (λ ts. Ok (done ++ ts)) ≡ Err f
text_refused row X f done e = ap (λ row. go_on (go_on row (λ t. go_on X (λ ts. Ok (t ∷ ts)))) (λ ts. Ok (done ++ ts))) e

-- one value's text taken
pub texts-step : (ps : List (Key × Value)) (i : ℕ) (key : Key) (v : Value) (t : List ℕ) (done : List (List ℕ)) → Some (key, v) ≡ slice_get ps i → text_row (data_of v) ≡ Ok t
    → go_on (texts_of (data_pairs (drop i ps))) (λ ts. Ok (done ++ ts)) ≡ go_on (texts_of (data_pairs (drop (i + 1) ps))) (λ ts. Ok ((done ++ t ∷ []) ++ ts))
texts-step [] i key v t done e r = search rules
texts-step (p ∷ ps) zero key v t done e r =
    let q : (key, v) ≡ p = cc in
    text_taken (text_row (data_of p.1)) (texts_of (data_pairs ps)) t done (sym (ap (λ q. text_row (data_of q.1)) q) ∙ r)
texts-step (p ∷ ps) (suc i) key v t done e r = let n : suc i + 1 ≡ suc (i + 1) = omega arith in rw n (texts-step ps i key v t done e r)

-- a value that has no text
pub texts-fault : (ps : List (Key × Value)) (i : ℕ) (key : Key) (v : Value) (f : CallFault) (done : List (List ℕ)) → Some (key, v) ≡ slice_get ps i → text_row (data_of v) ≡ Err f
    → go_on (texts_of (data_pairs (drop i ps))) (λ ts. Ok (done ++ ts)) ≡ Err f
texts-fault [] i key v f done e r = search rules
texts-fault (p ∷ ps) zero key v f done e r =
    let q : (key, v) ≡ p = cc in
    text_refused (text_row (data_of p.1)) (texts_of (data_pairs ps)) f done (sym (ap (λ q. text_row (data_of q.1)) q) ∙ r)
texts-fault (p ∷ ps) (suc i) key v f done e r = texts-fault ps i key v f done e r
