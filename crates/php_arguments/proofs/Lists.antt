-- Lists of values as data.
use Rattle.std.proofs.Common.{◌≡◌, ℕ, Bool, true, false, Ok, Err, nat_le, if◌then◌else◌, ◌<◌, List, [], ◌∷◌, ◌++◌, ◌+◌, ◌≤◌, pos, length, length-append, refl, sym, ap, ◌∙◌, arith, subst}
use Rattle.order_map.specs.declared.key.Key.{Key}
use Rattle.order_map.specs.declared.key.Key.TheVariants.{Int}
use Rattle.order_map.specs.MapView.{MapView}
use Rattle.order_map.specs.Arrays.{pairs_of, next_of}
use Rattle.php_values.specs.declared.value.Value.{Value}
use Rattle.php_values.specs.Data.{Data, ArrayData, of_pairs, array_pairs, array_next, Pairs, no_pairs, pair, count_of, data_of, data_pairs, array_of}
use Rattle.php_values.specs.Arithmetic.{put_last}
use Rattle.php_values.proofs.Datas.{data_pairs-push, count-data}
use Rattle.std.proofs.lemmas.Bool.Decides.{nat_tests}
use Rattle.php_values.specs.Arithmetic.{max_pairs}
use Rattle.php_arguments.specs.declared.fault.CallFault.TheVariants.{Size}
use Rattle.php_arguments.specs.Results.{numbered, array_list, listed}

pub count-numbered : (n : ℕ) (ds : List Data) → count_of (numbered n ds) ≡ length ds
count-numbered n [] = refl
count-numbered n (d ∷ ds) = let h = count-numbered (n + 1) ds in omega (arith, h)

-- a list's array has as many pairs
pub length-list : (m : MapView Value) (ds : List Data) → array_of m ≡ array_list ds → length (pairs_of m) ≡ length ds
length-list m ds e = sym (count-data (pairs_of m)) ∙ ap (λ a. count_of (array_pairs a)) e ∙ count-numbered 0 ds

put_last-numbered : (n k : ℕ) (d : Data) (ds : List Data) → k ≡ n + length ds → put_last (Int (pos k)) d (numbered n ds) ≡ numbered n (ds ++ d ∷ [])
put_last-numbered n k d [] e = let z : k ≡ n = omega (arith, e) in ap (λ k. pair (Int (pos k)) d no_pairs) z
put_last-numbered n k d (c ∷ ds) e = ap (pair (Int (pos n)) c) (put_last-numbered (n + 1) k d ds (omega (arith, e)))

-- a value behind those of a list, under the next key
pub pushed-list : (m new : MapView Value) (v : Value) (ds : List Data) → array_of m ≡ array_list ds → pairs_of new ≡ pairs_of m ++ (Int (pos (next_of m)), v) ∷ [] → next_of new ≡ next_of m + 1
    → array_of new ≡ array_list (ds ++ data_of v ∷ [])
pushed-list m new v ds e pairs next =
    let k : next_of m ≡ length ds = ap array_next e in
    let all = ap data_pairs pairs ∙ data_pairs-push (pairs_of m) (Int (pos (next_of m))) v ∙ ap (put_last (Int (pos (next_of m))) (data_of v)) (ap array_pairs e)
    ∙ put_last-numbered 0 (next_of m) (data_of v) ds (omega (arith, k)) in
    let count : next_of new ≡ length (ds ++ data_of v ∷ []) = grind (arith, k, next, length-append) in
    λ i. of_pairs (all i) (count i)

listed_by : (b : Bool) (ds : List Data) (d : Data) → nat_le max_pairs (length ds) ≡ b → listed ds d ≡ (if b then Err Size else Ok (ds ++ d ∷ []))
listed_by b ds d e = ap (λ b. if b then Err Size else Ok (ds ++ d ∷ [])) e

pub listed-full : (n : ℕ) (ds : List Data) (d : Data) → n ≡ length ds → max_pairs ≤ n → listed ds d ≡ Err Size
listed-full n ds d e h = listed_by true ds d (grind (arith, nat_tests))

pub listed-fits : (n : ℕ) (ds : List Data) (d : Data) → n ≡ length ds → n < max_pairs → listed ds d ≡ Ok (ds ++ d ∷ [])
listed-fits n ds d e h = listed_by false ds d (grind (arith, nat_tests))
