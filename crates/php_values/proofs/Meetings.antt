-- Two arrays that are compared, and walks over them.
use Rattle.std.proofs.Common.{◌≡◌, ◌≢◌, ◌∙◌, ℕ, true, false, length, refl, sym, ap, rules, nat_eq, nat_cmp, Option, Some, None, option_map, Ok, Err, arith, if◌then◌else◌, Bor, Ordering}
use Rattle.std.specs.Option.{option_copied}
use Rattle.std.proofs.lemmas.Bool.Decides.{nat_tests}
use Rattle.order_map.specs.MapView.{MapView}
use Rattle.order_map.specs.Arrays.{pairs_of}
use Rattle.php_values.specs.declared.value.Value.{Value}
use Rattle.php_values.specs.declared.beside.Beside.{Beside}
use Rattle.php_values.specs.Data.{Data, null, truth, int, bytes, array, object, ArrayData, array_of, data_of, data_pairs, pair}
use Rattle.php_values.specs.Looking.{optional, with_array, two_arrays}
use Rattle.php_values.specs.Compare.{value_of, in_right, all_equal, loose_equal, loose_pairs, order, order_pairs, by_count, first_order}
use Rattle.php_values.specs.declared.fault.ValueFault.TheVariants.{Kind}
use Rattle.order_map.specs.declared.key.Key.{Key}
use Rattle.php_values.specs.Beside.{left_of, right_of}
use Rattle.php_values.specs.Meeting.{equal_beside}
use Rattle.php_values.specs.Ranking.{order_beside}
use Rattle.php_values.proofs.Datas.{count-data}

pub optional-copied : (o : Option (Bor Value)) → optional o ≡ option_map data_of (option_copied o)
optional-copied None = refl
optional-copied (Some v) = refl

abbrev some-or : {A : Type 0} → A → Option A → A
some-or d None = d
some-or d (Some x) = x

right-is : (c a b : ArrayData) (e : Data) → with_array c e ≡ Some (a, b) → (c ≡ a) × (e ≡ array b)
right-is c a b null h = search (rules, h)
right-is c a b (truth t) h = search (rules, h)
right-is c a b (int n) h = search (rules, h)
right-is c a b (bytes t) h = search (rules, h)
right-is c a b (array d) h = (ap (λ o. (some-or {A = ArrayData × ArrayData} (c, d) o).0) h, ap (λ o. array (some-or {A = ArrayData × ArrayData} (c, d) o).1) h)
right-is c a b (object n) h = search (rules, h)

-- what two values are that are both arrays
pub arrays-are : (d e : Data) (a b : ArrayData) → two_arrays d e ≡ Some (a, b) → (d ≡ array a) × (e ≡ array b)
arrays-are null e a b h = search (rules, h)
arrays-are (truth t) e a b h = search (rules, h)
arrays-are (int n) e a b h = search (rules, h)
arrays-are (bytes t) e a b h = search (rules, h)
arrays-are (array c) e a b h = let r = right-is c a b e h in (ap array r.0, r.1)
arrays-are (object n) e a b h = search (rules, h)

same-count : (m n : ℕ) → m ≡ n → nat_eq m n ≡ true
same-count m n h = grind (arith, nat_tests)

other-count : (m n : ℕ) → m ≢ n → nat_eq m n ≡ false
other-count m n h = grind (arith, nat_tests)

loose-both : (x y : MapView Value) → loose_equal (array (array_of x)) (array (array_of y))
    ≡ (if nat_eq (length (pairs_of x)) (length (pairs_of y)) then loose_pairs (data_pairs (pairs_of x)) (data_pairs (pairs_of y)) else Ok false)
loose-both x y = (λ i. if nat_eq (count-data (pairs_of x) i) (count-data (pairs_of y) i) then loose_pairs (data_pairs (pairs_of x)) (data_pairs (pairs_of y)) else Ok false)

loose-arrays : (d e : Data) (x y : MapView Value) → two_arrays d e ≡ Some (array_of x, array_of y)
    → loose_equal d e ≡ (if nat_eq (length (pairs_of x)) (length (pairs_of y)) then loose_pairs (data_pairs (pairs_of x)) (data_pairs (pairs_of y)) else Ok false)
loose-arrays d e x y h = let r = arrays-are d e (array_of x) (array_of y) h in (λ i. loose_equal (r.0 i) (r.1 i)) ∙ loose-both x y

pub equal-walk : (d e : Data) (x y : MapView Value) (b : Beside) → two_arrays d e ≡ Some (array_of x, array_of y) → length (pairs_of x) ≡ length (pairs_of y)
    → left_of b ≡ data_pairs (pairs_of x) → right_of b ≡ data_pairs (pairs_of y) → loose_equal d e ≡ equal_beside b
equal-walk d e x y b h n l r =
    loose-arrays d e x y h ∙ ap (λ t. if t then loose_pairs (data_pairs (pairs_of x)) (data_pairs (pairs_of y)) else Ok false) (same-count _ _ n) ∙ sym (λ i. loose_pairs (l i) (r i))

pub equal-counts : (d e : Data) (x y : MapView Value) → two_arrays d e ≡ Some (array_of x, array_of y) → length (pairs_of x) ≢ length (pairs_of y) → loose_equal d e ≡ Ok false
equal-counts d e x y h n =
    loose-arrays d e x y h ∙ ap (λ t. if t then loose_pairs (data_pairs (pairs_of x)) (data_pairs (pairs_of y)) else Ok false) (other-count _ _ n)

order-both : (x y : MapView Value) → order (array (array_of x)) (array (array_of y))
    ≡ by_count (nat_cmp (length (pairs_of x)) (length (pairs_of y))) (order_pairs (data_pairs (pairs_of x)) (data_pairs (pairs_of y)))
order-both x y = (λ i. by_count (nat_cmp (count-data (pairs_of x) i) (count-data (pairs_of y) i)) (order_pairs (data_pairs (pairs_of x)) (data_pairs (pairs_of y))))

-- two arrays are ordered by their counts, and then by a walk
pub order-arrays : (d e : Data) (x y : MapView Value) (o : Ordering) → two_arrays d e ≡ Some (array_of x, array_of y) → o ≡ nat_cmp (length (pairs_of x)) (length (pairs_of y))
    → order d e ≡ by_count o (order_pairs (data_pairs (pairs_of x)) (data_pairs (pairs_of y)))
order-arrays d e x y o h c =
    let r = arrays-are d e (array_of x) (array_of y) h in
    (λ i. order (r.0 i) (r.1 i)) ∙ order-both x y ∙ sym (ap (λ o. by_count o (order_pairs (data_pairs (pairs_of x)) (data_pairs (pairs_of y)))) c)

-- one pair of a walk
pub equal-step : (b n : Beside) (k : Key) (d : Data) (o : Option Data) → left_of b ≡ pair k d (left_of n) → o ≡ value_of k (right_of b) → right_of n ≡ right_of b
    → equal_beside b ≡ all_equal (in_right (Ok false) (loose_equal d) o) (equal_beside n)
equal-step b n k d o l f r = (λ i. loose_pairs (l i) (right_of b)) ∙ (λ i. all_equal (in_right (Ok false) (loose_equal d) (sym f i)) (loose_pairs (left_of n) (sym r i)))

pub order-step : (b n : Beside) (k : Key) (d : Data) (o : Option Data) → left_of b ≡ pair k d (left_of n) → o ≡ value_of k (right_of b) → right_of n ≡ right_of b
    → order_beside b ≡ first_order (in_right (Err Kind) (order d) o) (order_beside n)
order-step b n k d o l f r = (λ i. order_pairs (l i) (right_of b)) ∙ (λ i. first_order (in_right (Err Kind) (order d) (sym f i)) (order_pairs (left_of n) (sym r i)))
