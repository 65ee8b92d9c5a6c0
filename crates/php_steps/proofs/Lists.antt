-- Arrays of no element and of one.
use Rattle.std.proofs.Common.{◌≡◌, pos, List, [], ap, ◌∙◌}
use Rattle.order_map.specs.declared.key.Key.TheVariants.{Int}
use Rattle.order_map.specs.MapView.{MapView}
use Rattle.order_map.specs.Keys.{next_after}
use Rattle.order_map.specs.Arrays.{pairs_of, next_of, put}
use Rattle.php_values.specs.declared.value.Value.{Value}
use Rattle.php_values.specs.declared.value.ArrayValue.{ArrayValue}
use Rattle.php_values.specs.declared.value.Value.TheVariants as kind
use Rattle.php_values.specs.Data.{array, of_pairs, data_of, data_pairs}
use Rattle.php_values.proofs.Datas.{data-List}
use Rattle.php_meaning.specs.Constants.{no_elements}
use Rattle.php_meaning.specs.Operators.{one_element}

pub empty_list : (a : ArrayValue) (m : MapView Value) → a.map.value ≡ m → pairs_of m ≡ [] → next_of m ≡ 0 → data_of (kind.List a) ≡ no_elements
empty_list a m am p n = data-List a ∙ (λ i. array (of_pairs (data_pairs (pairs_of (am i))) (next_of (am i)))) ∙ (λ i. array (of_pairs (data_pairs (p i)) (n i)))

pub one_list : (a : ArrayValue) (m o : MapView Value) (v : Value) → a.map.value ≡ m → pairs_of o ≡ [] → next_of o ≡ 0
    → pairs_of m ≡ put (Int (pos 0)) v (pairs_of o) → next_of m ≡ next_after (Int (pos 0)) (next_of o) → data_of (kind.List a) ≡ one_element (data_of v)
one_list a m o v am p n ps ns =
    let q = ps ∙ ap (put (Int (pos 0)) v) p in
    let r = ns ∙ ap (next_after (Int (pos 0))) n in
    data-List a ∙ (λ i. array (of_pairs (data_pairs (pairs_of (am i))) (next_of (am i)))) ∙ (λ i. array (of_pairs (data_pairs (q i)) (r i)))
