use Rattle.std.proofs.Common.{◌≡◌, ◌∙◌, ap, sym, subst}
use Rattle.php_values.specs.Answers.{GivesData}
use Rattle.order_map.specs.MapView.{MapView}
use Rattle.php_values.specs.declared.value.Value.{Value}
use Rattle.php_values.specs.Data.{Data, data_of, array, array_of}
use Rattle.php_values.specs.Arithmetic.{sum_of, union}
use Rattle.php_values.proofs.Datas.{data-List}
use Rattle.php_values.proofs.union.add_to_array.Goals as goal

sums : (d e : Data) (m n m' n' : MapView Value) → d ≡ array (array_of m) → e ≡ array (array_of n) → m' ≡ m → n' ≡ n → union (array_of m') (array_of n') ≡ sum_of d e
sums d e m n m' n' a b p q = let s : sum_of d e ≡ union (array_of m) (array_of n) = λ i. sum_of (a i) (b i) in (λ i. union (array_of (p i)) (array_of (q i))) ∙ sym s

pub returns-in-List : goal.returns-in-List
returns-in-List c =
    let b = ap data_of c.in-List.is ∙ data-List c.in-List.y in
    subst (λ e. GivesData e c.union.result) (sums _ _ _ _ _ _ c.requires b c.as_ref.ensures c.as_ref-in-List.ensures) c.union.ensures
