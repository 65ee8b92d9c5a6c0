-- One level of a read, over plain values.
use Rattle.std.proofs.Common.{◌≡◌, refl, sym, subst, ap, ◌∙◌, List, Option, option_map, Ok, Err}
use Rattle.std.specs.declared.result.Result.{Result}
use Rattle.order_map.specs.declared.key.Key.{Key}
use Rattle.order_map.specs.MapView.{MapView}
use Rattle.order_map.specs.Arrays.{pairs_of, look}
use Rattle.php_values.specs.declared.value.Value.{Value, fold-roll-Value}
use Rattle.php_values.specs.declared.value.Value.TheOpen.{Value-F}
use Rattle.php_values.specs.declared.value.ArrayValue.{ArrayValue}
use Rattle.php_values.specs.declared.value.Value.TheVariants as kind
use Rattle.php_values.specs.Data.{Data, null, ArrayData, data_of, array_of, data_step, array_step}
use Rattle.php_values.specs.Arithmetic.{value_in}
use Rattle.php_values.proofs.Datas.{data-List, look-data}
use Rattle.php_world.specs.declared.fault.PlaceFault.{PlaceFault}
use Rattle.php_world.specs.declared.reading.Reading.{Reading}
use Rattle.php_world.specs.Answers.{Answer, and_then, TellsData}
use Rattle.php_world.specs.Steps.{Step, key_at, or_null, item_at, index_of, read_by}

pub tells_of : (r : Result Value PlaceFault) (x y : Answer Data) → y ≡ x → TellsData x r → TellsData y r
tells_of r x y e h = subst (λ y. TellsData y r) (sym e) h

-- what is read at a key: its value, or null
pub item_there : (r : Result Value PlaceFault) (how : Reading) (path : List Step) (key : Answer Key) (k : Key) (o : Option Value) (d : Data) (m : MapView Value) → key ≡ Ok k → o ≡ look k (pairs_of m) → or_null (option_map data_of o) ≡ d
    → TellsData (read_by how path d) r → TellsData (and_then key (λ k. read_by how path (or_null (value_in k (array_of m))))) r
item_there r how path key k o d m is at e h =
    tells_of r (read_by how path d) (and_then key (λ k. read_by how path (or_null (value_in k (array_of m)))))
    (ap (λ key. and_then key (λ k. read_by how path (or_null (value_in k (array_of m))))) is ∙ ap (λ v. read_by how path (or_null v)) (sym (look-data k (pairs_of m)) ∙ ap (option_map data_of) (sym at)) ∙ ap (read_by how path) e) h

key_first : (how : Reading) (path : List Step) (key : Answer Key) (a : ArrayData) → and_then (and_then key (λ k. Ok (item_at k a))) (read_by how path) ≡ and_then key (λ k. read_by how path (or_null (value_in k a)))
key_first how path (Ok k) a = refl
key_first how path (Err fault) a = refl

-- an array's item
pub in_array : (r : Result Value PlaceFault) (how : Reading) (path : List Step) (key : Data) (v : Value) (a : ArrayValue) → v ≡ kind.List a
    → TellsData (and_then (key_at key) (λ k. read_by how path (or_null (value_in k (array_of a.map.value))))) r → TellsData (and_then (index_of how key (data_of v)) (read_by how path)) r
in_array r how path key v a is h =
    tells_of r (and_then (key_at key) (λ k. read_by how path (or_null (value_in k (array_of a.map.value))))) (and_then (index_of how key (data_of v)) (read_by how path))
    (ap (λ d. and_then (index_of how key d) (read_by how path)) (ap data_of is ∙ data-List a) ∙ key_first how path (key_at key) (array_of a.map.value)) h

pub data-Null : data_of kind.Null ≡ null
data-Null = ap data_of (sym kind.rolls-Null) ∙ fold-roll-Value Data ArrayData data_step array_step Value-F.Null
