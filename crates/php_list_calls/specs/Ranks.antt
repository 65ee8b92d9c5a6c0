-- What items are sorted by, taken out of them.
use Rattle.std.specs.Prelude.{List, [], ◌∷◌, ℕ, ℤ, Bool, map, if◌then◌else◌}
use Rattle.std.specs.declared.option.Option.{Option}
use Rattle.std.specs.declared.option.Option.TheVariants.{Some, None}
use Rattle.std.specs.Borrow.{Bor}
use Rattle.stable_sort.specs.declared.Ranked.{Ranked}
use Rattle.php_values.specs.Data.{Data, null, truth, int, bytes, array, object}
use Rattle.php_values.specs.Convert.{is_numeric}
use Rattle.php_list_calls.specs.declared.pairs.Pair.{Pair}
use Rattle.php_list_calls.specs.declared.order.Part.{Part}
use Rattle.php_list_calls.specs.declared.order.Way.{Way}
use Rattle.php_list_calls.specs.declared.order.Way.TheVariants.{Rising, Falling}
use Rattle.php_list_calls.specs.Items.{Item}
use Rattle.php_list_calls.specs.Pairs.{lent_item}
use Rattle.php_list_calls.specs.Orders.{ranked_by}

abbrev pub number_in : Data → Option ℤ
number_in null = None
number_in (truth b) = None
number_in (int n) = Some n
number_in (bytes t) = None
number_in (array a) = None
number_in (object n) = None

-- a text that is no number
abbrev pub word : List ℕ → Option (List ℕ)
word t = if is_numeric t then None else Some t

abbrev pub word_in : Data → Option (List ℕ)
word_in null = None
word_in (truth b) = None
word_in (int n) = None
word_in (bytes t) = word t
word_in (array a) = None
word_in (object n) = None

abbrev pub lent : Option (Bor (List ℕ)) → Option (List ℕ)
lent None = None
lent (Some t) = Some t.now

-- pairs with what they are sorted by, and items with the same
abbrev pub with_ranks : {K : Type 0} → (K → Data) → List (Ranked K Pair) → List (Data × Item)
with_ranks rank rs = map (λ r. (rank r.rank, lent_item r.thing)) rs

abbrev pub ranked_items : Part → List Item → List (Data × Item)
ranked_items part es = map (λ e. (ranked_by part e, e)) es

abbrev pub text_data : Bor (List ℕ) → Data
text_data t = bytes t.now

-- whether one thing stands before another by a test of less on their ranks
abbrev pub earlier : {K : Type 0} → (K → K → Bool) → Way → Ranked K Pair → Ranked K Pair → Bool
earlier lt Rising x y = lt x.rank y.rank
earlier lt Falling x y = lt y.rank x.rank
