use Rattle.std.proofs.Common.{rules, ◌≡◌, ◌≢◌, ◌∙◌, ◌+◌, ◌-◌, ◌<◌, ◌≤◌, ◌++◌, ◌∷◌, [], List, ℕ, suc, pos, map, take, drop, length, reverse, refl, sym, ap, subst, arith, is_some, if◌then◌else◌, IfOk, OnOk}
use Rattle.php_values.specs.Data.{data_of, array_of, array, array_pairs, data_pairs}
use Rattle.php_values.specs.Walks.{rest_of}
use Rattle.order_map.specs.Arrays.{pairs_of, next_of, keys_of}
use Rattle.php_list_calls.specs.Items.{items, items_of, values_of, key_value, empty, with_items, with_values, with_all}
use Rattle.php_list_calls.proofs.Steps.{items-go-on}
use Rattle.php_list_calls.proofs.build.add_items.Goals as goal

pub loop-number-preserved : goal.loop-number-preserved
loop-number-preserved c =
    items-go-on (array_of c.loop-number.map) (array_of c.add_item.new.map) (c.args.count - c.loop-number.number) (c.args.count - (c.loop-number.number + 1)) c.in-Some.key.now c.in-Some.value.now _ _ c.in-Some.ensures (omega (arith, c.loop-number-test.true)) c.in_ok-add_item-in-Some.ensures ∙ c.loop-number.invariant
