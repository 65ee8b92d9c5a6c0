use Rattle.std.proofs.Common.{rules, ◌≡◌, ◌≢◌, ◌∙◌, ◌+◌, ◌-◌, ◌<◌, ◌≤◌, ◌++◌, ◌∷◌, [], List, ℕ, suc, pos, map, take, drop, length, reverse, refl, sym, ap, subst, arith, is_some, if◌then◌else◌, IfOk, OnOk}
use Rattle.php_values.specs.Data.{data_of, array_of, array, array_pairs, data_pairs}
use Rattle.php_values.specs.Walks.{rest_of}
use Rattle.order_map.specs.Arrays.{pairs_of, next_of, keys_of}
use Rattle.php_list_calls.specs.Items.{items, items_of, values_of, key_value, empty, with_items, with_values, with_all}
use Rattle.php_list_calls.proofs.Steps.{unshift_big, unshift_fits}
use Rattle.php_list_calls.proofs.ends.unshifted.Goals as goal

pub returns-then-len-ge-MAX_PAIRS : goal.returns-then-len-ge-MAX_PAIRS
returns-then-len-ge-MAX_PAIRS c =
    λ _. unshift_big (data_of c.args.value.now) c.args.array.now c.len.result c.len.ensures.count c.if-len-ge-MAX_PAIRS.true

pub returns : goal.returns
returns c =
    unshift_fits (data_of c.args.value.now) c.args.array.now c.new-map.result c.len.result _ (array_of c.add_value.new.map) _ c.len.ensures.count c.if-len-ge-MAX_PAIRS.false c.new-map.ensures.pairs c.new-map.ensures.next c.in_ok-clone.ensures.cases c.in_ok-add_value.ensures c.in_ok-add_array.ensures
