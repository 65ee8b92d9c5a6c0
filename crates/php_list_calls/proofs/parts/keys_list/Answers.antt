use Rattle.std.proofs.Common.{rules, ◌≡◌, ◌≢◌, ◌∙◌, ◌+◌, ◌-◌, ◌<◌, ◌≤◌, ◌++◌, ◌∷◌, [], List, ℕ, suc, pos, map, take, drop, length, reverse, refl, sym, ap, subst, arith, is_some, if◌then◌else◌, IfOk, OnOk}
use Rattle.php_values.specs.Data.{data_of, array_of, array, array_pairs, data_pairs}
use Rattle.php_values.specs.Walks.{rest_of}
use Rattle.order_map.specs.Arrays.{pairs_of, next_of, keys_of}
use Rattle.php_list_calls.specs.Items.{items, items_of, values_of, key_value, empty, with_items, with_values, with_all}
use Rattle.php_list_calls.proofs.Steps.{list-begins}
use Rattle.php_list_calls.proofs.parts.keys_list.Goals as goal

pub loop-key-init : goal.loop-key-init
loop-key-init c =
    list-begins (λ e. key_value e.0) c.new-list.result c.args.array.now (rest_of c.new-walk.result) c.new-list.ensures.pairs c.new-list.ensures.next c.new-walk.ensures
