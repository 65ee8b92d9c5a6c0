use Rattle.std.proofs.Common.{rules, ◌≡◌, ◌≢◌, ◌∙◌, ◌+◌, ◌-◌, ◌<◌, ◌≤◌, ◌++◌, ◌∷◌, [], List, ℕ, suc, pos, map, take, drop, length, reverse, refl, sym, ap, subst, arith, is_some, if◌then◌else◌, IfOk, OnOk}
use Rattle.php_values.specs.Data.{data_of, array_of, array, array_pairs, data_pairs}
use Rattle.php_values.specs.Walks.{rest_of}
use Rattle.order_map.specs.Arrays.{pairs_of, next_of, keys_of}
use Rattle.php_list_calls.specs.Items.{items, items_of, values_of, key_value, empty, with_items, with_values, with_all}
use Rattle.std.proofs.lemmas.List.{length-map}
use Rattle.php_list_calls.proofs.Changes.{push-done}
use Rattle.php_list_calls.proofs.ends.array_push.Goals as goal

pub returns : goal.returns
returns c =
    push-done _ _ _ _ _ _ _ _ _ _ _ _ c.in_ok-first.ensures c.in_ok-array.ensures c.in-None.ensures (sym (length-map _ data_of)) c.in_ok-map.ensures.map c.take_map.ensures.after c.behind_first.ensures c.in_ok-add_values.ensures c.size-count.ensures c.in_ok-put_first.ensures c.count_value.ensures
