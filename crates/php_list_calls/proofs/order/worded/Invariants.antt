use Rattle.std.proofs.Common.{rules, ◌≡◌, ◌≢◌, ◌∙◌, ◌+◌, ◌-◌, ◌<◌, ◌≤◌, ◌++◌, ◌∷◌, [], List, ℕ, suc, pos, map, take, drop, length, reverse, refl, sym, ap, subst, arith, is_some, if◌then◌else◌, IfOk, OnOk}
use Rattle.php_values.specs.Data.{data_of, array_of, array, array_pairs, data_pairs}
use Rattle.php_values.specs.Walks.{rest_of}
use Rattle.order_map.specs.Arrays.{pairs_of, next_of, keys_of}
use Rattle.php_list_calls.specs.Items.{items, items_of, values_of, key_value, empty, with_items, with_values, with_all}
use Rattle.php_list_calls.specs.Orders.{is_number, is_word}
use Rattle.php_list_calls.specs.Ranks.{with_ranks, ranked_items, text_data}
use Rattle.php_values.specs.Data.{int}
use Rattle.php_list_calls.proofs.Orders.{all_pass}
use Rattle.php_list_calls.specs.Pairs.{lent_items}
use Rattle.php_list_calls.proofs.order.worded.Given as goal

abbrev pub invariant-loop-pair : goal.invariant-loop-pair
invariant-loop-pair l = record {
  all : all_pass is_word l.part (drop l.pair-index l.pairs) ≡ all_pass is_word l.part l.pairs;
  done : with_ranks text_data l.ranked.items ++ ranked_items l.part (lent_items (drop l.pair-index l.pairs)) ≡ ranked_items l.part (lent_items l.pairs);
}
