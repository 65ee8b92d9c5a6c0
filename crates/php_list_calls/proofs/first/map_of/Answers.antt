use Rattle.std.proofs.Common.{rules, ◌≡◌, ◌≢◌, ◌∙◌, ◌+◌, ◌-◌, ◌<◌, ◌≤◌, ◌++◌, ◌∷◌, [], List, ℕ, suc, pos, map, take, drop, length, reverse, refl, sym, ap, subst, arith, is_some, if◌then◌else◌, IfOk, OnOk}
use Rattle.php_values.specs.Data.{data_of, array_of, array, array_pairs, data_pairs}
use Rattle.php_values.specs.Walks.{rest_of}
use Rattle.order_map.specs.Arrays.{pairs_of, next_of, keys_of}
use Rattle.php_list_calls.specs.Items.{items, items_of, values_of, key_value, empty, with_items, with_values, with_all}
use Rattle.php_values.proofs.Datas.{data-List}
use Rattle.php_arguments.specs.Answers.{Ok, Err}
use Rattle.php_list_calls.specs.Firsts.{array_in}
use Rattle.php_list_calls.proofs.first.map_of.Goals as goal

pub returns-in-List : goal.returns-in-List
returns-in-List c =
    subst (λ a. IfOk c.own_map.result (λ m. array_of m ≡ a)) (sym (ap array_in (ap data_of c.in-List.is ∙ data-List c.in-List.array))) c.own_map.ensures
