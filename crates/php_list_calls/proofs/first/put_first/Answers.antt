use Rattle.std.proofs.Common.{rules, ◌≡◌, ◌≢◌, ◌∙◌, ◌+◌, ◌-◌, ◌<◌, ◌≤◌, ◌++◌, ◌∷◌, [], List, ℕ, suc, pos, map, take, drop, length, reverse, refl, sym, ap, subst, arith, is_some, if◌then◌else◌, IfOk, OnOk}
use Rattle.php_values.specs.Data.{data_of, array_of, array, array_pairs, data_pairs}
use Rattle.php_values.specs.Walks.{rest_of}
use Rattle.order_map.specs.Arrays.{pairs_of, next_of, keys_of}
use Rattle.php_list_calls.specs.Items.{items, items_of, values_of, key_value, empty, with_items, with_values, with_all}
use Rattle.php_values.proofs.Datas.{data-List}
use Rattle.php_arguments.specs.Answers.{Ok, Err}
use Rattle.php_arguments.specs.Answers.{datas}
use Rattle.php_list_calls.specs.Firsts.{with_first}
use Rattle.php_list_calls.proofs.first.put_first.Goals as goal

pub returns : goal.returns
returns c =
    c.exchange_first-old.ensures.after ∙ ap (λ d. with_first d (datas c.args.args.now)) (data-List c.in_ok-array.array ∙ ap (λ m. array (array_of m)) c.in_ok-array.ensures)
