use Rattle.std.proofs.Common.{rules, ◌≡◌, ◌≢◌, ◌∙◌, ◌+◌, ◌-◌, ◌<◌, ◌≤◌, ◌++◌, ◌∷◌, [], List, ℕ, suc, pos, map, take, drop, length, reverse, refl, sym, ap, subst, arith, is_some, if◌then◌else◌, IfOk, OnOk}
use Rattle.php_values.specs.Data.{data_of, array_of, array, array_pairs, data_pairs}
use Rattle.php_values.specs.Walks.{rest_of}
use Rattle.order_map.specs.Arrays.{pairs_of, next_of, keys_of}
use Rattle.php_list_calls.specs.Items.{items, items_of, values_of, key_value, empty, with_items, with_values, with_all}
use Rattle.php_list_calls.specs.Numbers.{best_of}
use Rattle.php_list_calls.specs.ListCalls.{GivesValue}
use Rattle.php_list_calls.proofs.Items.{walked}
use Rattle.php_list_calls.proofs.numbers.best_of.Goals as goal

pub returns : goal.returns
returns c =
    subst (λ es. GivesValue (best_of c.args.way (values_of es)) c.best_left.result) (walked c.args.array.now (rest_of c.new-walk.result) c.new-walk.ensures) c.best_left.ensures
