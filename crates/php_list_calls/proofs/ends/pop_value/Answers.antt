use Rattle.std.proofs.Common.{rules, ◌≡◌, ◌≢◌, ◌∙◌, ◌+◌, ◌-◌, ◌<◌, ◌≤◌, ◌++◌, ◌∷◌, [], List, ℕ, suc, pos, map, take, drop, length, reverse, refl, sym, ap, subst, arith, is_some, if◌then◌else◌, IfOk, OnOk}
use Rattle.php_values.specs.Data.{data_of, array_of, array, array_pairs, data_pairs}
use Rattle.php_values.specs.Walks.{rest_of}
use Rattle.order_map.specs.Arrays.{pairs_of, next_of, keys_of}
use Rattle.php_list_calls.specs.Items.{items, items_of, values_of, key_value, empty, with_items, with_values, with_all}
use Rattle.php_list_calls.proofs.Items.{new-data}
use Rattle.php_list_calls.specs.Ends.{next_without}
use Rattle.php_list_calls.proofs.Lasts.{popped-last, value-last}
use Rattle.php_list_calls.proofs.ends.pop_value.Goals as goal

pub returns-in-Some-clause-value : goal.returns-in-Some-clause-value
returns-in-Some-clause-value c =
    value-last c.args.map.now (pairs_of c.pop.new.self) c.in-Some.key c.in-Some.value c.in-Some.ensures.pairs

pub returns-in-Some-clause-after : goal.returns-in-Some-clause-after
returns-in-Some-clause-after c =
    popped-last c.args.map.now c.lower_behind.new.map c.in-Some.key c.in-Some.value (c.in-Some.ensures.pairs ∙ ap (λ ps. ps ++ (c.in-Some.key, c.in-Some.value) ∷ []) (sym c.lower_behind.ensures.pairs)) (c.lower_behind.ensures.next ∙ ap (next_without c.in-Some.key) c.in-Some.ensures.next)
