use Rattle.std.proofs.Common.{rules, ◌≡◌, ◌≢◌, ◌∙◌, ◌+◌, ◌-◌, ◌<◌, ◌≤◌, ◌++◌, ◌∷◌, [], List, ℕ, suc, pos, map, take, drop, length, reverse, refl, sym, ap, subst, arith, is_some, if◌then◌else◌, IfOk, OnOk}
use Rattle.php_values.specs.Data.{data_of, array_of, array, array_pairs, data_pairs}
use Rattle.php_values.specs.Walks.{rest_of}
use Rattle.order_map.specs.Arrays.{pairs_of, next_of, keys_of}
use Rattle.php_list_calls.specs.Items.{items, items_of, values_of, key_value, empty, with_items, with_values, with_all}
use Rattle.php_values.specs.Arithmetic.{sized_array, max_pairs}
use Rattle.php_values.proofs.Datas.{sized-big, sized-fits}
use Rattle.php_arguments.specs.Answers.{as_call}
use Rattle.php_list_calls.specs.ListCalls.{GivesValue}
use Rattle.php_list_calls.proofs.parts.sized_value.Goals as goal

pub returns-then-len-gt-MAX_PAIRS : goal.returns-then-len-gt-MAX_PAIRS
returns-then-len-gt-MAX_PAIRS c =
    λ _. ap as_call (sized-big c.args.map (array_of c.args.map) refl (subst (λ n. max_pairs < n) c.len.ensures.count c.if-len-gt-MAX_PAIRS.true))

pub returns : goal.returns
returns c =
    subst (λ e. GivesValue e c.array_value.result) (sym (ap as_call (sized-fits c.args.map (array_of c.args.map) refl (subst (λ n. n ≤ max_pairs) c.len.ensures.count c.if-len-gt-MAX_PAIRS.false)))) c.array_value.ensures
