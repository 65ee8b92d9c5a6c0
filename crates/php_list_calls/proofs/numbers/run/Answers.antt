use Rattle.std.proofs.Common.{rules, ◌≡◌, ◌≢◌, ◌∙◌, ◌+◌, ◌-◌, ◌<◌, ◌≤◌, ◌++◌, ◌∷◌, [], List, ℕ, suc, pos, map, take, drop, length, reverse, refl, sym, ap, subst, arith, is_some, if◌then◌else◌, IfOk, OnOk}
use Rattle.php_values.specs.Data.{data_of, array_of, array, array_pairs, data_pairs}
use Rattle.php_values.specs.Walks.{rest_of}
use Rattle.order_map.specs.Arrays.{pairs_of, next_of, keys_of}
use Rattle.php_list_calls.specs.Items.{items, items_of, values_of, key_value, empty, with_items, with_values, with_all}
use Rattle.php_list_calls.proofs.Steps.{run-begins, run-goes-on}
use Rattle.php_list_calls.proofs.numbers.run.Goals as goal

pub loop-far-init : goal.loop-far-init
loop-far-init c = run-begins c.new-list.result c.args.direction _ c.args.count c.new-list.ensures.pairs c.new-list.ensures.next

pub loop-far-preserved : goal.loop-far-preserved
loop-far-preserved c =
    run-goes-on (array_of c.loop-far.list) (array_of c.add_away.new.list) c.args.direction _ c.loop-far.far (c.args.count - c.loop-far.far) (c.args.count - (c.loop-far.far + 1)) (omega (arith, c.loop-far-test.true)) c.in_ok-add_away.ensures
    ∙ c.loop-far.invariant
