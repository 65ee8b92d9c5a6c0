use Rattle.std.proofs.Common.{rules, ◌≡◌, ◌≢◌, ◌∙◌, ◌+◌, ◌-◌, ◌<◌, ◌≤◌, ◌++◌, ◌∷◌, [], List, ℕ, suc, pos, map, take, drop, length, reverse, refl, sym, ap, subst, arith, is_some, if◌then◌else◌, IfOk, OnOk}
use Rattle.php_values.specs.Data.{data_of, array_of, array, array_pairs, data_pairs}
use Rattle.php_values.specs.Walks.{rest_of}
use Rattle.order_map.specs.Arrays.{pairs_of, next_of, keys_of}
use Rattle.php_list_calls.specs.Items.{items, items_of, values_of, key_value, empty, with_items, with_values, with_all}
use Rattle.php_list_calls.proofs.Items.{new-data}
use Rattle.php_list_calls.specs.Looking.{slice_start, slice_count}
use Rattle.std.proofs.lemmas.Int.{to_z-of_z}
use Rattle.php_list_calls.proofs.Steps.{sliced}
use Rattle.php_list_calls.proofs.parts.slice.Goals as goal

pub returns : goal.returns
returns c =
    let fits = c.ranges.start in
    let first = simp to_z-of_z at c.slice_start-first.ensures in
    sliced (array_of c.new-map.result) _ c.args.array.now c.slice_start-first.result c.slice_count-many.result c.args.start c.args.count (rest_of c.pass_over.new.walk) (new-data c.new-map.result c.new-map.ensures.pairs c.new-map.ensures.next)
    (first ∙ ap (λ n. slice_start n c.args.start) c.len-len.ensures.count)
    (c.slice_count-many.ensures ∙ ap (λ n. slice_count n c.args.count) (c.saturating_sub-left.ensures ∙ ap (λ n. n - c.slice_start-first.result) c.len-len.ensures.count))
    (c.pass_over.ensures ∙ ap (drop c.slice_start-first.result) c.new-walk.ensures) c.in_ok-add_items.ensures
