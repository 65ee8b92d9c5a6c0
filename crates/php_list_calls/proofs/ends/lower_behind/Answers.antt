use Rattle.std.proofs.Common.{rules, ◌≡◌, ◌≢◌, ◌∙◌, ◌+◌, ◌-◌, ◌<◌, ◌≤◌, ◌++◌, ◌∷◌, [], List, ℕ, suc, pos, map, take, drop, length, reverse, refl, sym, ap, subst, arith, is_some, if◌then◌else◌, IfOk, OnOk}
use Rattle.php_values.specs.Data.{data_of, array_of, array, array_pairs, data_pairs}
use Rattle.php_values.specs.Walks.{rest_of}
use Rattle.order_map.specs.Arrays.{pairs_of, next_of, keys_of}
use Rattle.php_list_calls.specs.Items.{items, items_of, values_of, key_value, empty, with_items, with_values, with_all}
use Rattle.std.proofs.lemmas.Int.{ints}
use Rattle.php_list_calls.proofs.Lasts.{lowered-below}
use Rattle.php_list_calls.proofs.ends.lower_behind.Goals as goal

pub lower_next-requires-clause-unused : goal.lower_next-requires-clause-unused
lower_next-requires-clause-unused c =
    let is : c.in-Int.n ≡ pos (next_of c.args.map.now - 1) = omega (arith, ints, c.in-Some.ensures, c.if-n-ge0.true, c.if-next-n.true) in
    let some : 0 < next_of c.args.map.now = omega (arith, ints, c.in-Some.ensures, c.if-n-ge0.true, c.if-next-n.true) in
    lowered-below c.in-Int.n c.args.key.now (next_of c.args.map.now) (keys_of (pairs_of c.args.map.now)) c.in-Int.is is some c.requires.distinct c.requires.below
