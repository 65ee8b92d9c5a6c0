use Rattle.std.proofs.Common.{rules, ◌≡◌, ◌≢◌, ◌∙◌, ◌+◌, ◌-◌, ◌<◌, ◌≤◌, ◌++◌, ◌∷◌, [], List, ℕ, suc, pos, map, take, drop, length, reverse, refl, sym, ap, subst, arith, is_some, if◌then◌else◌, IfOk, OnOk}
use Rattle.php_values.specs.Data.{data_of, array_of, array, array_pairs, data_pairs}
use Rattle.php_values.specs.Walks.{rest_of}
use Rattle.order_map.specs.Arrays.{pairs_of, next_of, keys_of}
use Rattle.php_list_calls.specs.Items.{items, items_of, values_of, key_value, empty, with_items, with_values, with_all}
use Rattle.order_map.specs.Keys.{has_key}
use Rattle.php_list_calls.proofs.Noted.{looked, noted}
use Rattle.php_list_calls.proofs.sets.was_noted.Goals as goal

pub returns-clause-was : goal.returns-clause-was
returns-clause-was c =
    c.is_some.ensures ∙ ap is_some c.in_ok-old.ensures.old ∙ looked c.args.text (pairs_of c.args.texts.now)

pub returns-clause-noted : goal.returns-clause-noted
returns-clause-noted c =
    let ps = pairs_of c.args.texts.now in
    let was = c.is_some.ensures ∙ ap is_some c.in_ok-old.ensures.old ∙ looked c.args.text ps in
    ap keys_of c.in_ok-old.ensures.pairs ∙ noted c.args.text _ ps ∙ ap (λ b. if b then keys_of ps else keys_of ps ++ c.args.text ∷ []) (sym was)
