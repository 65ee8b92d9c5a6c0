use Rattle.std.proofs.Common.{◌∙◌, ap, sym, subst, Ok, ◌<◌, ◌≤◌}
use Rattle.order_map.specs.Arrays.{pairs_of}
use Rattle.php_values.specs.Data.{array, array_of, data_pairs}
use Rattle.php_values.specs.Arithmetic.{with_missing, max_pairs}
use Rattle.php_values.proofs.Datas.{data-List, sized-big, sized-fits}
use Rattle.php_values.proofs.union.union.Goals as goal

pub returns-then-len-gt-MAX_PAIRS : goal.returns-then-len-gt-MAX_PAIRS
returns-then-len-gt-MAX_PAIRS c =
    let qs = data_pairs (pairs_of c.args.y.now) in
    let e = c.in_ok-add_missing.ensures ∙ ap (λ a. with_missing a qs) c.in_ok-map.ensures in
    λ no. sized-big c.add_missing.new.map _ e (subst (λ n. max_pairs < n) c.len.ensures.count c.if-len-gt-MAX_PAIRS.true)

pub returns : goal.returns
returns c =
    let qs = data_pairs (pairs_of c.args.y.now) in
    let e = c.in_ok-add_missing.ensures ∙ ap (λ a. with_missing a qs) c.in_ok-map.ensures in
    let own = ap array_of c.in_ok-array.ensures in
    sized-fits c.add_missing.new.map _ e (subst (λ n. n ≤ max_pairs) c.len.ensures.count c.if-len-gt-MAX_PAIRS.false) ∙ ap (λ a. Ok (array a)) (sym own) ∙ ap Ok (sym (data-List c.in_ok-array.array))
