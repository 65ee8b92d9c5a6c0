use Rattle.std.proofs.Common.{◌≡◌, ◌∙◌, sym, subst}
use Rattle.php_values.specs.Data.{array_of, data_of}
use Rattle.php_arguments.specs.Results.{array_list, IsListed}
use Rattle.php_arguments.proofs.Lists.{length-list, listed-full, listed-fits, pushed-list}
use Rattle.php_arguments.proofs.list.push_value.Goals as goal

pub returns-then-len-ge-MAX_PAIRS : goal.returns-then-len-ge-MAX_PAIRS
returns-then-len-ge-MAX_PAIRS c ds e _ =
    listed-full _ ds _ (c.len.ensures.count ∙ length-list c.args.map.now ds e) c.if-len-ge-MAX_PAIRS.true

pub returns-in-Ok : goal.returns-in-Ok
returns-in-Ok c ds e =
    let fits = listed-fits _ ds (data_of c.args.value) (c.len.ensures.count ∙ length-list c.args.map.now ds e) c.if-len-ge-MAX_PAIRS.false in
    let pushed = pushed-list c.args.map.now c.append.new.self c.args.value ds e c.in-Ok.ensures.pairs c.in-Ok.ensures.next in
    subst (λ answer. IsListed answer (array_of c.append.new.self)) (sym fits) pushed
