use Rattle.std.proofs.Common.{◌∙◌, sym, subst, ◌<◌}
use Rattle.order_map.specs.Arrays.{pairs_of}
use Rattle.order_map.proofs.Places.{place-some}
use Rattle.php_values.proofs.Walking.{one_left}
use Rattle.php_values.proofs.walk.Walk.next.Goals as goal

pub returns-in_default : goal.returns-in_default
returns-in_default c =
    let w = c.args.self.now in
    let s = place-some w.map.now w.number (subst (λ n. w.number < n) c.len.ensures.count c.if-self-len.false) in
    absurd (c.in_default.not-Some s.0 (w.stands ∙ s.1))

pub returns : goal.returns
returns c =
    let w = c.args.self.now in
    one_left (pairs_of w.map.now) w.number _ (c.pair.ensures w.number (sym w.stands ∙ c.in-Some.is))
