use Rattle.std.proofs.Common.{◌∙◌, sym, ap, length, subst, ◌<◌}
use Rattle.order_map.specs.Arrays.{pairs_of}
use Rattle.order_map.proofs.Places.{place-some}
use Rattle.php_rest.proofs.Pairs.{dropped}
use Rattle.php_rest.proofs.turns.Turns.behind.Goals as goal

pub returns-in_default : goal.returns-in_default
returns-in_default c =
    let w = c.args.self in
    let s = place-some w.array.map.value w.number (subst (λ n. w.number < n) (c.len.ensures.count ∙ ap (λ m. length (pairs_of m)) c.as_ref.ensures) c.if-self-len.false) in
    absurd (c.in_default.not-Some s.0 (w.stands ∙ s.1))

pub returns : goal.returns
returns c = sym (dropped (pairs_of c.args.self.array.map.value) c.args.self.number)
