use Rattle.std.proofs.Common.{◌∙◌, sym, ap, length, subst, ◌<◌, slice_get}
use Rattle.order_map.specs.Arrays.{pairs_of, place_of}
use Rattle.order_map.proofs.Places.{place-some}
use Rattle.php_rest.proofs.Pairs.{one_left}
use Rattle.php_rest.proofs.turns.Turns.pair.Goals as goal

pub returns-in_default : goal.returns-in_default
returns-in_default c =
    let w = c.args.self.now in
    let s = place-some w.array.map.value w.number (subst (λ n. w.number < n) (c.len.ensures.count ∙ ap (λ m. length (pairs_of m)) c.as_ref-map.ensures) c.if-self-len.false) in
    absurd (c.in_default.not-Some s.0 (w.stands ∙ s.1))

pub returns : goal.returns
returns c =
    let w = c.args.self.now in
    let e = c.as_ref-map.ensures in
    one_left (pairs_of w.array.map.value) w.number _
    (c.pair.ensures w.number (ap (λ m. place_of m w.number) e ∙ sym w.stands ∙ c.in-Some.is) ∙ ap (λ m. slice_get (pairs_of m) w.number) e)
