use Rattle.std.proofs.Common.{rules, ◌≡◌, ◌≢◌, ◌∙◌, refl, ap, sym, subst, Ok, Err, Less, Equal, Greater, [], ◌∷◌, ◌++◌}
use Rattle.php_values.specs.declared.fault.ValueFault.TheVariants.{Memory, Kind}
use Rattle.php_values.specs.Data.{data_of}
use Rattle.php_values.specs.Looking.{optional}
use Rattle.php_values.specs.Compare.{first_order, order, order_pairs, in_right}
use Rattle.php_values.specs.Beside.{right_of}
use Rattle.php_values.specs.Ranking.{RankGives, order_beside}
use Rattle.php_values.specs.Meeting.{around}
use Rattle.php_values.proofs.Around.{goes-up, goes-on, ends, goes-in}
use Rattle.php_values.proofs.Meetings.{order-step}
use Rattle.php_values.proofs.order.walk_all.Goals.{in-Equal, in-Inside+in_ok-push-in-Inside}
use Rattle.php_values.proofs.order.walk_all.Goals as goal

pub loop-preserved-in_default : goal.loop-preserved-in_default
loop-preserved-in_default c =
    let none = ap (λ ps. order_pairs ps (right_of c.loop.beside)) c.in_default.ensures.left in
    c.loop.invariant ∙ goes-up first_order order_beside (Ok Equal) (λ x. refl) c.pop.new.self.items c.loop.above.items c.in-Some-pop.outer _ c.in-Some-pop.ensures.items none

pub returns-in_err-rank_found : goal.returns-in_err-rank_found
returns-in_err-rank_found c =
    let e = c.in-Some.ensures in
    let step = order-step c.loop.beside c.next.new.self _ _ _ e.left e.found e.right in
    let fact = λ (h : c.in_err-rank_found.field-0.0 ≢ Memory). c.loop.invariant ∙ ends first_order order_beside (Err c.in_err-rank_found.field-0.0) (λ x. refl) c.loop.above.items _ _ _ step (c.in_err-rank_found.ensures h) in
    search (rules, fact)

pub returns-in-Less : goal.returns-in-Less
returns-in-Less c =
    let e = c.in-Some.ensures in
    let step = order-step c.loop.beside c.next.new.self _ _ _ e.left e.found e.right in
    let x : in_right (Err Kind) (order (data_of c.in-Some.value.now)) (optional c.in-Some.other) ≡ Ok Less = search (rules, c.in_ok-rank_found.ensures) in
    c.loop.invariant ∙ ends first_order order_beside (Ok Less) (λ x. refl) c.loop.above.items _ _ _ step x

pub returns-in-Greater : goal.returns-in-Greater
returns-in-Greater c =
    let e = c.in-Some.ensures in
    let step = order-step c.loop.beside c.next.new.self _ _ _ e.left e.found e.right in
    let x : in_right (Err Kind) (order (data_of c.in-Some.value.now)) (optional c.in-Some.other) ≡ Ok Greater = search (rules, c.in_ok-rank_found.ensures) in
    c.loop.invariant ∙ ends first_order order_beside (Ok Greater) (λ x. refl) c.loop.above.items _ _ _ step x

pub loop-preserved : goal.loop-preserved
loop-preserved c =
    let e = c.in-Some.ensures in
    let step = order-step c.loop.beside c.next.new.self _ _ _ e.left e.found e.right in
    let met = in_right (Err Kind) (order (data_of c.in-Some.value.now)) (optional c.in-Some.other) in
    let ws = c.loop.above.items in
    elim c.match-branch-2.branch [
      | in-Equal w ↦
          let x : met ≡ Ok Equal = subst (λ m. RankGives met (Ok m)) w.in-Equal.is c.in_ok-rank_found.ensures in
          c.loop.invariant ∙ goes-on first_order order_beside (Ok Equal) (λ x. refl) ws _ _ _ step x ∙ sym (λ i. around first_order order_beside (w.above-is i).items (order_beside (w.beside-is i)))
      | in-Inside+in_ok-push-in-Inside w ↦
          let x : met ≡ order_beside w.in-Inside.inner = subst (λ m. RankGives met (Ok m)) w.in-Inside.is c.in_ok-rank_found.ensures in
          let p = w.in_ok-push-in-Inside.ensures.items ∙ ap (λ v. ws ++ v ∷ []) w.replace.ensures.value in
          c.loop.invariant ∙ goes-in first_order order_beside ws w.push.new.self.items c.next.new.self w.in-Inside.inner _ _ step x p
          ∙ sym (λ i. around first_order order_beside (w.above-is i).items (order_beside ((w.beside-is ∙ w.replace.ensures.after) i)))
    ]
