use Rattle.std.proofs.Common.{◌≡◌, ◌∙◌, refl, ap, sym, subst, true, false, ◌&&◌, Some, [], ◌∷◌, ◌++◌}
use Rattle.php_values.specs.Meeting.{around}
use Rattle.php_values.specs.Identity.{NextIs, same_both}
use Rattle.php_values.proofs.Around.{goes-up, goes-in, around-stop}
use Rattle.php_values.proofs.strict.walk_all.Goals.{in-Same, in-Inside+in_ok-push-in-Inside}
use Rattle.php_values.proofs.strict.walk_all.Goals as goal

pub loop-preserved-in_default : goal.loop-preserved-in_default
loop-preserved-in_default c =
    c.loop.invariant ∙ goes-up (λ a b. a && b) same_both true (λ x. refl) c.pop.new.self.items c.loop.above.items c.in-Some-pop.outer _ c.in-Some-pop.ensures.items c.in_default.ensures

pub returns-in-Different : goal.returns-in-Different
returns-in-Different c =
    let x : same_both c.loop.both ≡ false = subst (λ m. NextIs c.loop.both c.next_link.new.both (Some m)) c.in-Different.is c.in-Some.ensures in
    sym (c.loop.invariant ∙ ap (around (λ a b. a && b) same_both c.loop.above.items) x ∙ around-stop (λ a b. a && b) same_both c.loop.above.items false (λ x. refl))

pub loop-preserved : goal.loop-preserved
loop-preserved c =
    let ws = c.loop.above.items in
    let new = c.next_link.new.both in
    elim c.match-link.branch [
      | in-Same w ↦
          let x : same_both c.loop.both ≡ same_both new = subst (λ m. NextIs c.loop.both new (Some m)) w.in-Same.is c.in-Some.ensures in
          c.loop.invariant ∙ ap (around (λ a b. a && b) same_both ws) x ∙ sym (λ i. around (λ a b. a && b) same_both (w.above-is i).items (same_both (w.both-is i)))
      | in-Inside+in_ok-push-in-Inside w ↦
          let x : same_both c.loop.both ≡ (same_both w.in-Inside.inner && same_both new) = subst (λ m. NextIs c.loop.both new (Some m)) w.in-Inside.is c.in-Some.ensures in
          let p = w.in_ok-push-in-Inside.ensures.items ∙ ap (λ v. ws ++ v ∷ []) w.replace.ensures.value in
          c.loop.invariant ∙ goes-in (λ a b. a && b) same_both ws w.push.new.self.items new w.in-Inside.inner _ _ x refl p
          ∙ sym (λ i. around (λ a b. a && b) same_both (w.above-is i).items (same_both ((w.both-is ∙ w.replace.ensures.after) i)))
    ]
