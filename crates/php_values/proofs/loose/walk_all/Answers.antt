use Rattle.std.proofs.Common.{rules, ◌≡◌, ◌≢◌, ◌∙◌, refl, ap, sym, subst, Ok, Err, true, false, [], ◌∷◌, ◌++◌}
use Rattle.php_values.specs.declared.fault.ValueFault.TheVariants.{Memory}
use Rattle.php_values.specs.Data.{data_of}
use Rattle.php_values.specs.Looking.{optional}
use Rattle.php_values.specs.Compare.{all_equal, loose_equal, loose_pairs, in_right}
use Rattle.php_values.specs.Beside.{right_of}
use Rattle.php_values.specs.Meeting.{MeetGives, equal_beside, around}
use Rattle.php_values.proofs.Around.{goes-up, goes-on, ends, goes-in}
use Rattle.php_values.proofs.Meetings.{equal-step}
use Rattle.php_values.proofs.loose.walk_all.Goals.{in-Same, in-Inside+in_ok-push-in-Inside}
use Rattle.php_values.proofs.loose.walk_all.Goals as goal

pub loop-preserved-in_default : goal.loop-preserved-in_default
loop-preserved-in_default c =
    let none = ap (λ ps. loose_pairs ps (right_of c.loop.beside)) c.in_default.ensures.left in
    c.loop.invariant ∙ goes-up all_equal equal_beside (Ok true) (λ x. refl) c.pop.new.self.items c.loop.above.items c.in-Some-pop.outer _ c.in-Some-pop.ensures.items none

pub returns-in_err-meet_found : goal.returns-in_err-meet_found
returns-in_err-meet_found c =
    let e = c.in-Some.ensures in
    let step = equal-step c.loop.beside c.next.new.self _ _ _ e.left e.found e.right in
    let fact = λ (h : c.in_err-meet_found.field-0.0 ≢ Memory). c.loop.invariant ∙ ends all_equal equal_beside (Err c.in_err-meet_found.field-0.0) (λ x. refl) c.loop.above.items _ _ _ step (c.in_err-meet_found.ensures h) in
    search (rules, fact)

pub returns-in-Different : goal.returns-in-Different
returns-in-Different c =
    let e = c.in-Some.ensures in
    let step = equal-step c.loop.beside c.next.new.self _ _ _ e.left e.found e.right in
    let x : in_right (Ok false) (loose_equal (data_of c.in-Some.value.now)) (optional c.in-Some.other) ≡ Ok false = search (rules, c.in_ok-meet_found.ensures) in
    c.loop.invariant ∙ ends all_equal equal_beside (Ok false) (λ x. refl) c.loop.above.items _ _ _ step x

pub loop-preserved : goal.loop-preserved
loop-preserved c =
    let e = c.in-Some.ensures in
    let step = equal-step c.loop.beside c.next.new.self _ _ _ e.left e.found e.right in
    let met = in_right (Ok false) (loose_equal (data_of c.in-Some.value.now)) (optional c.in-Some.other) in
    let ws = c.loop.above.items in
    elim c.match-branch-2.branch [
      | in-Same w ↦
          let x : met ≡ Ok true = subst (λ m. MeetGives met (Ok m)) w.in-Same.is c.in_ok-meet_found.ensures in
          c.loop.invariant ∙ goes-on all_equal equal_beside (Ok true) (λ x. refl) ws _ _ _ step x ∙ sym (λ i. around all_equal equal_beside (w.above-is i).items (equal_beside (w.beside-is i)))
      | in-Inside+in_ok-push-in-Inside w ↦
          let x : met ≡ equal_beside w.in-Inside.inner = subst (λ m. MeetGives met (Ok m)) w.in-Inside.is c.in_ok-meet_found.ensures in
          let p = w.in_ok-push-in-Inside.ensures.items ∙ ap (λ v. ws ++ v ∷ []) w.replace.ensures.value in
          c.loop.invariant ∙ goes-in all_equal equal_beside ws w.push.new.self.items c.next.new.self w.in-Inside.inner _ _ step x p
          ∙ sym (λ i. around all_equal equal_beside (w.above-is i).items (equal_beside ((w.beside-is ∙ w.replace.ensures.after) i)))
    ]
