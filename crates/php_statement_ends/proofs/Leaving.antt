-- Loops and `switch` behind a `break` or a `continue`, over plain values.
use Rattle.std.proofs.Common.{◌≡◌, ℕ, zero, suc, ◌<◌, ◌-◌, sym, ap, ◌∙◌, refl, arith}
use Rattle.php_meaning.specs.World.{World}
use Rattle.php_meaning.specs.Course.{Then, Does, Signal, Normal, Breaks, Continues}
use Rattle.php_meaning.specs.Statements.{looped, switched}
use Rattle.php_rest.specs.declared.now.Ending.{Ending}
use Rattle.php_rest.specs.declared.now.Ending.TheVariants as ending
use Rattle.php_rest.specs.Rest.{signal_of}
use Rattle.php_statement_ends.specs.Left.{after_break, after_continue}

pub break-more : (n : ℕ) → 0 < n → Breaks (n - 1) ≡ after_break n
break-more zero h = absurd (omega (arith, h))
break-more (suc n) h = let e : suc n - 1 ≡ n = omega arith in ap Breaks e

pub continue-more : (n : ℕ) → 0 < n → Continues (n - 1) ≡ after_continue n
continue-more zero h = absurd (omega (arith, h))
continue-more (suc n) h = let e : suc n - 1 ≡ n = omega arith in ap Continues e

loop_left : (n : ℕ) (go : Does) (k : Then) (w : World) → k (after_break n) w ≡ looped go k (Breaks n) w
loop_left zero go k w = refl
loop_left (suc n) go k w = refl

switch_left : (n : ℕ) (k : Then) (w : World) → k (after_break n) w ≡ switched k (Breaks n) w
switch_left zero k w = refl
switch_left (suc n) k w = refl

switch_passed : (n : ℕ) (k : Then) (w : World) → k (after_continue n) w ≡ switched k (Continues n) w
switch_passed zero k w = refl
switch_passed (suc n) k w = refl

pub loop-broken : (x y : Ending) (n : ℕ) → x ≡ ending.Breaks n → signal_of y ≡ after_break n → (go : Does) (k : Then) (w : World) → k (signal_of y) w ≡ looped go k (signal_of x) w
loop-broken x y n is left go k w = ap (λ s. k s w) left ∙ loop_left n go k w ∙ ap (λ e. looped go k (signal_of e) w) (sym is)

pub switch-broken : (x y : Ending) (n : ℕ) → x ≡ ending.Breaks n → signal_of y ≡ after_break n → (k : Then) (w : World) → k (signal_of y) w ≡ switched k (signal_of x) w
switch-broken x y n is left k w = ap (λ s. k s w) left ∙ switch_left n k w ∙ ap (λ e. switched k (signal_of e) w) (sym is)

pub switch-continued : (x y : Ending) (n : ℕ) → x ≡ ending.Continues n → signal_of y ≡ after_continue n → (k : Then) (w : World) → k (signal_of y) w ≡ switched k (signal_of x) w
switch-continued x y n is left k w = ap (λ s. k s w) left ∙ switch_passed n k w ∙ ap (λ e. switched k (signal_of e) w) (sym is)

pub loop-again : (x : Ending) (n : ℕ) → x ≡ ending.Continues n → n ≡ 0 → (go : Does) (k : Then) (w : World) → go w k ≡ looped go k (signal_of x) w
loop-again x n is zero_is go k w = (λ i. looped go k (Continues (sym zero_is i)) w) ∙ ap (λ e. looped go k (signal_of e) w) (sym is)

loop_passed : (n : ℕ) → 0 < n → (go : Does) (k : Then) (w : World) → k (Continues (n - 1)) w ≡ looped go k (Continues n) w
loop_passed zero h go k w = absurd (omega (arith, h))
loop_passed (suc n) h go k w = let e : suc n - 1 ≡ n = omega arith in ap (λ m. k (Continues m) w) e

pub loop-continued : (x : Ending) (n : ℕ) → x ≡ ending.Continues n → 0 < n → (go : Does) (k : Then) (w : World) → k (Continues (n - 1)) w ≡ looped go k (signal_of x) w
loop-continued x n is h go k w = loop_passed n h go k w ∙ ap (λ e. looped go k (signal_of e) w) (sym is)
