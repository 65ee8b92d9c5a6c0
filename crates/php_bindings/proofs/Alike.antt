-- Courses that run alike.
use Rattle.std.proofs.Common.{◌≡◌, zero, suc, ◌∷◌, refl, ap, ◌∙◌}
use Rattle.std.specs.declared.option.Option.TheVariants.{Some}
use Rattle.php_tree.specs.Expressions.{Expression}
use Rattle.php_values.specs.Data.{Data}
use Rattle.php_meaning.specs.Events.{End, Tick}
use Rattle.php_meaning.specs.World.{World, Name, Declared, with_owner}
use Rattle.php_meaning.specs.Course.{Course, Stops, Ticks, Then, Does, on_value}
use Rattle.php_meaning.specs.Run.{run}
use Rattle.php_meaning.specs.Constants.{fixed}
use Rattle.php_meaning.specs.Calls as calls
use Rattle.php_rest.specs.Outcomes.{done_by}
use Rattle.php_rest.specs.declared.outcome.Outcome.{Outcome}
use Rattle.php_rest.specs.declared.outcome.Outcome.TheVariants.{Gives, Fails}
use Rattle.php_fixed.specs.Evaluated.{gone_on}
use Rattle.php_bindings.specs.Alike.{Alike}

-- a run does not look at the world in which it ends
pub ended : (e : End) (v w : World) → Alike (Stops e v) (Stops e w)
ended e v w look zero = refl
ended e v w look (suc n) = refl

pub same : {c d : Course} → c ≡ d → Alike c d
same is look budget = ap (run look budget) is

pub ticked : {c d : Course} (w : World) → Alike c d → Alike (Ticks w c) (Ticks w d)
ticked w is look zero = refl
ticked w is look (suc n) = ap (λ l. Tick ∷ l) (is look n)

pub then_alike : {c d e : Course} → c ≡ d → Alike d e → Alike c e
then_alike is alike look budget = ap (run look budget) is ∙ alike look budget

pub alike_then : {c d e : Course} → Alike c d → d ≡ e → Alike c e
alike_then alike is look budget = alike look budget ∙ ap (run look budget) is

pub both : {c d e : Course} → Alike c d → Alike d e → Alike c e
both first second look budget = first look budget ∙ second look budget

-- a default that was evaluated as code of the function's file
pub default_given : (o : Outcome) (f : Declared) (e : Expression Name) (go : Data → Does) (w : World) (k : Then)
    → ((j : Then) → done_by o (with_owner f.entry w) j ≡ fixed e (with_owner f.entry w) j) → Alike (gone_on o go w k) (calls.defaulted f (Some e) go w k)
default_given (Gives v) f e go w k is = same (is (λ s v. on_value go k s (with_owner w.context.owner v)))
default_given (Fails why) f e go w k is = then_alike refl (both (ended _ w (with_owner f.entry w)) (same (is (λ s v. on_value go k s (with_owner w.context.owner v)))))
