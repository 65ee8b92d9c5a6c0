-- Statements begin at their lines, over plain values.
use Rattle.std.proofs.Common.{◌≡◌, ℕ, List, ◌∷◌, ap, ◌∙◌}
use Rattle.php_tree.specs.declared.expr.Expr.{Expr}
use Rattle.php_world.specs.Naming.{Naming}
use Rattle.php_world.specs.View.{vars_of}
use Rattle.php_world.specs.declared.store.Store.{Store}
use Rattle.php_world.specs.declared.reading.Reading.TheVariants.{Plain}
use Rattle.php_meaning.specs.World.{World, at_line, with_vars}
use Rattle.php_meaning.specs.Course.{Ticks, Then, Does, Normal}
use Rattle.php_meaning.specs.Expressions.{read}
use Rattle.php_rest.specs.Laws.{Steps, Writes}
use Rattle.php_rest.specs.Named.{named}
use Rattle.php_rest.specs.Rest.{next_of, rest, after}
use Rattle.php_rest.specs.declared.owner.Scene.{Scene}
use Rattle.php_rest.specs.declared.now.Now.{Now}
use Rattle.php_rest.specs.declared.frame.Frame.{Frame}
use Rattle.php_statement_steps.specs.Standing.{stands, FollowsTick}

-- the run stands at a line
abbrev pub StandsAt : Scene → Scene → ℕ → Type 0
StandsAt here there l = (t : Naming) (u : Store) (w : World) → stands t u there w ≡ at_line l (stands t u here w)

-- a part that knows nothing of the run goes on at a line
pub stepped_at : (v : Store) (here there : Scene) (s s' : List Frame) (d d' : Naming → Does) (l : ℕ) (now : Now)
    → Steps s s' d now → ((t : Naming) → d t ≡ d' t) → StandsAt here there l → FollowsTick v v here there s s' (λ t w k. Ticks w (d' t (at_line l w) k)) now
stepped_at v here there s s' d d' l now law same place t w k =
    ap (λ c. Ticks (stands t v here w) c) (law t (stands t v there w) k ∙ (λ i. same t i (place t v w i) (rest t s k)))

-- the same of a part that writes variables
pub written_at : (old new : Store) (here there : Scene) (s s' : List Frame) (d d' : Naming → Does) (l : ℕ) (now : Now)
    → Writes old new s s' d now → ((t : Naming) → d t ≡ d' t) → StandsAt here there l → FollowsTick old new here there s s' (λ t w k. Ticks w (d' t (at_line l w) k)) now
written_at old new here there s s' d d' l now law same place t w k =
    ap (λ c. Ticks (stands t old here w) c) (law t (stands t old there w) k ∙ (λ i. same t i (place t old w i) (rest t s k)))

-- an expression is evaluated under a frame
pub evaluated_at : (v : Store) (here there : Scene) (s s' : List Frame) (e e' : Expr) (f : Frame) (l : ℕ) → e' ≡ e → s' ≡ f ∷ s → StandsAt here there l
    → (t : Naming) (w : World) (k : Then) → Ticks (stands t v here w) (read Plain (named t e') (stands t v there w) (rest t s' k)) ≡ Ticks (stands t v here w) (read Plain (named t e) (at_line l (stands t v here w)) (after t f (rest t s k)))
evaluated_at v here there s s' e e' f l ee push place t w k = λ i. Ticks (stands t v here w) (read Plain (named t (ee i)) (place t v w i) (rest t (push i) k))

-- what comes next is the same at a line
pub next_at : (v : Store) (here there : Scene) (now : Now) (l : ℕ) → StandsAt here there l
    → (s : List Frame) → FollowsTick v v here there s s (λ t w k. Ticks w (next_of t now (at_line l w) k)) now
next_at v here there now l place s t w k = λ i. Ticks (stands t v here w) (next_of t now (place t v w i) (rest t s k))

-- variables are others at a line
pub bound_at : (old new : Store) (here there : Scene) (f : Naming → World → World) (l : ℕ)
    → ((t : Naming) (w : World) → with_vars (vars_of t new) w ≡ f t (with_vars (vars_of t old) w)) → StandsAt here there l
    → (t : Naming) (w : World) (k : Then) → Ticks (stands t old here w) (k Normal (stands t new there w)) ≡ Ticks (stands t old here w) (k Normal (f t (at_line l (stands t old here w))))
bound_at old new here there f l law place t w k =
    ap (λ v. Ticks (stands t old here w) (k Normal v)) (law t (stands t old there w) ∙ (λ i. f t (place t old w i)))
