-- What a step of a statement has to do with the meaning: it knows the variables, and where the run stands.
use Rattle.std.specs.Prelude.{◌≡◌, List}
use Rattle.php_world.specs.Naming.{Naming}
use Rattle.php_world.specs.View.{vars_of}
use Rattle.php_world.specs.declared.store.Store.{Store}
use Rattle.php_meaning.specs.World.{World, with_vars}
use Rattle.php_meaning.specs.Course.{Then, Does, Ticks}
use Rattle.php_rest.specs.Views.{context_of, position_of}
use Rattle.php_rest.specs.Rest.{next_of, rest}
use Rattle.php_rest.specs.declared.owner.Scene.{Scene}
use Rattle.php_rest.specs.declared.now.Now.{Now}
use Rattle.php_rest.specs.declared.frame.Frame.{Frame}

-- a world with the variables of a store, in which the run stands at a scene
abbrev pub stands : Naming → Store → Scene → World → World
stands t s here w = record w { vars = vars_of t s; context = context_of here; at = position_of here }

-- what comes next under the frames after a step is what was to be done under those before it
abbrev pub Follows : Store → Store → Scene → Scene → List Frame → List Frame → (Naming → Does) → Now → Type 0
Follows old new here there before after does now =
    (t : Naming) (w : World) (k : Then) → next_of t now (stands t new there w) (rest t after k) ≡ does t (stands t old here w) (rest t before k)

-- the same after a tick, which stands before the step
abbrev pub FollowsTick : Store → Store → Scene → Scene → List Frame → List Frame → (Naming → Does) → Now → Type 0
FollowsTick old new here there before after does now =
    (t : Naming) (w : World) (k : Then) → Ticks (stands t old here w) (next_of t now (stands t new there w) (rest t after k)) ≡ does t (stands t old here w) (rest t before k)

-- the same of a step that knows the variables alone
abbrev pub WritesAfterTick : Store → Store → List Frame → List Frame → (Naming → Does) → Now → Type 0
WritesAfterTick old new before after does now =
    (t : Naming) (w : World) (k : Then) → Ticks (with_vars (vars_of t old) w) (next_of t now (with_vars (vars_of t new) w) (rest t after k)) ≡ does t (with_vars (vars_of t old) w) (rest t before k)
