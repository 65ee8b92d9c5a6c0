-- What a step of the machine has to do with the meaning.
use Rattle.std.specs.Prelude.{◌≡◌, List}
use Rattle.php_world.specs.Naming.{Naming}
use Rattle.php_world.specs.View.{vars_of}
use Rattle.php_world.specs.declared.store.Store.{Store}
use Rattle.php_meaning.specs.World.{World, with_vars}
use Rattle.php_meaning.specs.Course.{Then, Does}
use Rattle.php_rest.specs.Rest.{next_of, rest}
use Rattle.php_rest.specs.declared.now.Now.{Now}
use Rattle.php_rest.specs.declared.frame.Frame.{Frame}

-- what comes next under the frames after a step is what was to be done under those before it
abbrev pub Steps : List Frame → List Frame → (Naming → Does) → Now → Type 0
Steps before after does now = (t : Naming) (w : World) (k : Then) → next_of t now w (rest t after k) ≡ does t w (rest t before k)

-- the same with variables that only are read
abbrev pub Reads : Store → List Frame → List Frame → (Naming → Does) → Now → Type 0
Reads s before after does now =
    (t : Naming) (w : World) (k : Then) → next_of t now (with_vars (vars_of t s) w) (rest t after k) ≡ does t (with_vars (vars_of t s) w) (rest t before k)

-- the same with variables before and after the step
abbrev pub Writes : Store → Store → List Frame → List Frame → (Naming → Does) → Now → Type 0
Writes old new before after does now =
    (t : Naming) (w : World) (k : Then) → next_of t now (with_vars (vars_of t new) w) (rest t after k) ≡ does t (with_vars (vars_of t old) w) (rest t before k)
