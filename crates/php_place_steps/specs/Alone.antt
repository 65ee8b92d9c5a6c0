-- What a step that leaves the frames as they are has to do with the meaning.
use Rattle.std.specs.Prelude.{◌≡◌, Bool, true, false}
use Rattle.php_values.specs.Data.{Data}
use Rattle.php_world.specs.Naming.{Naming}
use Rattle.php_world.specs.View.{vars_of}
use Rattle.php_world.specs.declared.store.Store.{Store}
use Rattle.php_meaning.specs.World.{World, with_vars}
use Rattle.php_meaning.specs.Course.{Then, Does}
use Rattle.php_rest.specs.Rest.{next_of}
use Rattle.php_rest.specs.declared.now.Now.{Now}

-- what comes next after the step is what was to be done before it, whatever waits
abbrev pub WritesAlone : Store → Store → (Naming → Does) → Now → Type 0
WritesAlone old new does now = (t : Naming) (w : World) (k : Then) → next_of t now (with_vars (vars_of t new) w) k ≡ does t (with_vars (vars_of t old) w) k

-- the value after a step, or the one before it
abbrev pub chosen : Bool → Data → Data → Data
chosen true old new = new
chosen false old new = old
