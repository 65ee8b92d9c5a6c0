-- What an evaluation at once has to do with the meaning.
use Rattle.std.specs.Prelude.{◌≡◌, ℕ, List}
use Rattle.php_tree.specs.Expressions.{Expression}
use Rattle.php_values.specs.declared.value.Value.{Value}
use Rattle.php_values.specs.Data.{Data, data_of}
use Rattle.php_world.specs.Naming.{Naming}
use Rattle.php_world.specs.Steps.{at}
use Rattle.php_constants.specs.Named.{Knows}
use Rattle.php_meaning.specs.World.{World, Name}
use Rattle.php_meaning.specs.Course.{Then, Does, on_value}
use Rattle.php_meaning.specs.Constants.{fixed, with_element}
use Rattle.php_rest.specs.declared.outcome.Outcome.{Outcome}
use Rattle.php_rest.specs.declared.outcome.Outcome.TheVariants.{Gives, Fails}
use Rattle.php_rest.specs.Outcomes.{done_by, fails}

-- in each world with these constants, in which the code of a file at a path runs, the value is what was to be evaluated, or the run ends so
abbrev pub Evaluates : List ℕ → List (List ℕ × Value) → (Naming → Does) → Outcome → Type 0
Evaluates path table does o = (t : Naming) (w : World) (k : Then) → Knows path table w → done_by o w k ≡ does t w k

-- goes on with a value, or the run ends
abbrev pub gone_on : Outcome → (Data → Does) → Does
gone_on (Gives v) go = go (data_of v)
gone_on (Fails why) go = fails why

-- the same of a part, behind which comes more
abbrev pub GoesOn : List ℕ → List (List ℕ × Value) → (Naming → Does) → (Naming → Data → Does) → Outcome → Type 0
GoesOn path table does more o = (t : Naming) (w : World) (k : Then) → Knows path table w → gone_on o (more t) w k ≡ does t w k

-- an element of an array at a key, whose value is evaluated, and what follows
abbrev pub pair_at : Expression Name → Data → (Data → Does) → Data → Does
pair_at y a go i w k = fixed y w (on_value (λ d. with_element a (at i) d go) k)
