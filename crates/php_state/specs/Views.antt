-- What the state of a run stands for: the world of the meaning.
use Rattle.std.specs.Prelude.{ℕ, List, map}
use Rattle.php_values.specs.declared.value.Value.{Value}
use Rattle.php_values.specs.Data.{data_of}
use Rattle.php_world.specs.Naming.{Naming}
use Rattle.php_world.specs.View.{vars_of}
use Rattle.php_tables.specs.Functions.{functions_of}
use Rattle.php_meaning.specs.World.{World, Constant}
use Rattle.php_rest.specs.Views.{function_named, context_of, position_of}
use Rattle.php_state.specs.declared.state.State.{State}

abbrev pub constant_of : List ℕ × Value → Constant
constant_of c = record { name = c.0; value = data_of c.1 }

abbrev pub world_of : Naming → State → World
world_of t s = record {
  vars = vars_of t s.store;
  context = context_of s.scene;
  at = position_of s.scene;
  functions = map (function_named t) (functions_of s.functions);
  constants = map constant_of s.constants;
  entered = s.entered;
  printed = s.printed;
  script = s.script.now;
  files = s.program.now.paths;
}
