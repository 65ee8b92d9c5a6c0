-- What a run is given.
use Rattle.std.specs.Prelude.{ℕ, List, [], ◌∷◌, None}
use Rattle.app_load.specs.Entries.{file}
use Rattle.php_values.specs.Data.{data_of, array_of}
use Rattle.php_values.specs.declared.value.ArrayValue.{ArrayValue}
use Rattle.php_values.specs.declared.value.Value.TheVariants as value
use Rattle.php_world.specs.Naming.{Naming}
use Rattle.php_world.specs.Variables.{Variables, no_variables}
use Rattle.php_meaning.specs.Calls.{assigned}
use Rattle.php_meaning.specs.Trace as meaning
use Rattle.php_meaning.specs.World.{World}
use Rattle.php_machine.specs.declared.opening.Input.{Input}

-- the variables with which a run begins, the superglobals by their numbers
abbrev pub opened_store : Naming → ArrayValue → ArrayValue → ArrayValue → ArrayValue → ArrayValue → Variables
opened_store t get post cookie request server =
    assigned (t.name 4) (data_of (value.List server)) (assigned (t.name 3) (data_of (value.List request)) (assigned (t.name 2) (data_of (value.List cookie))
    (assigned (t.name 1) (data_of (value.List post)) (assigned (t.name 0) (data_of (value.List get)) no_variables))))

abbrev pub input_of : Input → meaning.Input
input_of i = record {
  script = i.script.now;
  get = array_of i.get.map.value;
  post = array_of i.post.map.value;
  cookie = array_of i.cookie.map.value;
  request = array_of i.request.map.value;
  server = array_of i.server.map.value;
}

-- the world in which a script begins, with these variables
abbrev pub opened_world : Variables → List ℕ → List (List ℕ) → World
opened_world vars script files = record {
  vars = vars;
  context = record { owner = file script; gives = None; depth = 0 };
  at = record { file = script; line = 1 };
  functions = [];
  constants = [];
  entered = script ∷ [];
  printed = 0;
  script = script;
  files = files;
}
