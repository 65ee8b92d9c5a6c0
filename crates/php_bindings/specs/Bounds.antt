-- What parameters with their values stand for.
use Rattle.std.specs.Prelude.{List, map}
use Rattle.php_tree.specs.Renamed.{renamed_parameter}
use Rattle.php_tree.specs.Statements.{Parameter}
use Rattle.php_tree.specs.StatementOf.{parameter_of}
use Rattle.php_tree.specs.declared.decl.Param.{Param}
use Rattle.php_values.specs.Data.{data_of}
use Rattle.php_world.specs.Naming.{Naming}
use Rattle.php_meaning.specs.World.{Name, Declared}
use Rattle.php_meaning.specs.Course.{Does}
use Rattle.php_meaning.specs.Calls as calls
use Rattle.php_rest.specs.Outcomes.{fails}
use Rattle.php_bindings.specs.declared.bound.Bound.{Bound}
use Rattle.php_bindings.specs.declared.bound.Bound.TheVariants.{Holds, Shares}
use Rattle.php_bindings.specs.declared.bound.Bounds.{Bounds}
use Rattle.php_bindings.specs.declared.bound.Bounds.TheVariants.{All, Fails}
use Rattle.php_bindings.specs.declared.bound.OneBound.{OneBound}
use Rattle.php_bindings.specs.declared.bound.OneBound.TheVariants as one

-- the parameters of a function, with the names of their variables
abbrev pub params_named : Naming → List Param → List (Parameter Name)
params_named t ps = map (renamed_parameter t.name) (map parameter_of ps)

abbrev pub bound_named : Naming → Bound → calls.Bound
bound_named t (Holds x v) = calls.has_value (t.name x) (data_of v)
bound_named t (Shares x c v) = calls.has_cell (t.name x) c (data_of v)

abbrev pub bounds_named : Naming → List Bound → List calls.Bound
bounds_named t = map (bound_named t)

-- the function is entered with its parameters, or the run ends
abbrev pub entered_with : Naming → Declared → Bounds → Does
entered_with t f (All bs) = calls.enter f (bounds_named t bs.items)
entered_with t f (Fails why) = fails why

-- goes on with one parameter more, or the run ends
abbrev pub gone_on_with : Naming → OneBound → (calls.Bound → Does) → Does
gone_on_with t (one.Bound b) go = go (bound_named t b)
gone_on_with t (one.Fails why) go = fails why
