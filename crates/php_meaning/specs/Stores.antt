-- What is done with places once their keys were evaluated, and includes once their path was.
use Rattle.std.specs.Prelude.{ℕ, ◌+◌, pos, List, [], ◌∷◌, ◌++◌, Bool, true, false, codes, nat_lt, if◌then◌else◌}
use Rattle.std.specs.declared.option.Option.{Option}
use Rattle.std.specs.declared.option.Option.TheVariants.{Some, None}
use Rattle.std.specs.declared.result.Result.TheVariants.{Ok, Err}
use Rattle.app_load.specs.Entries.{file}
use Rattle.php_tree.specs.declared.expr.AssignOp.{AssignOp}
use Rattle.php_tree.specs.declared.expr.AssignOp.TheVariants as set
use Rattle.php_tree.specs.declared.expr.StepOp.{StepOp}
use Rattle.php_tree.specs.declared.expr.StepOp.TheVariants as steps
use Rattle.php_tree.specs.declared.expr.IncludeKind.{IncludeKind}
use Rattle.php_tree.specs.declared.expr.IncludeKind.TheVariants as kind
use Rattle.php_values.specs.declared.op.ArithOp.{ArithOp}
use Rattle.php_values.specs.declared.op.ArithOp.TheVariants as arith
use Rattle.php_values.specs.Data.{Data, truth, int}
use Rattle.php_values.specs.Arithmetic.{arithmetic}
use Rattle.php_world.specs.Steps.{Step, at, step_by}
use Rattle.php_world.specs.Stepping.{stepped}
use Rattle.php_world.specs.Variables.{Variables, read_place, write_place, unset_place}
use Rattle.php_world.specs.declared.reading.Reading.{Reading}
use Rattle.php_world.specs.declared.stepping.Direction.{Direction}
use Rattle.php_world.specs.declared.stepping.Direction.TheVariants.{Up, Down}
use Rattle.php_meaning.specs.declared.fatal.FatalName.TheVariants as name
use Rattle.php_meaning.specs.World.{World, Name, Context, Position, with_vars, with_entered, restored, is_among}
use Rattle.php_meaning.specs.Folders.{file_named}
use Rattle.php_meaning.specs.Course.{Enters, Signal, Gives, Normal, Returned, Thrown, Breaks, Continues, Then, Does, give, on_value}
use Rattle.php_meaning.specs.Refusals.{fatal, answered, value_refused, place_refused}
use Rattle.php_meaning.specs.Operators.{refused_by}
use Rattle.php_meaning.specs.Calls.{max_depth}

-- ---- reading

-- goes on with what is read one step further in
abbrev pub stepped_in : Reading → Step → (Data → Does) → Data → Does
stepped_in how s go d = answered place_refused go (step_by how s d)

-- after a key comes what is read there
abbrev pub indexed : Reading → Data → (Data → Does) → Then → Then
indexed how d go = on_value (λ key. stepped_in how (at key) go d)

-- what a variable holds along a path
abbrev pub place_read : Name → List Step → (Data → Does) → Does
place_read x path go w k = answered place_refused go (read_place x path w.vars) w k

-- ---- writing

-- a place holds a value, and what follows comes in the world after it
abbrev pub stored : Name → List Step → Data → Does → Does
stored x path d go w k = answered place_refused (λ vars v j. go (with_vars vars v) j) (write_place x path (λ old. Ok d) w.vars) w k

-- the operator of `+=` and its kin
abbrev pub combined : Name → List Step → ArithOp → Data → Does
combined x path op d = place_read x path (λ old. answered (refused_by op) (λ new. stored x path new (give new)) (arithmetic op old d))

abbrev pub assign_value : Name → List Step → AssignOp → Data → Does
assign_value x path set.Set d = stored x path d (give d)
assign_value x path set.Add d = combined x path arith.Add d
assign_value x path set.Sub d = combined x path arith.Subtract d
assign_value x path set.Mul d = combined x path arith.Multiply d
assign_value x path set.Div d = combined x path arith.Divide d
assign_value x path set.Join d = combined x path arith.Join d
assign_value x path set.Rem d = combined x path arith.Remainder d

-- the value after a step is given, or the one before it
abbrev pub step_by_one : Name → List Step → Direction → (Data → Data → Data) → Does
step_by_one x path way choose = place_read x path (λ old. answered value_refused (λ new. stored x path new (give (choose old new))) (stepped way old))

abbrev pub step_value : Name → List Step → StepOp → Does
step_value x path steps.IncrementBefore = step_by_one x path Up (λ old new. new)
step_value x path steps.DecrementBefore = step_by_one x path Down (λ old new. new)
step_value x path steps.IncrementAfter = step_by_one x path Up (λ old new. old)
step_value x path steps.DecrementAfter = step_by_one x path Down (λ old new. old)

abbrev pub unset_at : Name → List Step → Does → Does
unset_at x path go w k = answered place_refused (λ vars v j. go (with_vars vars v) j) (unset_place x path w.vars) w k

-- ---- includes

-- the includer goes on: with what the file returned, else with 1
abbrev pub file_back : Context → Position → Then → Then
file_back context here k (Returned d) w = k (Gives d) (restored context here w)
file_back context here k (Thrown n) w = k (Thrown n) (restored context here w)
file_back context here k (Gives d) w = k (Gives (int (pos 1))) (restored context here w)
file_back context here k Normal w = k (Gives (int (pos 1))) (restored context here w)
file_back context here k (Breaks n) w = k (Gives (int (pos 1))) (restored context here w)
file_back context here k (Continues n) w = k (Gives (int (pos 1))) (restored context here w)

-- the world in which a file begins: it shares the scope of what includes it
abbrev pub inside_file : List ℕ → World → World
inside_file path w = record w { context = record { owner = file path; gives = None; depth = w.context.depth + 1 }; entered = w.entered ++ path ∷ [] }

abbrev pub enter_file : List ℕ → Does
enter_file path w k = if nat_lt w.context.depth max_depth then Enters (file path) (inside_file path w) (file_back w.context w.at k) else fatal name.Depth w k

-- a file that is not there
abbrev pub not_there : IncludeKind → Does
not_there kind.Include = give (truth false)
not_there kind.IncludeOnce = give (truth false)
not_there kind.Require = fatal name.Missing
not_there kind.RequireOnce = fatal name.Missing

abbrev pub enter_once : List ℕ → Does
enter_once path w k = if is_among path w.entered then give (truth true) w k else enter_file path w k

abbrev pub enter_by : IncludeKind → List ℕ → Does
enter_by kind.Include path = enter_file path
enter_by kind.IncludeOnce path = enter_once path
enter_by kind.Require path = enter_file path
enter_by kind.RequireOnce path = enter_once path

abbrev pub enter_found : IncludeKind → Option (List ℕ) → Does
enter_found how None = not_there how
enter_found how (Some path) = enter_by how path

abbrev pub include_text : IncludeKind → List ℕ → Does
include_text how t w k = enter_found how (file_named t w) w k
