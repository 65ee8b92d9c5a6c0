-- What is done once all arguments of a call were evaluated.
use Rattle.std.specs.Prelude.{ℕ, pos, List, [], ◌∷◌, ◌++◌, Bool, true, false, not}
use Rattle.std.specs.declared.option.Option.{Option}
use Rattle.std.specs.declared.option.Option.TheVariants.{Some, None}
use Rattle.std.specs.declared.result.Result.TheVariants.{Ok, Err}
use Rattle.std.specs.Option.{is_some}
use Rattle.std.specs.Str.{str_to_ascii_lowercase}
use Rattle.php_values.specs.Data.{Data, null, truth}
use Rattle.php_world.specs.Variables.{Variables}
use Rattle.php_arguments.specs.Answers.{CallAnswer}
use Rattle.php_arguments.specs.Arguments.{text_argument}
use Rattle.php_arguments.specs.declared.fault.CallFault.{CallFault}
use Rattle.php_arguments.specs.declared.fault.CallFault.TheVariants.{Arity, Mistyped}
use Rattle.php_meaning.specs.World.{World, Name, with_vars, with_constant}
use Rattle.php_meaning.specs.Course.{Ticks, Does, give}
use Rattle.php_meaning.specs.Refusals.{answered, call_refused}
use Rattle.php_meaning.specs.Constants.{constant_value}
use Rattle.php_meaning.specs.Library.{LibraryCall, ListAnswer, reads, changes, SystemCall, define, defined, function_exists, call_user_func}
use Rattle.php_meaning.specs.Calls.{Callee, program, library, system, callee_of, called, Argument, passed, shares, named, argument_value, argument_values, assigned, bind}

-- ---- calls of the library

abbrev pub first_or_null : List Data → Data
first_or_null [] = null
first_or_null (d ∷ ds) = d

-- the variable has what the call left of its argument
abbrev pub changed : Name → ListAnswer → Does
changed x a w k = give a.value (with_vars (assigned x (first_or_null a.after) w.vars) w) k

-- a call that wants a variable refuses anything else, once its arguments were counted
abbrev pub not_counted : CallAnswer ListAnswer → CallFault
not_counted (Err Arity) = Arity
not_counted _ = Mistyped

abbrev pub change_first : (List Data → CallAnswer ListAnswer) → List Argument → Does
change_first f (named x ∷ args) w k = answered call_refused (changed x) (f (argument_values w.vars (named x ∷ args))) w k
change_first f args w k = call_refused (not_counted (f (argument_values w.vars args))) w k

abbrev pub library_done : LibraryCall → List Argument → Does
library_done (reads f) args w k = answered call_refused give (f (argument_values w.vars args)) w k
library_done (changes f) args w k = change_first f args w k

-- ---- calls that know the run

abbrev pub define_if : List ℕ → Data → Option Data → Does
define_if name d (Some old) = give (truth false)
define_if name d None = λ w k. give (truth true) (with_constant name d w) k

abbrev pub define_done : List Argument → Does
define_done (a ∷ b ∷ []) w k = answered call_refused (λ name w k. define_if name (argument_value w.vars b) (constant_value name 0 w) w k) (text_argument (argument_value w.vars a)) w k
define_done args w k = call_refused Arity w k

abbrev pub defined_done : List Argument → Does
defined_done (a ∷ []) w k = answered call_refused (λ name w k. give (truth (is_some (constant_value name 0 w))) w k) (text_argument (argument_value w.vars a)) w k
defined_done args w k = call_refused Arity w k

abbrev pub exists_done : List Argument → Does
exists_done (a ∷ []) w k = answered call_refused (λ name w k. give (truth (is_some (callee_of (str_to_ascii_lowercase name) w))) w k) (text_argument (argument_value w.vars a)) w k
exists_done args w k = call_refused Arity w k

-- the call that `call_user_func` makes has a tick of its own, and is sought after it
abbrev pub named_call : (Callee → Does) → List ℕ → Does
named_call go name w k = Ticks w (called (str_to_ascii_lowercase name) go (callee_of (str_to_ascii_lowercase name) w) w k)

-- ---- all calls

abbrev pub apply : Callee → List Argument → Does
apply (program f) args = bind f 1 f.head.parameters args []
apply (library c) args = library_done c args
apply (system define) args = define_done args
apply (system defined) args = defined_done args
apply (system function_exists) args = exists_done args
apply (system call_user_func) [] = call_refused Arity
apply (system call_user_func) (a ∷ args) = λ w k. answered call_refused (named_call (λ c. apply c args)) (text_argument (argument_value w.vars a)) w k
