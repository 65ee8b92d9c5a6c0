-- Calls: who is called, how arguments are bound, and what a call's end gives.
use Rattle.std.specs.Prelude.{ℕ, ◌+◌, pos, List, [], ◌∷◌, ◌++◌, Bool, true, false, codes, map, nat_lt, if◌then◌else◌}
use Rattle.std.specs.declared.option.Option.{Option}
use Rattle.std.specs.declared.option.Option.TheVariants.{Some, None}
use Rattle.std.specs.declared.result.Result.TheVariants.{Ok, Err}
use Rattle.std.specs.Str.{str_to_ascii_lowercase}
use Rattle.std.specs.Fmt.{signed_decimal}
use Rattle.app_load.specs.Entries.{Entry}
use Rattle.php_tree.specs.Expressions.{Expression}
use Rattle.php_tree.specs.Statements.{Parameter}
use Rattle.php_tree.specs.declared.decl.Hint.{Hint}
use Rattle.php_values.specs.Data.{Data, null}
use Rattle.php_world.specs.Answers.{Answer}
use Rattle.php_world.specs.Variables.{Variables, cell_value, with_value, bound, entered, value_of, write_place}
use Rattle.php_world.specs.declared.cell.Cell.{Cell}
use Rattle.php_meaning.specs.declared.fatal.FatalName.TheVariants as name
use Rattle.php_meaning.specs.World.{World, Name, Context, Position, Declared, name_of, with_owner, with_vars, returned_to, function_in}
use Rattle.php_meaning.specs.Course.{Course, Enters, Signal, Gives, Normal, Returned, Thrown, Breaks, Continues, Then, Does, hand, give, on_value}
use Rattle.php_meaning.specs.Refusals.{fatal, throws, plain_error, type_error, argument_count_error}
use Rattle.php_meaning.specs.Constants.{fixed}
use Rattle.php_meaning.specs.Hints.{taken, given_by}
use Rattle.php_meaning.specs.Library.{LibraryCall, reads, changes, SystemCall, library_call, system_call}

-- ---- who is called

pub data Callee : Type 0 where
  program : Declared → Callee
  library : LibraryCall → Callee
  system : SystemCall → Callee

abbrev pub system_or_none : Option SystemCall → Option Callee
system_or_none None = None
system_or_none (Some c) = Some (system c)

abbrev pub library_or : Option LibraryCall → Option Callee → Option Callee
library_or None other = other
library_or (Some c) other = Some (library c)

abbrev pub program_or : Option Declared → Option Callee → Option Callee
program_or None other = other
program_or (Some f) other = Some (program f)

-- a call of the library by its name in lower case
abbrev pub library_callee : List ℕ → Option Callee
library_callee name = library_or (library_call name) (system_or_none (system_call name))

-- what a name in lower case calls; no function has the name of a library call
abbrev pub callee_of : List ℕ → World → Option Callee
callee_of name w = program_or (function_in name w.functions) (library_callee name)

-- the function of a name, which is refused where it is unknown
abbrev pub called : List ℕ → (Callee → Does) → Option Callee → Does
called name go None = throws plain_error (codes "Undefined function " ++ name)
called name go (Some c) = go c

abbrev pub sought : List ℕ → (Callee → Does) → Does
sought name go w k = called (str_to_ascii_lowercase name) go (callee_of (str_to_ascii_lowercase name) w) w k

-- ---- arguments

-- an argument's value; a variable's cell, which gets another name; or a variable that a library call may change
pub data Argument : Type 0 where
  passed : Data → Argument
  shares : Cell → Argument
  named : Name → Argument

-- how a variable is handed to a parameter
pub data Passing : Type 0 where
  by_value : Passing
  by_cell : Passing
  by_name : Passing

abbrev pub passing_of : Parameter Name → Passing
passing_of p = if p.by_reference then by_cell else by_value

abbrev pub library_passings : LibraryCall → List Passing
library_passings (reads f) = []
library_passings (changes f) = by_name ∷ []

abbrev pub passings : Callee → List Passing
passings (program f) = map passing_of f.head.parameters
passings (library c) = library_passings c
passings (system c) = []

-- what an argument's value is
abbrev pub argument_value : Variables → Argument → Data
argument_value vs (passed d) = d
argument_value vs (shares c) = cell_value c vs
argument_value vs (named x) = value_of x vs

abbrev pub argument_values : Variables → List Argument → List Data
argument_values vs args = map (argument_value vs) args

-- ---- binding

-- a parameter with its value, or with the cell that it shares and the value that this holds
pub data Bound : Type 0 where
  has_value : Name → Data → Bound
  has_cell : Name → Cell → Data → Bound

abbrev pub bound_as : Name → Argument → Data → Bound
bound_as x (passed d) e = has_value x e
bound_as x (shares c) e = has_cell x c e
bound_as x (named y) e = has_value x e

abbrev pub or_same : Variables → Answer Variables → Variables
or_same vs (Ok new) = new
or_same vs (Err fault) = vs

-- a variable holds a value
abbrev pub assigned : Name → Data → Variables → Variables
assigned x d vs = or_same vs (write_place x [] (λ old. Ok d) vs)

abbrev pub bind_one : Variables → Bound → Variables
bind_one vs (has_value x d) = assigned x d vs
bind_one vs (has_cell x c d) = with_value c d (bound x c vs)

abbrev pub bind_all : Variables → List Bound → Variables
bind_all vs [] = vs
bind_all vs (b ∷ bs) = bind_all (bind_one vs b) bs

-- ---- the beginning and the end of a call

-- how many calls and includes can enclose one another
abbrev pub max_depth : ℕ
max_depth = 1000

-- the caller goes on with what a call's end gives, which is refused where the function's hint does not allow it
abbrev pub given_or : Declared → Option Data → Does
given_or f (Some d) = give d
given_or f None = throws type_error (codes "Return value of " ++ (name_of f.entry ++ codes " has the wrong type"))

-- the caller goes on: a value that was returned fits already, and an end without one is judged where the call stands
abbrev pub back : Declared → Context → Position → Then → Then
back f context at k (Returned d) w = k (Gives d) (returned_to context at w)
back f context at k (Thrown n) w = k (Thrown n) (returned_to context at w)
back f context at k (Gives d) w = given_or f (given_by f.head.gives None) (returned_to context at w) k
back f context at k Normal w = given_or f (given_by f.head.gives None) (returned_to context at w) k
back f context at k (Breaks n) w = given_or f (given_by f.head.gives None) (returned_to context at w) k
back f context at k (Continues n) w = given_or f (given_by f.head.gives None) (returned_to context at w) k

-- the world in which a body begins
abbrev pub inside : Declared → List Bound → World → World
inside f bs w = record w { vars = bind_all (entered w.vars) bs; context = record { owner = f.entry; gives = f.head.gives; depth = w.context.depth + 1 } }

abbrev pub enter : Declared → List Bound → Does
enter f bs w k = if nat_lt w.context.depth max_depth then Enters f.entry (inside f bs w) (back f w.context w.at k) else fatal name.Depth w k

-- what is evaluated as code of another file or function
abbrev pub in_owner : Entry → Does → Does
in_owner owner go w k = go (with_owner owner w) (λ s v. k s (with_owner w.context.owner v))

-- the n-th argument, counted from 1, that a parameter takes or refuses
abbrev pub taken_or : Declared → ℕ → (Data → Does) → Option Data → Does
taken_or f n go (Some d) = go d
taken_or f n go None = throws type_error (codes "Argument " ++ (signed_decimal (pos n) ++ (codes " of " ++ (name_of f.entry ++ codes " has the wrong type"))))

-- the default of a parameter, which is refused where there is none
abbrev pub defaulted : Declared → Option (Expression Name) → (Data → Does) → Does
defaulted f None go = throws argument_count_error (codes "Too few arguments to " ++ name_of f.entry)
defaulted f (Some e) go = λ w k. in_owner f.entry (fixed e) w (on_value go k)

-- the parameters from the n-th on, in their order, and then the entry; further arguments are dropped
abbrev pub bind : Declared → ℕ → List (Parameter Name) → List Argument → List Bound → Does
bind f n [] args so_far = enter f so_far
bind f n (p ∷ ps) [] so_far = defaulted f p.default (λ d. taken_or f n (λ e. bind f (n + 1) ps [] (so_far ++ has_value p.variable e ∷ [])) (taken p d))
bind f n (p ∷ ps) (a ∷ args) so_far = λ w k. taken_or f n (λ e. bind f (n + 1) ps args (so_far ++ bound_as p.variable a e ∷ [])) (taken p (argument_value w.vars a)) w k
