-- What each statement does.
use Rattle.std.specs.Prelude.{ℕ, zero, suc, ℤ, pos, negsuc, ◌-◌, List, [], ◌∷◌, ◌++◌, Bool, true, false, codes, if◌then◌else◌}
use Rattle.std.specs.declared.option.Option.{Option}
use Rattle.std.specs.declared.option.Option.TheVariants.{Some, None}
use Rattle.std.specs.Option.{is_some}
use Rattle.std.specs.Str.{str_to_ascii_lowercase}
use Rattle.app_load.specs.Entries.{Entry, function}
use Rattle.order_map.specs.declared.key.Key.{Key}
use Rattle.order_map.specs.declared.key.Key.TheVariants.{Int, Text}
use Rattle.php_tree.specs.declared.decl.Hint.{Hint}
use Rattle.php_tree.specs.declared.name.ConstName.{ConstName}
use Rattle.php_tree.specs.Expressions as e
use Rattle.php_tree.specs.Expressions.{Expression, Expressions}
use Rattle.php_tree.specs.Statements as s
use Rattle.php_tree.specs.Statements.{Head, Statement, Statements, Arms, Cases, Clauses}
use Rattle.php_values.specs.Data.{Data, null, truth, int, bytes, array, object, ArrayData, array_pairs, Pairs, no_pairs, pair}
use Rattle.php_values.specs.Convert.{truth_of}
use Rattle.php_values.specs.Compare.{loose_equal}
use Rattle.php_world.specs.Variables.{global_named, static_cell, with_static, bound, unset_variable}
use Rattle.php_world.specs.declared.cell.Cell.{Cell}
use Rattle.php_world.specs.declared.reading.Reading.TheVariants.{Plain}
use Rattle.php_meaning.specs.declared.fatal.FatalName.TheVariants as name
use Rattle.php_meaning.specs.World.{World, Name, Declared, path_of, name_of, at_line, with_vars, with_function, with_constant}
use Rattle.php_meaning.specs.Course.{Course, Ticks, Turns, Loop, While, Do, For, Signal, Gives, Normal, Returned, Thrown, Breaks, Continues, Then, Does, hand, on_value, then_do}
use Rattle.php_meaning.specs.Refusals.{fatal, answered, value_refused, throws, plain_error, type_error}
use Rattle.php_meaning.specs.Operators.{as_text, put_out, if_true}
use Rattle.php_meaning.specs.Constants.{constant_value, fixed}
use Rattle.php_meaning.specs.Hints.{given_by}
use Rattle.php_meaning.specs.Calls.{callee_of, assigned}
use Rattle.php_meaning.specs.Stores.{unset_at}
use Rattle.php_meaning.specs.Expressions.{read, steps, no_class}

-- ---- loops

-- after the body of a loop comes the next turn, unless it was left
abbrev pub looped : Does → Then → Then
looped again k (Gives d) w = k (Gives d) w
looped again k Normal w = again w k
looped again k (Returned d) w = k (Returned d) w
looped again k (Thrown n) w = k (Thrown n) w
looped again k (Breaks zero) w = k Normal w
looped again k (Breaks (suc n)) w = k (Breaks n) w
looped again k (Continues zero) w = again w k
looped again k (Continues (suc n)) w = k (Continues n) w

-- after a `switch`, in which `continue` acts as `break`
abbrev pub switched : Then → Then
switched k (Gives d) w = k (Gives d) w
switched k Normal w = k Normal w
switched k (Returned d) w = k (Returned d) w
switched k (Thrown n) w = k (Thrown n) w
switched k (Breaks zero) w = k Normal w
switched k (Breaks (suc n)) w = k (Breaks n) w
switched k (Continues zero) w = k Normal w
switched k (Continues (suc n)) w = k (Continues n) w

-- how many loops and switches around the innermost one a number names
abbrev pub around : ℤ → ℕ
around (pos n) = n - 1
around (negsuc n) = 0

abbrev pub choose : Does → Does → Data → Does
choose a b d = if_true d a b

-- ---- foreach

abbrev pub key_of_pair : Key → Data
key_of_pair (Int n) = int n
key_of_pair (Text t) = bytes t

abbrev pub key_assigned : Option Name → Key → World → World
key_assigned None i w = w
key_assigned (Some x) i w = with_vars (assigned x (key_of_pair i) w.vars) w

-- the element of a turn, and its key if it is asked for
abbrev pub element : Option Name → Name → Key → Data → World → World
element key x i d w = key_assigned key i (with_vars (assigned x d w.vars) w)

-- a turn for each pair, after a tick
abbrev pub each_pair : Option Name → Name → Does → Pairs → Does
each_pair key x body no_pairs w k = k Normal w
each_pair key x body (pair i d rest) w k = Ticks w (body (element key x i d w) (looped (each_pair key x body rest) k))

abbrev pub each_of : Option Name → Name → Does → Data → Does
each_of key x body null = hand Normal
each_of key x body (truth b) = hand Normal
each_of key x body (int n) = hand Normal
each_of key x body (bytes t) = hand Normal
each_of key x body (array a) = each_pair key x body (array_pairs a)
each_of key x body (object n) = fatal name.Mistyped

-- ---- return

abbrev pub returned_or : Option Data → Does
returned_or (Some d) = hand (Returned d)
returned_or None = λ w k. throws type_error (codes "Return value of " ++ (name_of w.context.owner ++ codes " has the wrong type")) w k

-- what is returned is converted or refused by the hint of the function that runs
abbrev pub return_with : Option Data → Does
return_with d w k = returned_or (given_by w.context.gives d) w k

-- ---- declarations

abbrev pub declared_as : List ℕ → Head Name → Declared
declared_as path h = record { name = str_to_ascii_lowercase h.name.text; head = h; entry = function path (str_to_ascii_lowercase h.name.text) }

-- a function's name is taken by a function or by a library call
abbrev pub is_taken : List ℕ → World → Bool
is_taken name w = is_some (callee_of name w)

abbrev pub declare : Declared → Does
declare f w k = if is_taken f.name w then fatal name.Redeclared w k else k Normal (with_function f w)

-- a constant that is there stays as it is
abbrev pub constant_if : List ℕ → Data → Option Data → World → World
constant_if name d (Some old) w = w
constant_if name d None w = with_constant name d w

abbrev pub new_constant : List ℕ → Data → World → World
new_constant name d w = constant_if name d (constant_value name 0 w) w

-- `const` of constants in their order
abbrev pub constants_of : List (ConstName × Expression Name) → Does
constants_of [] w k = k Normal w
constants_of ((c, x) ∷ cs) w k = fixed x w (on_value (λ d v j. constants_of cs (new_constant c.text d v) j) k)

-- ---- global and static

abbrev pub globals_named : List Name → World → World
globals_named [] w = w
globals_named (x ∷ xs) w = globals_named xs (with_vars (global_named x w.vars) w)

-- the text of a static variable's declaration: its file, function and name
abbrev pub static_key : Entry → Name → List ℕ
static_key owner x = path_of owner ++ 35 ∷ name_of owner ++ 36 ∷ x

abbrev pub static_made : List ℕ → Name → Data → World → World
static_made key x d w = with_vars (bound x (with_static key d w.vars).0 (with_static key d w.vars).1) w

-- the first value of a static variable, null where none is written
abbrev pub first_value : Option (Expression Name) → (Data → Does) → Does
first_value None go = go null
first_value (Some x) go = λ w k. fixed x w (on_value go k)

-- a static variable, which gets its first value at its first use
abbrev pub static_or : List ℕ → Name → Option (Expression Name) → Option Cell → Does → Does
static_or key x e (Some c) go w k = go (with_vars (bound x c w.vars) w) k
static_or key x e None go w k = first_value e (λ d v j. go (static_made key x d v) j) w k

abbrev pub statics_named : List (Name × Option (Expression Name)) → Does
statics_named [] w k = k Normal w
statics_named ((x, e) ∷ xs) w k = static_or (static_key w.context.owner x) x e (static_cell (static_key w.context.owner x) w.vars) (statics_named xs) w k

-- ---- lists of expressions

-- texts are put out one after another, each before the next expression is evaluated
abbrev pub echoes : Expressions Name → Does
echoes e.no_more w k = k Normal w
echoes (e.expression x xs) w k = read Plain x w (on_value (as_text (λ t. put_out t (echoes xs))) k)

-- the value of the last expression, or the given one where there is none
abbrev pub last_of : Expressions Name → Data → (Data → Does) → Does
last_of e.no_more d go = go d
last_of (e.expression x xs) d go = λ w k. read Plain x w (on_value (λ v. last_of xs v go) k)

abbrev pub all_unset : Expressions Name → Does
all_unset e.no_more w k = k Normal w
all_unset (e.expression (e.var x l) xs) w k = all_unset xs (with_vars (unset_variable x w.vars) w) k
all_unset (e.expression (e.post (e.var x i) ys l) xs) w k = steps ys [] (λ path. unset_at x path (all_unset xs)) w k
all_unset (e.expression (e.static_property c m l) xs) w k = no_class c w k
all_unset (e.expression z xs) w k = all_unset xs w k

-- ---- the nodes: a tick comes before each statement that is not empty and no block

abbrev mutual
  pub statement : Statement Name → World → Then → Course
  statement (s.inline t l) w k = Ticks w (put_out t (hand Normal) (at_line l w) k)
  statement (s.echo xs l) w k = Ticks w (echoes xs (at_line l w) k)
  statement (s.evaluate x l) w k = Ticks w (read Plain x (at_line l w) (on_value (λ d. hand Normal) k))
  statement (s.nothing l) w k = k Normal w
  statement (s.block ss l) w k = statements ss w k
  statement (s.conditional xs ss l) w k = Ticks w (arms xs (statements ss) (at_line l w) k)
  statement (s.while_loop x ss l) w k = Ticks w (Turns (While x ss l) (at_line l w) k)
  statement (s.do_loop ss x l) w k = Ticks w (Turns (Do ss x l) (at_line l w) k)
  statement (s.for_loop xs ys zs ss l) w k = Ticks w (last_of xs null (λ d v j. Turns (For ys zs ss l) v j) (at_line l w) k)
  statement (s.foreach x key y ss l) w k = Ticks w (read Plain x (at_line l w) (on_value (each_of key y (statements ss)) k))
  statement (s.switch x cs l) w k = Ticks w (read Plain x (at_line l w) (on_value (λ d v j. cases cs (default_of cs) d v (switched j)) k))
  statement (s.break n l) w k = Ticks w (k (Breaks (around n)) w)
  statement (s.continue n l) w k = Ticks w (k (Continues (around n)) w)
  statement (s.return None l) w k = Ticks w (return_with None (at_line l w) k)
  statement (s.return (Some x) l) w k = Ticks w (read Plain x (at_line l w) (on_value (λ d. return_with (Some d)) k))
  statement (s.global xs l) w k = Ticks w (k Normal (globals_named xs (at_line l w)))
  statement (s.static_vars xs l) w k = Ticks w (statics_named xs (at_line l w) k)
  statement (s.unset xs l) w k = Ticks w (all_unset xs (at_line l w) k)
  statement (s.throw x l) w k = Ticks w (read Plain x (at_line l w) (on_value (λ d. throws plain_error (codes "Not throwable")) k))
  statement (s.try ss cs l) w k = Ticks w (statements ss (at_line l w) k)
  statement (s.function (s.with_body h ss at) l) w k = Ticks w (declare (declared_as (path_of w.context.owner) h) (at_line l w) k)
  statement (s.class c l) w k = Ticks w (k Normal (at_line l w))
  statement (s.constants cs l) w k = Ticks w (constants_of cs (at_line l w) k)
  statement (s.removed what path name l) w k = k Normal w

  pub statements : Statements Name → World → Then → Course
  statements s.no_more w k = k Normal w
  statements (s.statement x xs) w k = statement x w (then_do (statements xs) k)

  -- the first test that is true, else what stands behind `else`
  pub arms : Arms Name → (World → Then → Course) → World → Then → Course
  arms s.no_arms otherwise w k = otherwise w k
  arms (s.arm x ss xs) otherwise w k = read Plain x w (on_value (choose (statements ss) (arms xs otherwise)) k)

  -- the first arm whose value is equal, and all that follows it; else the given
  pub cases : Cases Name → (World → Then → Course) → Data → World → Then → Course
  cases s.no_cases otherwise d w k = otherwise w k
  cases (s.case x ss cs) otherwise d w k =
      read Plain x w (on_value (λ c. answered value_refused (λ same v j. if same then statements ss v (then_do (bodies cs) j) else cases cs otherwise d v j) (loose_equal d c)) k)
  cases (s.default_case ss cs) otherwise d w k = cases cs otherwise d w k

  pub bodies : Cases Name → World → Then → Course
  bodies s.no_cases w k = k Normal w
  bodies (s.case x ss cs) w k = statements ss w (then_do (bodies cs) k)
  bodies (s.default_case ss cs) w k = statements ss w (then_do (bodies cs) k)

  -- the first `default` and all that follows it
  pub default_of : Cases Name → World → Then → Course
  default_of s.no_cases w k = k Normal w
  default_of (s.case x ss cs) w k = default_of cs w k
  default_of (s.default_case ss cs) w k = statements ss w (then_do (bodies cs) k)

-- ---- a turn of a loop, after its tick

abbrev pub tested : Does → Does → Data → Does
tested body again d w k = if_true d (body w (looped again k)) (k Normal w)

-- a loop is gone on with where its test is true
abbrev pub on_test : Does → Data → Does
on_test again d = choose again (hand Normal) d

abbrev pub turn : Loop → World → Then → Course
turn (While x ss l) w k = read Plain x (at_line l w) (on_value (tested (statements ss) (Turns (While x ss l))) k)
turn (Do ss x l) w k = statements ss w (looped (λ v j. read Plain x (at_line l v) (on_value (on_test (Turns (Do ss x l))) j)) k)
turn (For ys zs ss l) w k = last_of ys (truth true) (tested (statements ss) (λ v j. last_of zs null (λ d. Turns (For ys zs ss l)) (at_line l v) j)) (at_line l w) k

-- ---- a file

-- the functions that stand directly in a file were declared at its entry
abbrev pub file_statements : Statements Name → Does
file_statements s.no_more w k = k Normal w
file_statements (s.statement (s.function f l) xs) w k = Ticks w (file_statements xs w k)
file_statements (s.statement x xs) w k = statement x w (then_do (file_statements xs) k)

-- what a file's declarations leave, or the line of the first one that is refused
pub data Hoisted : Type 0 where
  hoisted : World → Hoisted
  refused : ℕ → Hoisted

abbrev pub hoist_if : Bool → ℕ → Hoisted → Hoisted
hoist_if true line more = refused line
hoist_if false line more = more

abbrev pub hoist : List ℕ → Statements Name → World → Hoisted
hoist path s.no_more w = hoisted w
hoist path (s.statement (s.function (s.with_body h ss at) l) xs) w =
    hoist_if (is_taken (declared_as path h).name w) l (hoist path xs (with_function (declared_as path h) w))
hoist path (s.statement x xs) w = hoist path xs w
