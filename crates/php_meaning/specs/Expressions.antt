-- What each expression does.
use Rattle.std.specs.Prelude.{ℕ, pos, List, [], ◌∷◌, ◌++◌, Bool, true, false, not, codes, if◌then◌else◌}
use Rattle.std.specs.declared.option.Option.TheVariants.{Some, None}
use Rattle.std.specs.Str.{str_to_ascii_lowercase}
use Rattle.php_tree.specs.declared.name.ClassName.{ClassName}
use Rattle.php_tree.specs.Expressions as e
use Rattle.php_tree.specs.Expressions.{Key, Expression, Expressions, QuoteParts, ArrayItems, Accesses, Links, Branches}
use Rattle.php_tree.specs.Place.{is_place}
use Rattle.php_values.specs.Data.{Data, null, truth, int, bytes, array, object}
use Rattle.php_values.specs.Convert.{truth_of}
use Rattle.php_world.specs.Steps.{Step, at, next, member}
use Rattle.php_world.specs.Variables.{shared_cell, referred, value_of}
use Rattle.php_world.specs.declared.reading.Reading.{Reading}
use Rattle.php_world.specs.declared.reading.Reading.TheVariants.{Plain, Quiet}
use Rattle.php_meaning.specs.Events.{Done}
use Rattle.php_meaning.specs.World.{World, Name, with_vars}
use Rattle.php_meaning.specs.Course.{Course, Stops, Ticks, Then, Does, give, on_value}
use Rattle.php_meaning.specs.Refusals.{throws, plain_error}
use Rattle.php_meaning.specs.Operators.{as_text, extended, put_out, right_of, unless_decided, decided, compare_right, before_value, if_true, is_null}
use Rattle.php_meaning.specs.Constants.{constant_named, no_elements, with_element}
use Rattle.php_meaning.specs.Calls.{Callee, sought, Argument, passed, shares, named, Passing, by_value, by_cell, by_name, passings}
use Rattle.php_meaning.specs.Apply.{apply}
use Rattle.php_meaning.specs.Stores.{stepped_in, indexed, place_read, assign_value, step_value, include_text}

-- ---- what follows parts of expressions

abbrev pub no_class : ClassName → Does
no_class c = throws plain_error (codes "Undefined class " ++ str_to_ascii_lowercase c.text)

-- a variable names a function, or nothing that can be called
abbrev pub name_in : (List ℕ → Does) → Data → Does
name_in go null = throws plain_error (codes "Not a name")
name_in go (truth b) = throws plain_error (codes "Not a name")
name_in go (int n) = throws plain_error (codes "Not a name")
name_in go (bytes t) = go t
name_in go (array a) = throws plain_error (codes "Not a name")
name_in go (object n) = throws plain_error (codes "Not a name")

-- a variable that is handed to a parameter: its cell, its name, or its value
abbrev pub handed : Passing → Name → (Argument → Does) → Does
handed by_value x go w k = go (passed (value_of x w.vars)) w k
handed by_cell x go w k = go (shares (shared_cell x w.vars).0) (with_vars (shared_cell x w.vars).1 w) k
handed by_name x go w k = go (named x) w k

abbrev pub first_passing : List Passing → Passing
first_passing [] = by_value
first_passing (p ∷ ps) = p

abbrev pub other_passings : List Passing → List Passing
other_passings [] = []
other_passings (p ∷ ps) = ps

-- an end that prints a text, and nothing else
abbrev pub exit_value : Data → Does
exit_value null w k = Stops Done w
exit_value (truth b) w k = Stops Done w
exit_value (int n) w k = Stops Done w
exit_value (bytes t) w k = put_out t (λ v j. Stops Done v) w k
exit_value (array a) w k = Stops Done w
exit_value (object n) w k = Stops Done w

-- the value, or another one where it is null
abbrev pub unless_null : Does → Data → Does
unless_null other d w k = if is_null d then other w k else give d w k

-- all that follows is set too, or this is not set
abbrev pub and_set : Does → Data → Does
and_set more d w k = if is_null d then give (truth false) w k else more w k

-- a place is read as `isset` does where all of it is looked up so
abbrev pub reading_of : Bool → Reading → Reading
reading_of true how = how
reading_of false how = Plain

abbrev pub key_data : Key Name → World → Data
key_data (e.key_int n) w = int n
key_data (e.key_text t) w = bytes t
key_data (e.key_var x) w = value_of x w.vars

-- a text goes on with a value's text
abbrev pub with_text : List ℕ → (List ℕ → Does) → Data → Does
with_text t go = as_text (λ more. extended t more go)

-- ---- the nodes

abbrev mutual
  pub read : Reading → Expression Name → World → Then → Course
  read how (e.int n l) w k = give (int n) w k
  read how (e.text t l) w k = give (bytes t) w k
  read how (e.quote ps l) w k = parts ps [] w k
  read how (e.var x l) w k = give (value_of x w.vars) w k
  read how (e.constant c l) w k = constant_named c.text l w k
  read how (e.array xs l) w k = items xs no_elements w k
  read how (e.paren x l) w k = read Plain x w k
  read how (e.isset xs l) w k = all_set xs w k
  read how (e.is_empty x l) w k = read Quiet x w (on_value (λ d. give (truth (not (truth_of d)))) k)
  read how (e.exit l) w k = Stops Done w
  read how (e.exit_with x l) w k = read Plain x w (on_value exit_value k)
  read how (e.new c xs l) w k = Ticks w (no_class c w k)
  read how (e.new_var x xs l) w k = Ticks w (throws plain_error (codes "Undefined class") w k)
  read how (e.call f xs l) w k = Ticks w (sought f.text (λ c. arguments xs (passings c) [] (apply c)) w k)
  read how (e.call_var x xs l) w k = Ticks w (name_in (λ t. sought t (λ c. arguments xs (passings c) [] (apply c))) (value_of x w.vars) w k)
  read how (e.class_constant c m l) w k = no_class c w k
  read how (e.static_call c m xs l) w k = Ticks w (no_class c w k)
  read how (e.static_property c m l) w k = no_class c w k
  read how (e.class_text c l) w k = no_class c w k
  read how (e.post x xs l) w k = read Plain x w (on_value (accessed (reading_of (is_place (e.post x xs l)) how) xs) k)
  read how (e.chain x xs l) w k = read Plain x w (on_value (links xs) k)
  read how (e.print x l) w k = read Plain x w (on_value (as_text (λ t. put_out t (give (int (pos 1))))) k)
  read how (e.assign (e.var x i) op y l) w k = read Plain y w (on_value (assign_value x [] op) k)
  read how (e.assign (e.post (e.var x i) xs j) op y l) w k = steps xs [] (λ path v j. read Plain y v (on_value (assign_value x path op) j)) w k
  read how (e.assign (e.static_property c m i) op y l) w k = no_class c w k
  read how (e.assign z op y l) w k = throws plain_error [] w k
  read how (e.assign_reference x y l) w k = give (value_of y w.vars) (with_vars (referred x y w.vars) w) k
  read how (e.choice x xs l) w k = read Plain x w (on_value (branches xs) k)
  read how (e.coalesce x y l) w k = read Quiet x w (on_value (unless_null (read Plain y)) k)
  read how (e.compare x op y l) w k = read Plain x w (on_value (λ d v j. read Plain y v (compare_right op d j)) k)
  read how (e.unary op x l) w k = read Plain x w (on_value (before_value op) k)
  read how (e.instance_of x c l) w k = read Plain x w (on_value (λ d. give (truth false)) k)
  read how (e.instance_of_var x y l) w k = read Plain x w (on_value (λ d. give (truth false)) k)
  read how (e.step op (e.var x i) l) w k = step_value x [] op w k
  read how (e.step op (e.post (e.var x i) xs j) l) w k = steps xs [] (λ path. step_value x path op) w k
  read how (e.step op z l) w k = throws plain_error [] w k
  read how (e.cloned x l) w k = read Plain x w (on_value (λ d. throws plain_error (codes "Not an object")) k)
  read how (e.included kind x l) w k = Ticks w (read Plain x w (on_value (as_text (include_text kind)) k))

  -- arguments, each by the way in which the callee takes it, and then the call
  pub arguments : Expressions Name → List Passing → List Argument → (List Argument → Does) → World → Then → Course
  arguments e.no_more ps so_far go w k = go so_far w k
  arguments (e.expression (e.var x l) xs) ps so_far go w k = handed (first_passing ps) x (λ a. arguments xs (other_passings ps) (so_far ++ a ∷ []) go) w k
  arguments (e.expression x xs) ps so_far go w k = read Plain x w (on_value (λ d. arguments xs (other_passings ps) (so_far ++ passed d ∷ []) go) k)

  -- the parts of an interpolated text, each as a text before the next one is evaluated
  pub parts : QuoteParts Name → List ℕ → World → Then → Course
  parts e.no_parts t w k = give (bytes t) w k
  parts (e.part_bytes more ps) t w k = extended t more (parts ps) w k
  parts (e.part_var x ps) t w k = with_text t (parts ps) (value_of x w.vars) w k
  parts (e.part_index x i ps) t w k = place_read x (at (key_data i w) ∷ []) (with_text t (parts ps)) w k
  parts (e.part_property x m ps) t w k = place_read x (member m.text ∷ []) (with_text t (parts ps)) w k
  parts (e.part_embedded x ps) t w k = read Plain x w (on_value (with_text t (parts ps)) k)

  pub items : ArrayItems Name → Data → World → Then → Course
  items e.no_items a w k = give a w k
  items (e.item x rest) a w k = read Plain x w (on_value (λ d. with_element a next d (items rest)) k)
  items (e.pair x y rest) a w k = read Plain x w (on_value (λ i v j. read Plain y v (on_value (λ d. with_element a (at i) d (items rest)) j)) k)

  -- what stands behind the head of a post
  pub accessed : Reading → Accesses Name → Data → World → Then → Course
  accessed how e.no_accesses d w k = give d w k
  accessed how (e.index x rest) d w k = read Plain x w (indexed how d (accessed how rest) k)
  accessed how (e.append rest) d w k = accessed how rest d w k
  accessed how (e.property m rest) d w k = stepped_in how (member m.text) (accessed how rest) d w k
  accessed how (e.method m xs rest) d w k = Ticks w (throws plain_error (codes "Not an object") w k)

  -- the keys of a place, evaluated in order
  pub steps : Accesses Name → List Step → (List Step → World → Then → Course) → World → Then → Course
  steps e.no_accesses path go w k = go path w k
  steps (e.index x rest) path go w k = read Plain x w (on_value (λ d. steps rest (path ++ at d ∷ []) go) k)
  steps (e.append rest) path go w k = steps rest (path ++ next ∷ []) go w k
  steps (e.property m rest) path go w k = steps rest (path ++ member m.text ∷ []) go w k
  steps (e.method m xs rest) path go w k = throws plain_error [] w k

  pub links : Links Name → Data → World → Then → Course
  links e.no_links a w k = give a w k
  links (e.link op x rest) a w k = unless_decided (decided op a) (links rest) (λ v j. read Plain x v (right_of op a (links rest) j)) w k

  pub branches : Branches Name → Data → World → Then → Course
  branches e.no_branches d w k = give d w k
  branches (e.full x y rest) d w k = if_true d (read Plain x w (on_value (branches rest) k)) (read Plain y w (on_value (branches rest) k))
  branches (e.short y rest) d w k = if_true d (branches rest d w k) (read Plain y w (on_value (branches rest) k))

  pub all_set : Expressions Name → World → Then → Course
  all_set e.no_more w k = give (truth true) w k
  all_set (e.expression x xs) w k = read Quiet x w (on_value (and_set (all_set xs)) k)

abbrev pub expr : Expression Name → World → Then → Course
expr = read Plain
