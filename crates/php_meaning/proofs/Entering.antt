-- Calls, constants and places enter only functions that were declared, and declare none.
use Rattle.std.proofs.Common.{◌≡◌, ℕ, ◌+◌, Bool, true, false, List, [], ◌∷◌, ◌++◌, refl}
use Rattle.std.specs.Prelude.{codes, nat_lt, if◌then◌else◌}
use Rattle.std.specs.declared.option.Option.{Option}
use Rattle.std.specs.declared.option.Option.TheVariants.{Some, None}
use Rattle.std.specs.declared.result.Result.{Result}
use Rattle.std.specs.declared.result.Result.TheVariants.{Ok, Err}
use Rattle.std.specs.Option.{is_some}
use Rattle.std.specs.Str.{bytes_eq, str_to_ascii_lowercase}
use Rattle.app_load.specs.Entries.{Entry, file, function}
use Rattle.php_tree.specs.Expressions as e
use Rattle.php_tree.specs.Expressions.{Expression, ArrayItems, Links, Branches}
use Rattle.php_tree.specs.Statements.{Parameter}
use Rattle.php_tree.specs.declared.expr.AssignOp.{AssignOp}
use Rattle.php_tree.specs.declared.expr.AssignOp.TheVariants as set
use Rattle.php_tree.specs.declared.expr.StepOp.{StepOp}
use Rattle.php_tree.specs.declared.expr.StepOp.TheVariants as step
use Rattle.php_tree.specs.declared.expr.IncludeKind.{IncludeKind}
use Rattle.php_tree.specs.declared.expr.IncludeKind.TheVariants as kind
use Rattle.php_values.specs.declared.op.ArithOp.{ArithOp}
use Rattle.php_values.specs.declared.op.ArithOp.TheVariants as arith
use Rattle.php_values.specs.Data.{Data, null, truth, int, bytes, array, object}
use Rattle.php_values.specs.Convert.{truth_of}
use Rattle.php_values.specs.Arithmetic.{arithmetic}
use Rattle.php_world.specs.Steps.{Step, at, next, step_by}
use Rattle.php_world.specs.Places.{write_at}
use Rattle.php_world.specs.Stepping.{stepped}
use Rattle.php_world.specs.Variables.{read_place, write_place, unset_place}
use Rattle.php_world.specs.declared.reading.Reading.{Reading}
use Rattle.php_world.specs.declared.stepping.Direction.{Direction}
use Rattle.php_world.specs.declared.stepping.Direction.TheVariants.{Up, Down}
use Rattle.php_arguments.specs.Answers.{CallAnswer}
use Rattle.php_arguments.specs.Arguments.{text_argument}
use Rattle.php_arguments.specs.declared.fault.CallFault.TheVariants.{Arity}
use Rattle.php_meaning.specs.declared.fatal.FatalName.TheVariants as name
use Rattle.php_meaning.specs.World.{World, Name, Context, Position, Declared, path_of, with_owner, with_vars, with_constant, returned_to, restored, function_in, is_among}
use Rattle.php_meaning.specs.Folders.{file_named}
use Rattle.php_meaning.specs.Course.{Course, Enters, Ticks, Signal, Gives, Normal, Returned, Thrown, Breaks, Continues, Then, Does, give, on_value}
use Rattle.php_meaning.specs.Refusals.{fatal, answered, place_refused, call_refused, value_refused}
use Rattle.php_meaning.specs.Operators.{decided, unless_decided, right_of, before_value, if_true, refused_by}
use Rattle.php_meaning.specs.Constants.{constant_value, constant_or, constant_named, no_elements, with_element, fixed, fixed_items, fixed_links, fixed_branches}
use Rattle.php_meaning.specs.Hints.{taken, given_by}
use Rattle.php_meaning.specs.Library.{LibraryCall, ListAnswer, reads, changes, SystemCall, define, defined, function_exists, call_user_func, library_call, system_call}
use Rattle.php_meaning.specs.Calls as c
use Rattle.php_meaning.specs.Calls.{Callee, program, library, system, Argument, passed, shares, named, Bound, callee_of, called, sought, argument_value, argument_values, bound_as, max_depth}
use Rattle.php_meaning.specs.Apply as a
use Rattle.php_meaning.specs.Apply.{apply}
use Rattle.php_meaning.specs.Stores as st
use Rattle.php_meaning.proofs.Good.{AllFine, FineIn, Good, GoodThen, GoodDoes}
use Rattle.php_meaning.proofs.Declares.{on-value, answer, either_course, value-refused, place-refused, call-refused, refused-by, right-of, undecided, before-value}

-- ---- constants

module _ (Fine : Entry → Type 0) (p : List ℕ) where
  constant-or : (name : List ℕ) (d : Option Data) → GoodDoes Fine p (constant_or name d)
  constant-or name (Some d) = λ w k f g. g (Gives d) w f
  constant-or name None = λ w k f g. tt {0}

  pub constant-named : (name : List ℕ) (line : ℕ) → GoodDoes Fine p (constant_named name line)
  constant-named name line w k f g = constant-or name (constant_value name line w) w k f g

  pub with-element : (x : Data) (s : Step) (d : Data) (go : Data → Does) → ((d : Data) → GoodDoes Fine p (go d)) → GoodDoes Fine p (with_element x s d go)
  with-element x s d go h = answer Fine p place_refused go (place-refused Fine p) h (write_at (s ∷ []) (λ old. Ok d) x)

  mutual
    pub fixes : (x : Expression Name) → GoodDoes Fine p (fixed x)
    fixes (e.int n l) w k f g = g (Gives (int n)) w f
    fixes (e.text t l) w k f g = g (Gives (bytes t)) w f
    fixes (e.constant x l) w k f g = constant-named x.text l w k f g
    fixes (e.array xs l) w k f g = fixes_items xs no_elements w k f g
    fixes (e.chain x xs l) w k f g = fixes x w (on_value (fixed_links xs) k) f (on-value Fine p (fixed_links xs) k (fixes_links xs) g)
    fixes (e.choice x xs l) w k f g = fixes x w (on_value (fixed_branches xs) k) f (on-value Fine p (fixed_branches xs) k (fixes_branches xs) g)
    fixes (e.unary o x l) w k f g = fixes x w (on_value (before_value o) k) f (on-value Fine p (before_value o) k (before-value Fine p o) g)
    fixes (e.class_constant x m l) w k f g = tt {0}
    fixes (e.quote x l) w k f g = g (Gives null) w f
    fixes (e.var x l) w k f g = g (Gives null) w f
    fixes (e.paren x l) w k f g = g (Gives null) w f
    fixes (e.isset x l) w k f g = g (Gives null) w f
    fixes (e.is_empty x l) w k f g = g (Gives null) w f
    fixes (e.exit l) w k f g = g (Gives null) w f
    fixes (e.exit_with x l) w k f g = g (Gives null) w f
    fixes (e.new x y l) w k f g = g (Gives null) w f
    fixes (e.new_var x y l) w k f g = g (Gives null) w f
    fixes (e.call x y l) w k f g = g (Gives null) w f
    fixes (e.call_var x y l) w k f g = g (Gives null) w f
    fixes (e.static_call x m y l) w k f g = g (Gives null) w f
    fixes (e.static_property x m l) w k f g = g (Gives null) w f
    fixes (e.class_text x l) w k f g = g (Gives null) w f
    fixes (e.post x y l) w k f g = g (Gives null) w f
    fixes (e.print x l) w k f g = g (Gives null) w f
    fixes (e.assign x o y l) w k f g = g (Gives null) w f
    fixes (e.assign_reference x y l) w k f g = g (Gives null) w f
    fixes (e.coalesce x y l) w k f g = g (Gives null) w f
    fixes (e.compare x o y l) w k f g = g (Gives null) w f
    fixes (e.instance_of x y l) w k f g = g (Gives null) w f
    fixes (e.instance_of_var x y l) w k f g = g (Gives null) w f
    fixes (e.step o x l) w k f g = g (Gives null) w f
    fixes (e.cloned x l) w k f g = g (Gives null) w f
    fixes (e.included o x l) w k f g = g (Gives null) w f

    pub fixes_items : (xs : ArrayItems Name) (d : Data) → GoodDoes Fine p (fixed_items xs d)
    fixes_items e.no_items d w k f g = g (Gives d) w f
    fixes_items (e.item x xs) d w k f g = fixes x w _ f (on-value Fine p (λ y. with_element d next y (fixed_items xs)) k (λ y. with-element d next y (fixed_items xs) (fixes_items xs)) g)
    fixes_items (e.pair x y xs) d w k f g =
        fixes x w _ f (on-value Fine p (λ i v j. fixed y v (on_value (λ z. with_element d (at i) z (fixed_items xs)) j)) k
        (λ i v j f' g'. fixes y v _ f' (on-value Fine p (λ z. with_element d (at i) z (fixed_items xs)) j (λ z. with-element d (at i) z (fixed_items xs) (fixes_items xs)) g')) g)

    pub fixes_links : (xs : Links Name) (d : Data) → GoodDoes Fine p (fixed_links xs d)
    fixes_links e.no_links d w k f g = g (Gives d) w f
    fixes_links (e.link o x xs) d w k f g =
        undecided Fine p (decided o d) (fixed_links xs) (λ v j. fixed x v (right_of o d (fixed_links xs) j)) (fixes_links xs)
        (λ v j f' g'. fixes x v (right_of o d (fixed_links xs) j) f' (right-of Fine p o d (fixed_links xs) j (fixes_links xs) g')) w k f g

    pub fixes_branches : (xs : Branches Name) (d : Data) → GoodDoes Fine p (fixed_branches xs d)
    fixes_branches e.no_branches d w k f g = g (Gives d) w f
    fixes_branches (e.full x y xs) d w k f g =
        either_course Fine p (truth_of d) (fixed x w (on_value (fixed_branches xs) k)) (fixed y w (on_value (fixed_branches xs) k))
        (fixes x w (on_value (fixed_branches xs) k) f (on-value Fine p (fixed_branches xs) k (fixes_branches xs) g))
        (fixes y w (on_value (fixed_branches xs) k) f (on-value Fine p (fixed_branches xs) k (fixes_branches xs) g))
    fixes_branches (e.short y xs) d w k f g =
        either_course Fine p (truth_of d) (fixed_branches xs d w k) (fixed y w (on_value (fixed_branches xs) k))
        (fixes_branches xs d w k f g) (fixes y w (on_value (fixed_branches xs) k) f (on-value Fine p (fixed_branches xs) k (fixes_branches xs) g))

-- ---- calls

module _ (Fine : Entry → Type 0) where
  abbrev pub FineCallee : Callee → Type 0
  FineCallee (program f) = Fine f.entry
  FineCallee (library x) = Unit {0}
  FineCallee (system x) = Unit {0}

  abbrev FineFound : Option Declared → Type 0
  FineFound None = Unit {0}
  FineFound (Some f) = Fine f.entry

  abbrev FineCalled : Option Callee → Type 0
  FineCalled None = Unit {0}
  FineCalled (Some x) = FineCallee x

  found_either : (b : Bool) (x y : Option Declared) → FineFound x → FineFound y → FineFound (if b then x else y)
  found_either true x y h i = h
  found_either false x y h i = i

  found : (fs : List Declared) (name : List ℕ) → AllFine Fine fs → FineFound (function_in name fs)
  found [] name h = tt {0}
  found (f ∷ fs) name h = found_either (bytes_eq f.name name) (Some f) (function_in name fs) h.0 (found fs name h.1)

  of_system : (x : Option SystemCall) → FineCalled (c.system_or_none x)
  of_system None = tt {0}
  of_system (Some x) = tt {0}

  of_library : (x : Option LibraryCall) (y : Option Callee) → FineCalled y → FineCalled (c.library_or x y)
  of_library None y h = h
  of_library (Some x) y h = tt {0}

  of_program : (x : Option Declared) (y : Option Callee) → FineFound x → FineCalled y → FineCalled (c.program_or x y)
  of_program None y h i = i
  of_program (Some f) y h i = h

  callee-fine : (name : List ℕ) (w : World) → AllFine Fine w.functions → FineCalled (callee_of name w)
  callee-fine name w h =
      of_program (function_in name w.functions) (c.library_callee name) (found w.functions name h)
      (of_library (library_call name) (c.system_or_none (system_call name)) (of_system (system_call name)))

  module _ (p : List ℕ) where
    calls : (name : List ℕ) (go : Callee → Does) → ((x : Callee) → FineCallee x → GoodDoes Fine p (go x)) → (x : Option Callee) → FineCalled x → GoodDoes Fine p (called name go x)
    calls name go h None i = λ w k f g. tt {0}
    calls name go h (Some x) i = h x i

    pub seeks : (name : List ℕ) (go : Callee → Does) → ((x : Callee) → FineCallee x → GoodDoes Fine p (go x)) → GoodDoes Fine p (sought name go)
    seeks name go h w k f g = calls (str_to_ascii_lowercase name) go h (callee_of (str_to_ascii_lowercase name) w) (callee-fine (str_to_ascii_lowercase name) w f.0) w k f g

    given-or : (x : Declared) (d : Option Data) → GoodDoes Fine p (c.given_or x d)
    given-or x (Some d) = λ w k f g. g (Gives d) w f
    given-or x None = λ w k f g. tt {0}

    comes_back : (q : List ℕ) (x : Declared) (context : Context) (here : Position) (k : Then) → path_of context.owner ≡ p → GoodThen Fine p k → GoodThen Fine q (c.back x context here k)
    comes_back q x context here k o g (Returned d) w f = g (Gives d) (returned_to context here w) (f.0, o)
    comes_back q x context here k o g (Thrown n) w f = g (Thrown n) (returned_to context here w) (f.0, o)
    comes_back q x context here k o g (Gives d) w f = given-or x (given_by x.head.gives None) (returned_to context here w) k (f.0, o) g
    comes_back q x context here k o g Normal w f = given-or x (given_by x.head.gives None) (returned_to context here w) k (f.0, o) g
    comes_back q x context here k o g (Breaks n) w f = given-or x (given_by x.head.gives None) (returned_to context here w) k (f.0, o) g
    comes_back q x context here k o g (Continues n) w f = given-or x (given_by x.head.gives None) (returned_to context here w) k (f.0, o) g

    enters : (x : Declared) (bs : List Bound) → Fine x.entry → GoodDoes Fine p (c.enter x bs)
    enters x bs fine w k f g =
        either_course Fine p (nat_lt w.context.depth max_depth) (Enters x.entry (c.inside x bs w) (c.back x w.context w.at k)) (fatal name.Depth w k)
        (fine, (f.0, refl), comes_back (path_of x.entry) x w.context w.at k f.1 g) (tt {0})

    taken-or : (x : Declared) (n : ℕ) (go : Data → Does) → ((d : Data) → GoodDoes Fine p (go d)) → (d : Option Data) → GoodDoes Fine p (c.taken_or x n go d)
    taken-or x n go h (Some d) = h d
    taken-or x n go h None = λ w k f g. tt {0}

    defaults : (x : Declared) (d : Option (Expression Name)) (go : Data → Does) → ((d : Data) → GoodDoes Fine p (go d)) → GoodDoes Fine p (c.defaulted x d go)
    defaults x None go h = λ w k f g. tt {0}
    defaults x (Some d) go h = λ w k f g.
        fixes Fine (path_of x.entry) d (with_owner x.entry w) (λ s v. on_value go k s (with_owner w.context.owner v)) (f.0, refl)
        (λ s v f'. on-value Fine p go k h g s (with_owner w.context.owner v) (f'.0, f.1))

    binds : (x : Declared) (n : ℕ) (ps : List (Parameter Name)) (args : List Argument) (bs : List Bound) → Fine x.entry → GoodDoes Fine p (c.bind x n ps args bs)
    binds x n [] args bs fine = enters x bs fine
    binds x n (q ∷ ps) [] bs fine =
        defaults x q.default (λ d. c.taken_or x n (λ v. c.bind x (n + 1) ps [] (bs ++ c.has_value q.variable v ∷ [])) (taken q d))
        (λ d. taken-or x n (λ v. c.bind x (n + 1) ps [] (bs ++ c.has_value q.variable v ∷ [])) (λ v. binds x (n + 1) ps [] (bs ++ c.has_value q.variable v ∷ []) fine) (taken q d))
    binds x n (q ∷ ps) (y ∷ args) bs fine = λ w k f g.
        taken-or x n (λ v. c.bind x (n + 1) ps args (bs ++ bound_as q.variable y v ∷ [])) (λ v. binds x (n + 1) ps args (bs ++ bound_as q.variable y v ∷ []) fine) (taken q (argument_value w.vars y)) w k f g

    -- ---- calls of the library

    call_answer : {A : Type 0} (go : A → Does) → ((d : A) → GoodDoes Fine p (go d)) → (r : CallAnswer A) → GoodDoes Fine p (answered call_refused go r)
    call_answer go h r = answer Fine p call_refused go (call-refused Fine p) h r

    changes_first : (f : List Data → CallAnswer ListAnswer) (args : List Argument) → GoodDoes Fine p (a.change_first f args)
    changes_first f (named x ∷ args) = λ w k h g. call_answer (a.changed x) (λ r v j f' g'. g' (Gives r.value) (with_vars (c.assigned x (a.first_or_null r.after) v.vars) v) f') (f (argument_values w.vars (named x ∷ args))) w k h g
    changes_first f [] = λ w k h g. call-refused Fine p (a.not_counted (f (argument_values w.vars []))) w k h g
    changes_first f (passed x ∷ args) = λ w k h g. call-refused Fine p (a.not_counted (f (argument_values w.vars (passed x ∷ args)))) w k h g
    changes_first f (shares x ∷ args) = λ w k h g. call-refused Fine p (a.not_counted (f (argument_values w.vars (shares x ∷ args)))) w k h g

    library-done : (x : LibraryCall) (args : List Argument) → GoodDoes Fine p (a.library_done x args)
    library-done (reads f) args = λ w k h g. call_answer give (λ d v j f' g'. g' (Gives d) v f') (f (argument_values w.vars args)) w k h g
    library-done (changes f) args = λ w k h g. changes_first f args w k h g

    define-if : (name : List ℕ) (d : Data) (old : Option Data) → GoodDoes Fine p (a.define_if name d old)
    define-if name d (Some old) = λ w k f g. g (Gives (truth false)) w f
    define-if name d None = λ w k f g. g (Gives (truth true)) (with_constant name d w) f

    define-done : (args : List Argument) → GoodDoes Fine p (a.define_done args)
    define-done [] = λ w k f g. tt {0}
    define-done (x ∷ []) = λ w k f g. tt {0}
    define-done (x ∷ y ∷ []) = λ w k f g. call_answer (λ name w k. a.define_if name (argument_value w.vars y) (constant_value name 0 w) w k) (λ n v j f' g'. define-if n (argument_value v.vars y) (constant_value n 0 v) v j f' g') (text_argument (argument_value w.vars x)) w k f g
    define-done (x ∷ y ∷ z ∷ args) = λ w k f g. tt {0}

    defined-done : (args : List Argument) → GoodDoes Fine p (a.defined_done args)
    defined-done [] = λ w k f g. tt {0}
    defined-done (x ∷ []) = λ w k f g. call_answer (λ name w k. give (truth (is_some (constant_value name 0 w))) w k) (λ n v j f' g'. g' (Gives (truth (is_some (constant_value n 0 v)))) v f') (text_argument (argument_value w.vars x)) w k f g
    defined-done (x ∷ y ∷ args) = λ w k f g. tt {0}

    exists-done : (args : List Argument) → GoodDoes Fine p (a.exists_done args)
    exists-done [] = λ w k f g. tt {0}
    exists-done (x ∷ []) = λ w k f g. call_answer (λ name w k. give (truth (is_some (callee_of (str_to_ascii_lowercase name) w))) w k) (λ n v j f' g'. g' (Gives (truth (is_some (callee_of (str_to_ascii_lowercase n) v)))) v f') (text_argument (argument_value w.vars x)) w k f g
    exists-done (x ∷ y ∷ args) = λ w k f g. tt {0}

    pub applies : (x : Callee) (args : List Argument) → FineCallee x → GoodDoes Fine p (apply x args)
    applies (program f) args fine = binds f 1 f.head.parameters args [] fine
    applies (library x) args fine = library-done x args
    applies (system define) args fine = define-done args
    applies (system defined) args fine = defined-done args
    applies (system function_exists) args fine = exists-done args
    applies (system call_user_func) [] fine = λ w k f g. tt {0}
    applies (system call_user_func) (y ∷ args) fine = λ w k f g.
        call_answer (a.named_call (λ x. apply x args))
        (λ n v j f' g'. calls (str_to_ascii_lowercase n) (λ x. apply x args) (λ x. applies x args) (callee_of (str_to_ascii_lowercase n) v) (callee-fine (str_to_ascii_lowercase n) v f'.0) v j f' g')
        (text_argument (argument_value w.vars y)) w k f g

    -- ---- places

    pub steps_in : (how : Reading) (s : Step) (go : Data → Does) → ((d : Data) → GoodDoes Fine p (go d)) → (d : Data) → GoodDoes Fine p (st.stepped_in how s go d)
    steps_in how s go h d = answer Fine p place_refused go (place-refused Fine p) h (step_by how s d)

    pub reads_place : (x : Name) (path : List Step) (go : Data → Does) → ((d : Data) → GoodDoes Fine p (go d)) → GoodDoes Fine p (st.place_read x path go)
    reads_place x path go h w k f g = answer Fine p place_refused go (place-refused Fine p) h (read_place x path w.vars) w k f g

    pub stores : (x : Name) (path : List Step) (d : Data) (go : Does) → GoodDoes Fine p go → GoodDoes Fine p (st.stored x path d go)
    stores x path d go h w k f g = answer Fine p place_refused (λ vars v j. go (with_vars vars v) j) (place-refused Fine p) (λ vars v j f' g'. h (with_vars vars v) j f' g') (write_place x path (λ old. Ok d) w.vars) w k f g

    pub unsets : (x : Name) (path : List Step) (go : Does) → GoodDoes Fine p go → GoodDoes Fine p (st.unset_at x path go)
    unsets x path go h w k f g = answer Fine p place_refused (λ vars v j. go (with_vars vars v) j) (place-refused Fine p) (λ vars v j f' g'. h (with_vars vars v) j f' g') (unset_place x path w.vars) w k f g

    combines : (x : Name) (path : List Step) (o : ArithOp) (d : Data) → GoodDoes Fine p (st.combined x path o d)
    combines x path o d = reads_place x path (λ old. answered (refused_by o) (λ new. st.stored x path new (give new)) (arithmetic o old d))
        (λ old. answer Fine p (refused_by o) (λ new. st.stored x path new (give new)) (refused-by Fine p o) (λ new. stores x path new (give new) (λ w k f g. g (Gives new) w f)) (arithmetic o old d))

    pub assigns : (x : Name) (path : List Step) (o : AssignOp) (d : Data) → GoodDoes Fine p (st.assign_value x path o d)
    assigns x path set.Set d = stores x path d (give d) (λ w k f g. g (Gives d) w f)
    assigns x path set.Add d = combines x path arith.Add d
    assigns x path set.Sub d = combines x path arith.Subtract d
    assigns x path set.Mul d = combines x path arith.Multiply d
    assigns x path set.Div d = combines x path arith.Divide d
    assigns x path set.Join d = combines x path arith.Join d
    assigns x path set.Rem d = combines x path arith.Remainder d

    steps_one : (x : Name) (path : List Step) (way : Direction) (choose : Data → Data → Data) → GoodDoes Fine p (st.step_by_one x path way choose)
    steps_one x path way choose = reads_place x path (λ old. answered value_refused (λ new. st.stored x path new (give (choose old new))) (stepped way old))
        (λ old. answer Fine p value_refused (λ new. st.stored x path new (give (choose old new))) (value-refused Fine p) (λ new. stores x path new (give (choose old new)) (λ w k f g. g (Gives (choose old new)) w f)) (stepped way old))

    pub steps_value : (x : Name) (path : List Step) (o : StepOp) → GoodDoes Fine p (st.step_value x path o)
    steps_value x path step.IncrementBefore = steps_one x path Up (λ old new. new)
    steps_value x path step.DecrementBefore = steps_one x path Down (λ old new. new)
    steps_value x path step.IncrementAfter = steps_one x path Up (λ old new. old)
    steps_value x path step.DecrementAfter = steps_one x path Down (λ old new. old)

    -- ---- includes

    file_ends : (q : List ℕ) (context : Context) (here : Position) (k : Then) → path_of context.owner ≡ p → GoodThen Fine p k → GoodThen Fine q (st.file_back context here k)
    file_ends q context here k o g (Returned d) w f = g (Gives d) (restored context here w) (f.0, o)
    file_ends q context here k o g (Thrown n) w f = g (Thrown n) (restored context here w) (f.0, o)
    file_ends q context here k o g (Gives d) w f = g _ (restored context here w) (f.0, o)
    file_ends q context here k o g Normal w f = g _ (restored context here w) (f.0, o)
    file_ends q context here k o g (Breaks n) w f = g _ (restored context here w) (f.0, o)
    file_ends q context here k o g (Continues n) w f = g _ (restored context here w) (f.0, o)

    module _ (files : (path : List ℕ) → Fine (file path)) where
      enters_file : (path : List ℕ) → GoodDoes Fine p (st.enter_file path)
      enters_file path w k f g =
          either_course Fine p (nat_lt w.context.depth max_depth) (Enters (file path) (st.inside_file path w) (st.file_back w.context w.at k)) (fatal name.Depth w k)
          (files path, (f.0, refl), file_ends path w.context w.at k f.1 g) (tt {0})

      enters_once : (path : List ℕ) → GoodDoes Fine p (st.enter_once path)
      enters_once path w k f g = either_course Fine p (is_among path w.entered) (give (truth true) w k) (st.enter_file path w k) (g (Gives (truth true)) w f) (enters_file path w k f g)

      enters_by : (o : IncludeKind) (path : List ℕ) → GoodDoes Fine p (st.enter_by o path)
      enters_by kind.Include path = enters_file path
      enters_by kind.IncludeOnce path = enters_once path
      enters_by kind.Require path = enters_file path
      enters_by kind.RequireOnce path = enters_once path

      not_there : (o : IncludeKind) → GoodDoes Fine p (st.not_there o)
      not_there kind.Include = λ w k f g. g (Gives (truth false)) w f
      not_there kind.IncludeOnce = λ w k f g. g (Gives (truth false)) w f
      not_there kind.Require = λ w k f g. tt {0}
      not_there kind.RequireOnce = λ w k f g. tt {0}

      enters_found : (o : IncludeKind) (x : Option (List ℕ)) → GoodDoes Fine p (st.enter_found o x)
      enters_found o None = not_there o
      enters_found o (Some path) = enters_by o path

      pub includes : (o : IncludeKind) (t : List ℕ) → GoodDoes Fine p (st.include_text o t)
      includes o t w k f g = enters_found o (file_named t w) w k f g
