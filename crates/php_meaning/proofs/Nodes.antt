-- Expressions and statements enter only functions that were declared, and declare only those that stand in them.
use Rattle.std.proofs.Common.{◌≡◌, ℕ, zero, suc, Bool, true, false, List, [], ◌∷◌, ◌++◌, refl, sym, subst, ◌∙◌}
use Rattle.std.specs.Prelude.{codes, not, pos, if◌then◌else◌}
use Rattle.std.specs.declared.option.Option.{Option}
use Rattle.std.specs.declared.option.Option.TheVariants.{Some, None}
use Rattle.std.specs.Str.{str_to_ascii_lowercase}
use Rattle.app_load.specs.Entries.{Entry, file, function}
use Rattle.php_tree.specs.declared.expr.AssignOp.{AssignOp}
use Rattle.php_tree.specs.declared.name.ConstName.{ConstName}
use Rattle.php_tree.specs.Expressions as e
use Rattle.php_tree.specs.Expressions.{Expression, Expressions, QuoteParts, ArrayItems, Accesses, Links, Branches}
use Rattle.php_tree.specs.Place.{is_place}
use Rattle.php_tree.specs.Statements as s
use Rattle.php_tree.specs.Statements.{Statement, Statements, Arms, Cases}
use Rattle.php_values.specs.Data.{Data, null, truth, int, bytes, array, object, array_pairs, Pairs, no_pairs, pair}
use Rattle.php_values.specs.Convert.{truth_of}
use Rattle.php_values.specs.Compare.{loose_equal}
use Rattle.php_world.specs.Steps.{Step, at, next, member}
use Rattle.php_world.specs.Variables.{shared_cell, global_named, referred, value_of, bound, static_cell, unset_variable}
use Rattle.php_world.specs.declared.cell.Cell.{Cell}
use Rattle.php_world.specs.declared.reading.Reading.{Reading}
use Rattle.php_world.specs.declared.reading.Reading.TheVariants.{Plain, Quiet}
use Rattle.php_meaning.specs.World.{World, Name, Declared, path_of, at_line, with_vars, with_function}
use Rattle.php_meaning.specs.Course.{Course, Stops, Turns, Loop, While, Do, For, Signal, Gives, Normal, Returned, Thrown, Breaks, Continues, Then, Does, give, hand, on_value, then_do}
use Rattle.php_meaning.specs.Refusals.{fatal, answered, value_refused, throws, plain_error}
use Rattle.php_meaning.specs.Events.{Done}
use Rattle.php_meaning.specs.Operators.{as_text, extended, put_out, right_of, unless_decided, decided, compare_right, compared, before_value, is_null}
use Rattle.php_meaning.specs.Constants.{constant_named, constant_value, no_elements, with_element, fixed}
use Rattle.php_meaning.specs.Hints.{given_by}
use Rattle.php_meaning.specs.Calls.{Callee, sought, Argument, passed, shares, named, Passing, by_value, by_cell, by_name, passings}
use Rattle.php_meaning.specs.Calls as c
use Rattle.php_meaning.specs.Apply.{apply}
use Rattle.order_map.specs.declared.key.Key.{Key}
use Rattle.php_meaning.specs.declared.fatal.FatalName.TheVariants as name
use Rattle.php_meaning.specs.Stores.{stepped_in, indexed, place_read, assign_value, step_value, include_text}
use Rattle.php_meaning.specs.Stores as st
use Rattle.php_meaning.specs.Expressions as x
use Rattle.php_meaning.specs.Expressions.{read, arguments, parts, items, accessed, steps, links, branches, all_set}
use Rattle.php_meaning.specs.Statements as t
use Rattle.php_meaning.specs.Statements.{statement, statements, arms, cases, bodies, default_of, turn, file_statements, Hoisted, hoisted, refused, hoist, looped, switched, declared_as}
use Rattle.php_meaning.proofs.Good.{AllFine, FineStatement, FineStatements, FineArms, FineCases, FineLoop, FineIn, Good, GoodThen, GoodDoes}
use Rattle.php_meaning.proofs.Declares.{on-value, then-do, answer, either, either_course, value-refused, right-of, undecided, before-value, compares, as-text, extends, puts-out}
use Rattle.php_meaning.proofs.Entering.{constant-named, with-element, fixes, FineCallee, seeks, applies, steps_in, reads_place, stores, unsets, assigns, steps_value, includes}
use Rattle.php_meaning.proofs.Cutting.{FineHoisted, Equations}

module _ (Fine : Entry → Type 0) (files : (path : List ℕ) → Fine (file path)) (p : List ℕ) where
  names : (go : List ℕ → Does) → ((t : List ℕ) → GoodDoes Fine p (go t)) → (d : Data) → GoodDoes Fine p (x.name_in go d)
  names go h null = λ w k f g. tt {0}
  names go h (truth b) = λ w k f g. tt {0}
  names go h (int n) = λ w k f g. tt {0}
  names go h (bytes t) = h t
  names go h (array a) = λ w k f g. tt {0}
  names go h (object n) = λ w k f g. tt {0}

  hands : (q : Passing) (y : Name) (go : Argument → Does) → ((a : Argument) → GoodDoes Fine p (go a)) → GoodDoes Fine p (x.handed q y go)
  hands by_value y go h = λ w k f g. h (passed (value_of y w.vars)) w k f g
  hands by_cell y go h = λ w k f g. h (shares (shared_cell y w.vars).0) (with_vars (shared_cell y w.vars).1 w) k f g
  hands by_name y go h = λ w k f g. h (named y) w k f g

  exits : (d : Data) → GoodDoes Fine p (x.exit_value d)
  exits null = λ w k f g. tt {0}
  exits (truth b) = λ w k f g. tt {0}
  exits (int n) = λ w k f g. tt {0}
  exits (bytes t) = λ w k f g. puts-out Fine p t (λ v j. Stops Done v) (λ v j f' g'. tt {0}) w k f g
  exits (array a) = λ w k f g. tt {0}
  exits (object n) = λ w k f g. tt {0}

  unless-null : (other : Does) → GoodDoes Fine p other → (d : Data) → GoodDoes Fine p (x.unless_null other d)
  unless-null other h d w k f g = either_course Fine p (is_null d) (other w k) (give d w k) (h w k f g) (g (Gives d) w f)

  and-set : (more : Does) → GoodDoes Fine p more → (d : Data) → GoodDoes Fine p (x.and_set more d)
  and-set more h d w k f g = either_course Fine p (is_null d) (give (truth false) w k) (more w k) (g (Gives (truth false)) w f) (h w k f g)

  with-text : (t : List ℕ) (go : List ℕ → Does) → ((t : List ℕ) → GoodDoes Fine p (go t)) → (d : Data) → GoodDoes Fine p (x.with_text t go d)
  with-text t go h d = as-text Fine p (λ more. extended t more go) (λ more. extends Fine p t more go h) d

  prints : (go : Does) → GoodDoes Fine p go → (d : Data) → GoodDoes Fine p (as_text (λ t. put_out t go) d)
  prints go h d = as-text Fine p (λ t. put_out t go) (λ t. puts-out Fine p t go h) d

  mutual
    pub reads : (how : Reading) (y : Expression Name) → GoodDoes Fine p (read how y)
    reads how (e.int n l) w k f g = g (Gives (int n)) w f
    reads how (e.text t l) w k f g = g (Gives (bytes t)) w f
    reads how (e.quote ps l) w k f g = quotes ps [] w k f g
    reads how (e.var y l) w k f g = g (Gives (value_of y w.vars)) w f
    reads how (e.constant c l) w k f g = constant-named Fine p c.text l w k f g
    reads how (e.array xs l) w k f g = has_items xs no_elements w k f g
    reads how (e.paren y l) w k f g = reads Plain y w k f g
    reads how (e.isset xs l) w k f g = sets xs w k f g
    reads how (e.is_empty y l) w k f g = reads Quiet y w _ f (on-value Fine p (λ d. give (truth (not (truth_of d)))) k (λ d w k f g. g (Gives (truth (not (truth_of d)))) w f) g)
    reads how (e.exit l) w k f g = tt {0}
    reads how (e.exit_with y l) w k f g = reads Plain y w _ f (on-value Fine p x.exit_value k exits g)
    reads how (e.new c xs l) w k f g = tt {0}
    reads how (e.new_var y xs l) w k f g = tt {0}
    reads how (e.call n xs l) w k f g =
        seeks Fine p n.text (λ c. arguments xs (passings c) [] (apply c)) (λ c fine. hands_over xs (passings c) [] (apply c) (λ us. applies Fine p c us fine)) w k f g
    reads how (e.call_var y xs l) w k f g =
        names (λ t. sought t (λ c. arguments xs (passings c) [] (apply c)))
        (λ t. seeks Fine p t (λ c. arguments xs (passings c) [] (apply c)) (λ c fine. hands_over xs (passings c) [] (apply c) (λ us. applies Fine p c us fine))) (value_of y w.vars) w k f g
    reads how (e.class_constant c m l) w k f g = tt {0}
    reads how (e.static_call c m xs l) w k f g = tt {0}
    reads how (e.static_property c m l) w k f g = tt {0}
    reads how (e.class_text c l) w k f g = tt {0}
    reads how (e.post y xs l) w k f g =
        reads Plain y w _ f (on-value Fine p (accessed (x.reading_of (is_place (e.post y xs l)) how) xs) k (accesses (x.reading_of (is_place (e.post y xs l)) how) xs) g)
    reads how (e.chain y xs l) w k f g = reads Plain y w _ f (on-value Fine p (links xs) k (has_links xs) g)
    reads how (e.print y l) w k f g = reads Plain y w _ f (on-value Fine p (as_text (λ t. put_out t (give (int (pos 1))))) k (prints (give (int (pos 1))) (λ w k f g. g (Gives (int (pos 1))) w f)) g)
    reads how (e.assign (e.var y i) op z l) w k f g = reads Plain z w _ f (on-value Fine p (assign_value y [] op) k (assigns Fine p y [] op) g)
    reads how (e.assign (e.post (e.var y i) xs j) op z l) w k f g =
        has_steps xs [] (λ path v j. read Plain z v (on_value (assign_value y path op) j)) (λ path v j f' g'. reads Plain z v _ f' (on-value Fine p (assign_value y path op) j (assigns Fine p y path op) g')) w k f g
    reads how (e.assign (e.static_property c m i) op z l) w k f g = tt {0}
    reads how (e.assign y op z l) w k f g = tt {0}
    reads how (e.assign_reference y z l) w k f g = g (Gives (value_of z w.vars)) (with_vars (referred y z w.vars) w) f
    reads how (e.choice y xs l) w k f g = reads Plain y w _ f (on-value Fine p (branches xs) k (has_branches xs) g)
    reads how (e.coalesce y z l) w k f g = reads Quiet y w _ f (on-value Fine p (x.unless_null (read Plain z)) k (unless-null (read Plain z) (reads Plain z)) g)
    reads how (e.compare y op z l) w k f g =
        reads Plain y w _ f (on-value Fine p (λ d v j. read Plain z v (compare_right op d j)) k (λ d v j f' g'. reads Plain z v _ f' (on-value Fine p (compared op d) j (compares Fine p op d) g')) g)
    reads how (e.unary op y l) w k f g = reads Plain y w _ f (on-value Fine p (before_value op) k (before-value Fine p op) g)
    reads how (e.instance_of y c l) w k f g = reads Plain y w _ f (on-value Fine p (λ d. give (truth false)) k (λ d w k f g. g (Gives (truth false)) w f) g)
    reads how (e.instance_of_var y z l) w k f g = reads Plain y w _ f (on-value Fine p (λ d. give (truth false)) k (λ d w k f g. g (Gives (truth false)) w f) g)
    reads how (e.step op (e.var y i) l) w k f g = steps_value Fine p y [] op w k f g
    reads how (e.step op (e.post (e.var y i) xs j) l) w k f g = has_steps xs [] (λ path. step_value y path op) (λ path. steps_value Fine p y path op) w k f g
    reads how (e.step op y l) w k f g = tt {0}
    reads how (e.cloned y l) w k f g = reads Plain y w _ f (on-value Fine p (λ d. throws plain_error (codes "Not an object")) k (λ d w k f g. tt {0}) g)
    reads how (e.included kind y l) w k f g = reads Plain y w _ f (on-value Fine p (as_text (include_text kind)) k (as-text Fine p (include_text kind) (includes Fine p files kind)) g)

    hands_over : (xs : Expressions Name) (ps : List Passing) (so_far : List Argument) (go : List Argument → Does) → ((us : List Argument) → GoodDoes Fine p (go us)) → GoodDoes Fine p (arguments xs ps so_far go)
    hands_over e.no_more ps so_far go h w k f g = h so_far w k f g
    hands_over (e.expression (e.var y l) xs) ps so_far go h w k f g =
        hands (x.first_passing ps) y (λ a. arguments xs (x.other_passings ps) (so_far ++ a ∷ []) go) (λ a. hands_over xs (x.other_passings ps) (so_far ++ a ∷ []) go h) w k f g
    hands_over (e.expression y xs) ps so_far go h w k f g =
        reads Plain y w (on_value (λ d. arguments xs (x.other_passings ps) (so_far ++ passed d ∷ []) go) k) f (on-value Fine p (λ d. arguments xs (x.other_passings ps) (so_far ++ passed d ∷ []) go) k (λ d. hands_over xs (x.other_passings ps) (so_far ++ passed d ∷ []) go h) g)

    quotes : (ps : QuoteParts Name) (t : List ℕ) → GoodDoes Fine p (parts ps t)
    quotes e.no_parts t w k f g = g (Gives (bytes t)) w f
    quotes (e.part_bytes more ps) t w k f g = extends Fine p t more (parts ps) (quotes ps) w k f g
    quotes (e.part_var y ps) t w k f g = with-text t (parts ps) (quotes ps) (value_of y w.vars) w k f g
    quotes (e.part_index y i ps) t w k f g = reads_place Fine p y (at (x.key_data i w) ∷ []) (x.with_text t (parts ps)) (with-text t (parts ps) (quotes ps)) w k f g
    quotes (e.part_property y m ps) t w k f g = reads_place Fine p y (member m.text ∷ []) (x.with_text t (parts ps)) (with-text t (parts ps) (quotes ps)) w k f g
    quotes (e.part_embedded y ps) t w k f g = reads Plain y w _ f (on-value Fine p (x.with_text t (parts ps)) k (with-text t (parts ps) (quotes ps)) g)

    has_items : (xs : ArrayItems Name) (d : Data) → GoodDoes Fine p (items xs d)
    has_items e.no_items d w k f g = g (Gives d) w f
    has_items (e.item y xs) d w k f g = reads Plain y w _ f (on-value Fine p (λ z. with_element d next z (items xs)) k (λ z. with-element Fine p d next z (items xs) (has_items xs)) g)
    has_items (e.pair y z xs) d w k f g =
        reads Plain y w _ f (on-value Fine p (λ i v j. read Plain z v (on_value (λ u. with_element d (at i) u (items xs)) j)) k
        (λ i v j f' g'. reads Plain z v _ f' (on-value Fine p (λ u. with_element d (at i) u (items xs)) j (λ u. with-element Fine p d (at i) u (items xs) (has_items xs)) g')) g)

    accesses : (how : Reading) (xs : Accesses Name) (d : Data) → GoodDoes Fine p (accessed how xs d)
    accesses how e.no_accesses d w k f g = g (Gives d) w f
    accesses how (e.index y xs) d w k f g =
        reads Plain y w _ f (on-value Fine p (λ i. stepped_in how (at i) (accessed how xs) d) k (λ i. steps_in Fine p how (at i) (accessed how xs) (accesses how xs) d) g)
    accesses how (e.append xs) d w k f g = accesses how xs d w k f g
    accesses how (e.property m xs) d w k f g = steps_in Fine p how (member m.text) (accessed how xs) (accesses how xs) d w k f g
    accesses how (e.method m us xs) d w k f g = tt {0}

    pub has_steps : (xs : Accesses Name) (path : List Step) (go : List Step → World → Then → Course) → ((path : List Step) → GoodDoes Fine p (go path)) → GoodDoes Fine p (steps xs path go)
    has_steps e.no_accesses path go h w k f g = h path w k f g
    has_steps (e.index y xs) path go h w k f g = reads Plain y w _ f (on-value Fine p (λ d. steps xs (path ++ at d ∷ []) go) k (λ d. has_steps xs (path ++ at d ∷ []) go h) g)
    has_steps (e.append xs) path go h w k f g = has_steps xs (path ++ next ∷ []) go h w k f g
    has_steps (e.property m xs) path go h w k f g = has_steps xs (path ++ member m.text ∷ []) go h w k f g
    has_steps (e.method m us xs) path go h w k f g = tt {0}

    has_links : (xs : Links Name) (d : Data) → GoodDoes Fine p (links xs d)
    has_links e.no_links d w k f g = g (Gives d) w f
    has_links (e.link o y xs) d w k f g =
        undecided Fine p (decided o d) (links xs) (λ v j. read Plain y v (right_of o d (links xs) j)) (has_links xs)
        (λ v j f' g'. reads Plain y v (right_of o d (links xs) j) f' (right-of Fine p o d (links xs) j (has_links xs) g')) w k f g

    has_branches : (xs : Branches Name) (d : Data) → GoodDoes Fine p (branches xs d)
    has_branches e.no_branches d w k f g = g (Gives d) w f
    has_branches (e.full y z xs) d w k f g =
        either_course Fine p (truth_of d) (read Plain y w (on_value (branches xs) k)) (read Plain z w (on_value (branches xs) k))
        (reads Plain y w (on_value (branches xs) k) f (on-value Fine p (branches xs) k (has_branches xs) g))
        (reads Plain z w (on_value (branches xs) k) f (on-value Fine p (branches xs) k (has_branches xs) g))
    has_branches (e.short z xs) d w k f g =
        either_course Fine p (truth_of d) (branches xs d w k) (read Plain z w (on_value (branches xs) k))
        (has_branches xs d w k f g) (reads Plain z w (on_value (branches xs) k) f (on-value Fine p (branches xs) k (has_branches xs) g))

    sets : (xs : Expressions Name) → GoodDoes Fine p (all_set xs)
    sets e.no_more w k f g = g (Gives (truth true)) w f
    sets (e.expression y xs) w k f g = reads Quiet y w _ f (on-value Fine p (x.and_set (all_set xs)) k (and-set (all_set xs) (sets xs)) g)

  -- ---- statements

  loops : (again : Does) (k : Then) → GoodDoes Fine p again → GoodThen Fine p k → GoodThen Fine p (looped again k)
  loops again k h g (Gives d) w f = g (Gives d) w f
  loops again k h g Normal w f = h w k f g
  loops again k h g (Returned d) w f = g (Returned d) w f
  loops again k h g (Thrown n) w f = g (Thrown n) w f
  loops again k h g (Breaks zero) w f = g Normal w f
  loops again k h g (Breaks (suc n)) w f = g (Breaks n) w f
  loops again k h g (Continues zero) w f = h w k f g
  loops again k h g (Continues (suc n)) w f = g (Continues n) w f

  switches : (k : Then) → GoodThen Fine p k → GoodThen Fine p (switched k)
  switches k g (Gives d) w f = g (Gives d) w f
  switches k g Normal w f = g Normal w f
  switches k g (Returned d) w f = g (Returned d) w f
  switches k g (Thrown n) w f = g (Thrown n) w f
  switches k g (Breaks zero) w f = g Normal w f
  switches k g (Breaks (suc n)) w f = g (Breaks n) w f
  switches k g (Continues zero) w f = g Normal w f
  switches k g (Continues (suc n)) w f = g (Continues n) w f

  chooses : (u v : Does) → GoodDoes Fine p u → GoodDoes Fine p v → (d : Data) → GoodDoes Fine p (t.choose u v d)
  chooses u v h i d = either Fine p (truth_of d) u v h i

  tests : (body again : Does) → GoodDoes Fine p body → GoodDoes Fine p again → (d : Data) → GoodDoes Fine p (t.tested body again d)
  tests body again h i d w k f g = either_course Fine p (truth_of d) (body w (looped again k)) (k Normal w) (h w (looped again k) f (loops again k i g)) (g Normal w f)

  sets_key : (key : Option Name) (i : Key) (w : World) → FineIn Fine p w → FineIn Fine p (t.key_assigned key i w)
  sets_key None i w f = f
  sets_key (Some y) i w f = f

  each_pair : (key : Option Name) (y : Name) (body : Does) → GoodDoes Fine p body → (ps : Pairs) → GoodDoes Fine p (t.each_pair key y body ps)
  each_pair key y body h no_pairs w k f g = g Normal w f
  each_pair key y body h (pair i d ps) w k f g =
      h (t.element key y i d w) (looped (t.each_pair key y body ps) k) (sets_key key i (with_vars (c.assigned y d w.vars) w) f) (loops (t.each_pair key y body ps) k (each_pair key y body h ps) g)

  each : (key : Option Name) (y : Name) (body : Does) → GoodDoes Fine p body → (d : Data) → GoodDoes Fine p (t.each_of key y body d)
  each key y body h null = λ w k f g. g Normal w f
  each key y body h (truth b) = λ w k f g. g Normal w f
  each key y body h (int n) = λ w k f g. g Normal w f
  each key y body h (bytes t) = λ w k f g. g Normal w f
  each key y body h (array a) = each_pair key y body h (array_pairs a)
  each key y body h (object n) = λ w k f g. tt {0}

  returned-or : (d : Option Data) → GoodDoes Fine p (t.returned_or d)
  returned-or (Some d) = λ w k f g. g (Returned d) w f
  returned-or None = λ w k f g. tt {0}

  returns-with : (d : Option Data) → GoodDoes Fine p (t.return_with d)
  returns-with d w k f g = returned-or (given_by w.context.gives d) w k f g

  more_fine : (fs : List Declared) (x : Declared) → Fine x.entry → AllFine Fine fs → AllFine Fine (fs ++ x ∷ [])
  more_fine [] x fine h = (fine, tt {0})
  more_fine (y ∷ fs) x fine h = (h.0, more_fine fs x fine h.1)

  declares : (x : Declared) → Fine x.entry → GoodDoes Fine p (t.declare x)
  declares x fine w k f g =
      either_course Fine p (t.is_taken x.name w) (fatal name.Redeclared w k) (k Normal (with_function x w)) (tt {0}) (g Normal (with_function x w) (more_fine w.functions x fine f.0, f.1))

  constant-if : (n : List ℕ) (d : Data) (old : Option Data) (w : World) → FineIn Fine p w → FineIn Fine p (t.constant_if n d old w)
  constant-if n d (Some old) w f = f
  constant-if n d None w f = f

  constants-of : (cs : List (ConstName × Expression Name)) → GoodDoes Fine p (t.constants_of cs)
  constants-of [] w k f g = g Normal w f
  constants-of ((n, y) ∷ cs) w k f g =
      fixes Fine p y w (on_value (λ d v j. t.constants_of cs (t.new_constant n.text d v) j) k) f
      (on-value Fine p (λ d v j. t.constants_of cs (t.new_constant n.text d v) j) k (λ d v j f' g'. constants-of cs (t.new_constant n.text d v) j (constant-if n.text d (constant_value n.text 0 v) v f') g') g)

  globals-named : (xs : List Name) (w : World) → FineIn Fine p w → FineIn Fine p (t.globals_named xs w)
  globals-named [] w f = f
  globals-named (y ∷ xs) w f = globals-named xs (with_vars (global_named y w.vars) w) f

  first-value : (d : Option (Expression Name)) (go : Data → Does) → ((d : Data) → GoodDoes Fine p (go d)) → GoodDoes Fine p (t.first_value d go)
  first-value None go h = h null
  first-value (Some y) go h = λ w k f g. fixes Fine p y w (on_value go k) f (on-value Fine p go k h g)

  static-or : (key : List ℕ) (y : Name) (d : Option (Expression Name)) (cell : Option Cell) (go : Does) → GoodDoes Fine p go → GoodDoes Fine p (t.static_or key y d cell go)
  static-or key y d (Some cell) go h w k f g = h (with_vars (bound y cell w.vars) w) k f g
  static-or key y d None go h w k f g = first-value d (λ d v j. go (t.static_made key y d v) j) (λ d v j f' g'. h (t.static_made key y d v) j f' g') w k f g

  statics-named : (xs : List (Name × Option (Expression Name))) → GoodDoes Fine p (t.statics_named xs)
  statics-named [] w k f g = g Normal w f
  statics-named ((y, d) ∷ xs) w k f g =
      static-or (t.static_key w.context.owner y) y d (static_cell (t.static_key w.context.owner y) w.vars) (t.statics_named xs) (statics-named xs) w k f g

  echoes : (xs : Expressions Name) → GoodDoes Fine p (t.echoes xs)
  echoes e.no_more w k f g = g Normal w f
  echoes (e.expression y xs) w k f g = reads Plain y w (on_value (as_text (λ u. put_out u (t.echoes xs))) k) f (on-value Fine p (as_text (λ u. put_out u (t.echoes xs))) k (prints (t.echoes xs) (echoes xs)) g)

  last-of : (xs : Expressions Name) (d : Data) (go : Data → Does) → ((d : Data) → GoodDoes Fine p (go d)) → GoodDoes Fine p (t.last_of xs d go)
  last-of e.no_more d go h = h d
  last-of (e.expression y xs) d go h = λ w k f g. reads Plain y w (on_value (λ v. t.last_of xs v go) k) f (on-value Fine p (λ v. t.last_of xs v go) k (λ v. last-of xs v go h) g)

  all-unset : (xs : Expressions Name) → GoodDoes Fine p (t.all_unset xs)
  all-unset e.no_more w k f g = g Normal w f
  all-unset (e.expression (e.var y l) xs) w k f g = all-unset xs (with_vars (unset_variable y w.vars) w) k f g
  all-unset (e.expression (e.post (e.var y i) ys l) xs) w k f g = has_steps ys [] (λ path. st.unset_at y path (t.all_unset xs)) (λ path. unsets Fine p y path (t.all_unset xs) (all-unset xs)) w k f g
  all-unset (e.expression (e.static_property n m l) xs) w k f g = tt {0}
  all-unset (e.expression y xs) w k f g = all-unset xs w k f g

  mutual
    does : (y : Statement Name) → FineStatement Fine p y → GoodDoes Fine p (statement y)
    does (s.inline u l) h w k f g = puts-out Fine p u (hand Normal) (λ w k f g. g Normal w f) (at_line l w) k f g
    does (s.echo xs l) h w k f g = echoes xs (at_line l w) k f g
    does (s.evaluate y l) h w k f g = reads Plain y (at_line l w) (on_value (λ d. hand Normal) k) f (on-value Fine p (λ d. hand Normal) k (λ d w k f g. g Normal w f) g)
    does (s.nothing l) h w k f g = g Normal w f
    does (s.block ss l) h w k f g = all_do ss h w k f g
    does (s.conditional xs ss l) h w k f g = has_arms xs (statements ss) h.0 (all_do ss h.1) (at_line l w) k f g
    does (s.while_loop y ss l) h w k f g = (subst (λ q. FineStatements Fine q ss) (sym f.1) h, f.0, λ z v f'. g z v (f'.0, f'.1 ∙ f.1))
    does (s.do_loop ss y l) h w k f g = (subst (λ q. FineStatements Fine q ss) (sym f.1) h, f.0, λ z v f'. g z v (f'.0, f'.1 ∙ f.1))
    does (s.for_loop xs ys zs ss l) h w k f g = last-of xs null (λ d v j. Turns (For ys zs ss l) v j) (λ d v j f' g'. (subst (λ q. FineStatements Fine q ss) (sym f'.1) h, f'.0, λ z u f''. g' z u (f''.0, f''.1 ∙ f'.1))) (at_line l w) k f g
    does (s.foreach y key z ss l) h w k f g = reads Plain y (at_line l w) (on_value (t.each_of key z (statements ss)) k) f (on-value Fine p (t.each_of key z (statements ss)) k (each key z (statements ss) (all_do ss h)) g)
    does (s.switch y cs l) h w k f g =
        reads Plain y (at_line l w) (on_value (λ d v j. cases cs (default_of cs) d v (switched j)) k) f
        (on-value Fine p (λ d v j. cases cs (default_of cs) d v (switched j)) k (λ d v j f' g'. has_cases cs (default_of cs) h (has_default cs h) d v (switched j) f' (switches j g')) g)
    does (s.break n l) h w k f g = g (Breaks (t.around n)) w f
    does (s.continue n l) h w k f g = g (Continues (t.around n)) w f
    does (s.return None l) h w k f g = returns-with None (at_line l w) k f g
    does (s.return (Some y) l) h w k f g = reads Plain y (at_line l w) (on_value (λ d. t.return_with (Some d)) k) f (on-value Fine p (λ d. t.return_with (Some d)) k (λ d. returns-with (Some d)) g)
    does (s.global xs l) h w k f g = g Normal (t.globals_named xs (at_line l w)) (globals-named xs (at_line l w) f)
    does (s.static_vars xs l) h w k f g = statics-named xs (at_line l w) k f g
    does (s.unset xs l) h w k f g = all-unset xs (at_line l w) k f g
    does (s.throw y l) h w k f g = reads Plain y (at_line l w) (on_value (λ d. throws plain_error (codes "Not throwable")) k) f (on-value Fine p (λ d. throws plain_error (codes "Not throwable")) k (λ d w k f g. tt {0}) g)
    does (s.try ss cs l) h w k f g = all_do ss h (at_line l w) k f g
    does (s.function (s.with_body n ss span) l) h w k f g = declares (declared_as (path_of w.context.owner) n) (subst (λ q. Fine (declared_as q n).entry) (sym f.1) h) (at_line l w) k f g
    does (s.class n l) h w k f g = g Normal (at_line l w) f
    does (s.constants cs l) h w k f g = constants-of cs (at_line l w) k f g
    does (s.removed n path m l) h w k f g = g Normal w f

    pub all_do : (ss : Statements Name) → FineStatements Fine p ss → GoodDoes Fine p (statements ss)
    all_do s.no_more h w k f g = g Normal w f
    all_do (s.statement y ss) h w k f g = does y h.0 w (then_do (statements ss) k) f (then-do Fine p (statements ss) k (all_do ss h.1) g)

    has_arms : (xs : Arms Name) (otherwise : World → Then → Course) → FineArms Fine p xs → GoodDoes Fine p otherwise → GoodDoes Fine p (arms xs otherwise)
    has_arms s.no_arms otherwise h i w k f g = i w k f g
    has_arms (s.arm y ss xs) otherwise h i w k f g =
        reads Plain y w (on_value (t.choose (statements ss) (arms xs otherwise)) k) f (on-value Fine p (t.choose (statements ss) (arms xs otherwise)) k (chooses (statements ss) (arms xs otherwise) (all_do ss h.0) (has_arms xs otherwise h.1 i)) g)

    has_cases : (cs : Cases Name) (otherwise : World → Then → Course) → FineCases Fine p cs → GoodDoes Fine p otherwise → (d : Data) → GoodDoes Fine p (cases cs otherwise d)
    has_cases s.no_cases otherwise h i d w k f g = i w k f g
    has_cases (s.case y ss cs) otherwise h i d w k f g =
        reads Plain y w (on_value (λ z. answered value_refused (λ same v j. if same then statements ss v (then_do (bodies cs) j) else cases cs otherwise d v j) (loose_equal d z)) k) f
        (on-value Fine p (λ z. answered value_refused (λ same v j. if same then statements ss v (then_do (bodies cs) j) else cases cs otherwise d v j) (loose_equal d z)) k
        (λ z. answer Fine p value_refused (λ same v j. if same then statements ss v (then_do (bodies cs) j) else cases cs otherwise d v j) (value-refused Fine p)
        (λ same v j f' g'. either_course Fine p same (statements ss v (then_do (bodies cs) j)) (cases cs otherwise d v j) (all_do ss h.0 v (then_do (bodies cs) j) f' (then-do Fine p (bodies cs) j (has_bodies cs h.1) g')) (has_cases cs otherwise h.1 i d v j f' g'))
        (loose_equal d z)) g)
    has_cases (s.default_case ss cs) otherwise h i d w k f g = has_cases cs otherwise h.1 i d w k f g

    has_bodies : (cs : Cases Name) → FineCases Fine p cs → GoodDoes Fine p (bodies cs)
    has_bodies s.no_cases h w k f g = g Normal w f
    has_bodies (s.case y ss cs) h w k f g = all_do ss h.0 w (then_do (bodies cs) k) f (then-do Fine p (bodies cs) k (has_bodies cs h.1) g)
    has_bodies (s.default_case ss cs) h w k f g = all_do ss h.0 w (then_do (bodies cs) k) f (then-do Fine p (bodies cs) k (has_bodies cs h.1) g)

    has_default : (cs : Cases Name) → FineCases Fine p cs → GoodDoes Fine p (default_of cs)
    has_default s.no_cases h w k f g = g Normal w f
    has_default (s.case y ss cs) h w k f g = has_default cs h.1 w k f g
    has_default (s.default_case ss cs) h w k f g = all_do ss h.0 w (then_do (bodies cs) k) f (then-do Fine p (bodies cs) k (has_bodies cs h.1) g)

  -- ---- turns and files

  again_at : (loop : Loop) → FineLoop Fine p loop → GoodDoes Fine p (Turns loop)
  again_at loop h w k f g = (subst (λ q. FineLoop Fine q loop) (sym f.1) h, f.0, λ z v f'. g z v (f'.0, f'.1 ∙ f.1))

  pub turns : (loop : Loop) → FineLoop Fine p loop → GoodDoes Fine p (turn loop)
  turns (While y ss l) h w k f g =
      reads Plain y (at_line l w) (on_value (t.tested (statements ss) (Turns (While y ss l))) k) f (on-value Fine p (t.tested (statements ss) (Turns (While y ss l))) k (tests (statements ss) (Turns (While y ss l)) (all_do ss h) (again_at (While y ss l) h)) g)
  turns (Do ss y l) h w k f g =
      all_do ss h w (looped (λ v j. read Plain y (at_line l v) (on_value (t.on_test (Turns (Do ss y l))) j)) k) f
      (loops (λ v j. read Plain y (at_line l v) (on_value (t.on_test (Turns (Do ss y l))) j)) k
      (λ v j f' g'. reads Plain y (at_line l v) (on_value (t.on_test (Turns (Do ss y l))) j) f' (on-value Fine p (t.on_test (Turns (Do ss y l))) j (chooses (Turns (Do ss y l)) (hand Normal) (again_at (Do ss y l) h) (λ w k f g. g Normal w f)) g')) g)
  turns (For ys zs ss l) h w k f g =
      last-of ys (truth true) (t.tested (statements ss) (λ v j. t.last_of zs null (λ d. Turns (For ys zs ss l)) (at_line l v) j))
      (tests (statements ss) (λ v j. t.last_of zs null (λ d. Turns (For ys zs ss l)) (at_line l v) j) (all_do ss h) (λ v j f' g'. last-of zs null (λ d. Turns (For ys zs ss l)) (λ d. again_at (For ys zs ss l) h) (at_line l v) j f' g')) (at_line l w) k f g

  pub file_does : (ss : Statements Name) → FineStatements Fine p ss → GoodDoes Fine p (file_statements ss)
  file_does s.no_more h w k f g = g Normal w f
  file_does (s.statement (s.function n l) ss) h w k f g = file_does ss h.1 w k f g
  file_does (s.statement y ss) h w k f g = does y h.0 w (then_do (file_statements ss) k) f (then-do Fine p (file_statements ss) k (file_does ss h.1) g)

  hoists_if : (b : Bool) (l : ℕ) (more : Hoisted) → FineHoisted Fine p more → FineHoisted Fine p (t.hoist_if b l more)
  hoists_if true l more h = tt {0}
  hoists_if false l more h = h

  pub hoists : (ss : Statements Name) (w : World) → FineStatements Fine p ss → FineIn Fine p w → FineHoisted Fine p (hoist p ss w)
  hoists s.no_more w h f = f
  hoists (s.statement (s.function (s.with_body n b span) l) ss) w h f =
      hoists_if (t.is_taken (declared_as p n).name w) l (hoist p ss (with_function (declared_as p n) w)) (hoists ss (with_function (declared_as p n) w) h.1 (more_fine w.functions (declared_as p n) h.0 f.0, f.1))
  hoists (s.statement y ss) w h f = hoists ss w h.1 f

pub equations : (Fine : Entry → Type 0) → ((path : List ℕ) → Fine (file path)) → Equations Fine
equations Fine files = record {
  of_statements = λ p ss w k h f g. all_do Fine files p ss h w k f g;
  of_file = λ p ss w k h f g. file_does Fine files p ss h w k f g;
  of_turn = λ p loop w k h f g. turns Fine files p loop h w k f g;
}
