-- A tree with the bodies of its functions taken out, and the table of the bodies, each with the bodies inside it taken out.
-- Lines stay, and that a function has a body; the places of bodies do not.
use Rattle.std.specs.Prelude.{ℕ, List, [], ◌∷◌, ◌++◌}
use Rattle.php_tree.specs.declared.file.Span.{Span}
use Rattle.php_tree.specs.Functions.{entry_name, class_prefix}
use Rattle.php_tree.specs.Statements as s
use Rattle.php_tree.specs.Statements.{Head, Statement, Statements, Arms, Cases, Clauses, Function, Class, Members}

abbrev pub no_span : Span
no_span = record { from = 0; to = 0 }

-- a function with an empty body
abbrev pub emptied : {V : Type 0} → Function V → Function V
emptied (s.with_body h ss at) = s.with_body h s.no_more no_span

abbrev pub emptied_members : {V : Type 0} → Members V → Members V
emptied_members s.no_members = s.no_members
emptied_members (s.class_constants cs l ms) = s.class_constants cs l (emptied_members ms)
emptied_members (s.properties mods ps l ms) = s.properties mods ps l (emptied_members ms)
emptied_members (s.method mods f l ms) = s.method mods (emptied f) l (emptied_members ms)
emptied_members (s.bodiless mods h l ms) = s.bodiless mods h l (emptied_members ms)

abbrev pub emptied_class : {V : Type 0} → Class V → Class V
emptied_class (s.with_members k n p is ms l) = s.with_members k n p is (emptied_members ms) l

abbrev mutual
  pub without_bodies : {V : Type 0} → Statement V → Statement V
  without_bodies (s.block ss l) = s.block (all_without_bodies ss) l
  without_bodies (s.conditional arms ss l) = s.conditional (arms_without_bodies arms) (all_without_bodies ss) l
  without_bodies (s.while_loop e ss l) = s.while_loop e (all_without_bodies ss) l
  without_bodies (s.do_loop ss e l) = s.do_loop (all_without_bodies ss) e l
  without_bodies (s.for_loop a b c ss l) = s.for_loop a b c (all_without_bodies ss) l
  without_bodies (s.foreach e k v ss l) = s.foreach e k v (all_without_bodies ss) l
  without_bodies (s.switch e arms l) = s.switch e (cases_without_bodies arms) l
  without_bodies (s.try ss cs l) = s.try (all_without_bodies ss) (clauses_without_bodies cs) l
  without_bodies (s.function f l) = s.function (emptied f) l
  without_bodies (s.class c l) = s.class (emptied_class c) l
  without_bodies x = x

  pub all_without_bodies : {V : Type 0} → Statements V → Statements V
  all_without_bodies s.no_more = s.no_more
  all_without_bodies (s.statement x xs) = s.statement (without_bodies x) (all_without_bodies xs)

  pub arms_without_bodies : {V : Type 0} → Arms V → Arms V
  arms_without_bodies s.no_arms = s.no_arms
  arms_without_bodies (s.arm e ss arms) = s.arm e (all_without_bodies ss) (arms_without_bodies arms)

  pub cases_without_bodies : {V : Type 0} → Cases V → Cases V
  cases_without_bodies s.no_cases = s.no_cases
  cases_without_bodies (s.case e ss arms) = s.case e (all_without_bodies ss) (cases_without_bodies arms)
  cases_without_bodies (s.default_case ss arms) = s.default_case (all_without_bodies ss) (cases_without_bodies arms)

  pub clauses_without_bodies : {V : Type 0} → Clauses V → Clauses V
  clauses_without_bodies s.no_clauses = s.no_clauses
  clauses_without_bodies (s.clause ns v ss cs) = s.clause ns v (all_without_bodies ss) (clauses_without_bodies cs)

-- the bodies in text order, by the names of their functions
abbrev mutual
  pub bodies : {V : Type 0} → Statement V → List (List ℕ × Statements V)
  bodies (s.block ss l) = bodies_in ss
  bodies (s.conditional arms ss l) = arms_bodies arms ++ bodies_in ss
  bodies (s.while_loop e ss l) = bodies_in ss
  bodies (s.do_loop ss e l) = bodies_in ss
  bodies (s.for_loop a b c ss l) = bodies_in ss
  bodies (s.foreach e k v ss l) = bodies_in ss
  bodies (s.switch e arms l) = cases_bodies arms
  bodies (s.try ss cs l) = bodies_in ss ++ clauses_bodies cs
  bodies (s.function f l) = function_bodies [] f
  bodies (s.class c l) = class_bodies c
  bodies _ = []

  pub bodies_in : {V : Type 0} → Statements V → List (List ℕ × Statements V)
  bodies_in s.no_more = []
  bodies_in (s.statement x xs) = bodies x ++ bodies_in xs

  pub arms_bodies : {V : Type 0} → Arms V → List (List ℕ × Statements V)
  arms_bodies s.no_arms = []
  arms_bodies (s.arm e ss arms) = bodies_in ss ++ arms_bodies arms

  pub cases_bodies : {V : Type 0} → Cases V → List (List ℕ × Statements V)
  cases_bodies s.no_cases = []
  cases_bodies (s.case e ss arms) = bodies_in ss ++ cases_bodies arms
  cases_bodies (s.default_case ss arms) = bodies_in ss ++ cases_bodies arms

  pub clauses_bodies : {V : Type 0} → Clauses V → List (List ℕ × Statements V)
  clauses_bodies s.no_clauses = []
  clauses_bodies (s.clause ns v ss cs) = bodies_in ss ++ clauses_bodies cs

  pub function_bodies : {V : Type 0} → List ℕ → Function V → List (List ℕ × Statements V)
  function_bodies before (s.with_body h ss at) = (entry_name before h, all_without_bodies ss) ∷ bodies_in ss

  pub class_bodies : {V : Type 0} → Class V → List (List ℕ × Statements V)
  class_bodies (s.with_members k n p is ms l) = members_bodies (class_prefix n.text) ms

  pub members_bodies : {V : Type 0} → List ℕ → Members V → List (List ℕ × Statements V)
  members_bodies before s.no_members = []
  members_bodies before (s.class_constants cs l ms) = members_bodies before ms
  members_bodies before (s.properties mods ps l ms) = members_bodies before ms
  members_bodies before (s.method mods f l ms) = function_bodies before f ++ members_bodies before ms
  members_bodies before (s.bodiless mods h l ms) = members_bodies before ms
