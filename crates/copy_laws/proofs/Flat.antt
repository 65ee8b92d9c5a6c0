-- A tree without its placeholders is no deeper.
use Rattle.std.proofs.Common.{ℕ, ◌+◌, ◌≤◌, max, List, [], ◌∷◌, arith}
use Rattle.std.specs.Prelude.{Option, Some, None}
use Rattle.php_tree.specs.Height.{height, heights, parameters_height, constants_height, defaults_height, statement_height, statements_height, arms_height, cases_height, clauses_height, function_height, members_height}
use Rattle.php_tree.specs.Statements as s
use Rattle.php_tree.specs.Statements.{Statement, Statements, Arms, Cases, Clauses, Function, Class, Members}
use Rattle.app_load.specs.Files.{Tree, File}
use Rattle.copy_laws.specs.Originals.{height_or_none, AreNoDeeper}
use Rattle.copy_laws.specs.Restored.{restored_before, restored, restored_arms, restored_cases, restored_clauses, restored_function, restored_members, restored_or_none, restored_files}

-- what stands in front of the same rest
front : (a b r : ℕ) → a ≤ b → max (a + 1) r ≤ max (b + 1) r
front a b r h = omega arith

-- the greater of two, each with what it is at most
both : (a b x y : ℕ) → a ≤ b → x ≤ y → max a x ≤ max b y
both a b x y h i = omega arith

itself : (a : ℕ) → a ≤ a
itself a = omega arith

onto : (a b c : ℕ) → a ≤ max b c → (d : ℕ) → c ≤ d → a ≤ max b d
onto a b c h d i = omega arith

right : (a b : ℕ) → a ≤ max b a
right a b = omega arith

mutual
  before_flat : (x : Statement (List ℕ)) (rest : Tree) → statements_height (restored_before x rest) ≤ max (statement_height x) (statements_height rest)
  before_flat (s.block ss l) rest = front (statements_height (restored ss)) (statements_height ss) (statements_height rest) (all_flat ss)
  before_flat (s.conditional arms ss l) rest = front (max (arms_height (restored_arms arms)) (statements_height (restored ss))) (max (arms_height arms) (statements_height ss)) (statements_height rest)
      (both (arms_height (restored_arms arms)) (arms_height arms) (statements_height (restored ss)) (statements_height ss) (arms_flat arms) (all_flat ss))
  before_flat (s.while_loop e ss l) rest = front (max (height e) (statements_height (restored ss))) (max (height e) (statements_height ss)) (statements_height rest)
      (both (height e) (height e) (statements_height (restored ss)) (statements_height ss) (itself (height e)) (all_flat ss))
  before_flat (s.do_loop ss e l) rest = front (max (height e) (statements_height (restored ss))) (max (height e) (statements_height ss)) (statements_height rest)
      (both (height e) (height e) (statements_height (restored ss)) (statements_height ss) (itself (height e)) (all_flat ss))
  before_flat (s.for_loop a b c ss l) rest =
      front (max (max (heights a) (heights b)) (max (heights c) (statements_height (restored ss)))) (max (max (heights a) (heights b)) (max (heights c) (statements_height ss))) (statements_height rest)
      (both (max (heights a) (heights b)) (max (heights a) (heights b)) (max (heights c) (statements_height (restored ss))) (max (heights c) (statements_height ss)) (itself (max (heights a) (heights b)))
      (both (heights c) (heights c) (statements_height (restored ss)) (statements_height ss) (itself (heights c)) (all_flat ss)))
  before_flat (s.foreach e k v ss l) rest = front (max (height e) (statements_height (restored ss))) (max (height e) (statements_height ss)) (statements_height rest)
      (both (height e) (height e) (statements_height (restored ss)) (statements_height ss) (itself (height e)) (all_flat ss))
  before_flat (s.switch e arms l) rest = front (max (height e) (cases_height (restored_cases arms))) (max (height e) (cases_height arms)) (statements_height rest)
      (both (height e) (height e) (cases_height (restored_cases arms)) (cases_height arms) (itself (height e)) (cases_flat arms))
  before_flat (s.try ss cs l) rest = front (max (statements_height (restored ss)) (clauses_height (restored_clauses cs))) (max (statements_height ss) (clauses_height cs)) (statements_height rest)
      (both (statements_height (restored ss)) (statements_height ss) (clauses_height (restored_clauses cs)) (clauses_height cs) (all_flat ss) (clauses_flat cs))
  before_flat (s.function f l) rest = front (function_height (restored_function f)) (function_height f) (statements_height rest) (function_flat f)
  before_flat (s.class (s.with_members k n e is ms i) l) rest = front (members_height (restored_members ms)) (members_height ms) (statements_height rest) (members_flat ms)
  before_flat (s.removed what path name l) rest = right (statements_height rest) 1
  before_flat x rest = itself (max (statement_height x) (statements_height rest))

  pub all_flat : (ss : Tree) → statements_height (restored ss) ≤ statements_height ss
  all_flat s.no_more = itself 0
  all_flat (s.statement x xs) = onto (statements_height (restored_before x (restored xs))) (statement_height x) (statements_height (restored xs)) (before_flat x (restored xs)) (statements_height xs) (all_flat xs)

  arms_flat : (xs : Arms (List ℕ)) → arms_height (restored_arms xs) ≤ arms_height xs
  arms_flat s.no_arms = itself 0
  arms_flat (s.arm e ss xs) = both (max (height e) (statements_height (restored ss))) (max (height e) (statements_height ss)) (arms_height (restored_arms xs)) (arms_height xs)
      (both (height e) (height e) (statements_height (restored ss)) (statements_height ss) (itself (height e)) (all_flat ss)) (arms_flat xs)

  cases_flat : (xs : Cases (List ℕ)) → cases_height (restored_cases xs) ≤ cases_height xs
  cases_flat s.no_cases = itself 0
  cases_flat (s.case e ss xs) = both (max (height e) (statements_height (restored ss))) (max (height e) (statements_height ss)) (cases_height (restored_cases xs)) (cases_height xs)
      (both (height e) (height e) (statements_height (restored ss)) (statements_height ss) (itself (height e)) (all_flat ss)) (cases_flat xs)
  cases_flat (s.default_case ss xs) = both (statements_height (restored ss)) (statements_height ss) (cases_height (restored_cases xs)) (cases_height xs) (all_flat ss) (cases_flat xs)

  clauses_flat : (xs : Clauses (List ℕ)) → clauses_height (restored_clauses xs) ≤ clauses_height xs
  clauses_flat s.no_clauses = itself 0
  clauses_flat (s.clause ns v ss xs) = both (statements_height (restored ss)) (statements_height ss) (clauses_height (restored_clauses xs)) (clauses_height xs) (all_flat ss) (clauses_flat xs)

  function_flat : (f : Function (List ℕ)) → function_height (restored_function f) ≤ function_height f
  function_flat (s.with_body h ss at) = both (parameters_height h.parameters) (parameters_height h.parameters) (statements_height (restored ss)) (statements_height ss) (itself (parameters_height h.parameters)) (all_flat ss)

  members_flat : (ms : Members (List ℕ)) → members_height (restored_members ms) ≤ members_height ms
  members_flat s.no_members = itself 0
  members_flat (s.class_constants cs l ms) = both (constants_height cs) (constants_height cs) (members_height (restored_members ms)) (members_height ms) (itself (constants_height cs)) (members_flat ms)
  members_flat (s.properties mods ps l ms) = both (defaults_height ps) (defaults_height ps) (members_height (restored_members ms)) (members_height ms) (itself (defaults_height ps)) (members_flat ms)
  members_flat (s.method mods f l ms) = both (function_height (restored_function f)) (function_height f) (members_height (restored_members ms)) (members_height ms) (function_flat f) (members_flat ms)
  members_flat (s.bodiless mods h l ms) = both (parameters_height h.parameters) (parameters_height h.parameters) (members_height (restored_members ms)) (members_height ms) (itself (parameters_height h.parameters)) (members_flat ms)

tree_flat : (t : Option Tree) → height_or_none (restored_or_none t) ≤ height_or_none t
tree_flat None = itself 0
tree_flat (Some ss) = all_flat ss

pub files_flat : (gs : List File) → AreNoDeeper (restored_files gs) gs
files_flat [] = tt {0}
files_flat (g ∷ gs) = (tree_flat g.tree, files_flat gs)
