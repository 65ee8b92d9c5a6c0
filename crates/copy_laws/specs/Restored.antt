-- What a copy may have been taken from, by its trees: each placeholder is left out, so that a removed body is empty and a removed
-- file has no statements. Lines, places of bodies and the texts of PHP files stay as they are in the copy.
use Rattle.std.specs.Prelude.{ℕ, List, map, Option, Some, None}
use Rattle.php_tree.specs.Statements as s
use Rattle.php_tree.specs.Statements.{Statement, Statements, Arms, Cases, Clauses, Function, Class, Members}
use Rattle.app_load.specs.Files.{Tree, File}

abbrev mutual
  -- a statement in front of what follows it; a placeholder is left out
  pub restored_before : Statement (List ℕ) → Statements (List ℕ) → Statements (List ℕ)
  restored_before (s.block ss l) rest = s.statement (s.block (restored ss) l) rest
  restored_before (s.conditional arms ss l) rest = s.statement (s.conditional (restored_arms arms) (restored ss) l) rest
  restored_before (s.while_loop e ss l) rest = s.statement (s.while_loop e (restored ss) l) rest
  restored_before (s.do_loop ss e l) rest = s.statement (s.do_loop (restored ss) e l) rest
  restored_before (s.for_loop a b c ss l) rest = s.statement (s.for_loop a b c (restored ss) l) rest
  restored_before (s.foreach e k v ss l) rest = s.statement (s.foreach e k v (restored ss) l) rest
  restored_before (s.switch e arms l) rest = s.statement (s.switch e (restored_cases arms) l) rest
  restored_before (s.try ss cs l) rest = s.statement (s.try (restored ss) (restored_clauses cs) l) rest
  restored_before (s.function f l) rest = s.statement (s.function (restored_function f) l) rest
  restored_before (s.class c l) rest = s.statement (s.class (restored_class c) l) rest
  restored_before (s.removed what path name l) rest = rest
  restored_before x rest = s.statement x rest

  pub restored : Statements (List ℕ) → Statements (List ℕ)
  restored s.no_more = s.no_more
  restored (s.statement x xs) = restored_before x (restored xs)

  pub restored_arms : Arms (List ℕ) → Arms (List ℕ)
  restored_arms s.no_arms = s.no_arms
  restored_arms (s.arm e ss arms) = s.arm e (restored ss) (restored_arms arms)

  pub restored_cases : Cases (List ℕ) → Cases (List ℕ)
  restored_cases s.no_cases = s.no_cases
  restored_cases (s.case e ss arms) = s.case e (restored ss) (restored_cases arms)
  restored_cases (s.default_case ss arms) = s.default_case (restored ss) (restored_cases arms)

  pub restored_clauses : Clauses (List ℕ) → Clauses (List ℕ)
  restored_clauses s.no_clauses = s.no_clauses
  restored_clauses (s.clause ns v ss cs) = s.clause ns v (restored ss) (restored_clauses cs)

  pub restored_function : Function (List ℕ) → Function (List ℕ)
  restored_function (s.with_body h ss at) = s.with_body h (restored ss) at

  pub restored_class : Class (List ℕ) → Class (List ℕ)
  restored_class (s.with_members k n e is ms l) = s.with_members k n e is (restored_members ms) l

  pub restored_members : Members (List ℕ) → Members (List ℕ)
  restored_members s.no_members = s.no_members
  restored_members (s.class_constants cs l ms) = s.class_constants cs l (restored_members ms)
  restored_members (s.properties mods ps l ms) = s.properties mods ps l (restored_members ms)
  restored_members (s.method mods f l ms) = s.method mods (restored_function f) l (restored_members ms)
  restored_members (s.bodiless mods h l ms) = s.bodiless mods h l (restored_members ms)

abbrev pub restored_or_none : Option Tree → Option Tree
restored_or_none None = None
restored_or_none (Some ss) = Some (restored ss)

abbrev pub restored_file : File → File
restored_file f = record { path = f.path; text = f.text; tree = restored_or_none f.tree }

abbrev pub restored_files : List File → List File
restored_files gs = map restored_file gs
