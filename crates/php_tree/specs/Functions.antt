-- The functions and methods with a body, in text order.
use Rattle.std.specs.Prelude.{ℕ, ◌+◌, List, [], ◌∷◌, ◌++◌, codes}
use Rattle.std.specs.Str.{str_to_ascii_lowercase}
use Rattle.php_tree.specs.declared.file.Span.{Span}
use Rattle.php_tree.specs.declared.file.FunSpan.{FunSpan}
use Rattle.php_tree.specs.Statements as s
use Rattle.php_tree.specs.Statements.{Head, Statement, Statements, Arms, Cases, Clauses, Function, Class, Members}

-- a name in lower case, and what stands before it: nothing, or a class and `::`
abbrev pub entry_name : {V : Type 0} → List ℕ → Head V → List ℕ
entry_name before h = before ++ str_to_ascii_lowercase h.name.text

abbrev pub class_prefix : List ℕ → List ℕ
class_prefix name = str_to_ascii_lowercase name ++ codes "::"

-- a function stands before those inside it
abbrev mutual
  pub spans : {V : Type 0} → Statement V → List (List ℕ × Span)
  spans (s.block ss l) = spans_in ss
  spans (s.conditional arms ss l) = arms_spans arms ++ spans_in ss
  spans (s.while_loop e ss l) = spans_in ss
  spans (s.do_loop ss e l) = spans_in ss
  spans (s.for_loop a b c ss l) = spans_in ss
  spans (s.foreach e k v ss l) = spans_in ss
  spans (s.switch e arms l) = cases_spans arms
  spans (s.try ss cs l) = spans_in ss ++ clauses_spans cs
  spans (s.function f l) = function_spans [] f
  spans (s.class c l) = class_spans c
  spans _ = []

  pub spans_in : {V : Type 0} → Statements V → List (List ℕ × Span)
  spans_in s.no_more = []
  spans_in (s.statement x xs) = spans x ++ spans_in xs

  pub arms_spans : {V : Type 0} → Arms V → List (List ℕ × Span)
  arms_spans s.no_arms = []
  arms_spans (s.arm e ss arms) = spans_in ss ++ arms_spans arms

  pub cases_spans : {V : Type 0} → Cases V → List (List ℕ × Span)
  cases_spans s.no_cases = []
  cases_spans (s.case e ss arms) = spans_in ss ++ cases_spans arms
  cases_spans (s.default_case ss arms) = spans_in ss ++ cases_spans arms

  pub clauses_spans : {V : Type 0} → Clauses V → List (List ℕ × Span)
  clauses_spans s.no_clauses = []
  clauses_spans (s.clause ns v ss cs) = spans_in ss ++ clauses_spans cs

  pub function_spans : {V : Type 0} → List ℕ → Function V → List (List ℕ × Span)
  function_spans before (s.with_body h ss at) = (entry_name before h, at) ∷ spans_in ss

  pub class_spans : {V : Type 0} → Class V → List (List ℕ × Span)
  class_spans (s.with_members k n p is ms l) = members_spans (class_prefix n.text) ms

  pub members_spans : {V : Type 0} → List ℕ → Members V → List (List ℕ × Span)
  members_spans before s.no_members = []
  members_spans before (s.class_constants cs l ms) = members_spans before ms
  members_spans before (s.properties mods ps l ms) = members_spans before ms
  members_spans before (s.method mods f l ms) = function_spans before f ++ members_spans before ms
  members_spans before (s.bodiless mods h l ms) = members_spans before ms

-- with their ordinals, from the given one on
abbrev pub numbered : ℕ → List (List ℕ × Span) → List FunSpan
numbered n [] = []
numbered n ((name, at) ∷ rest) = (record { ordinal = n; name = name; span = at }) ∷ numbered (n + 1) rest

-- the functions of a file, with ordinals from 1
abbrev pub functions_of : {V : Type 0} → Statements V → List FunSpan
functions_of ss = numbered 1 (spans_in ss)
