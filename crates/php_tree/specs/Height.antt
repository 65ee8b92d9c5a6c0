-- How deep a tree is: the depth of a node counts the statements and expressions that enclose it, itself included, and the
-- height of a tree is the depth of its deepest node. A chain is one node that encloses its operands. A post with its head is
-- one node; so is an assignment or a step with its place, since a place is no node of its own: what it encloses, the node it
-- stands in encloses. Parentheses are a node. Arms, clauses, members, parameters and parts of a text are none.
use Rattle.std.specs.Prelude.{ℕ, ◌+◌, max, List, [], ◌∷◌, Option, Some, None}
use Rattle.php_tree.specs.Expressions.{Expression, int, text, quote, var, constant, array, paren, isset, is_empty, exit, exit_with, new, new_var, call, call_var, class_constant, static_call, static_property, class_text, post, chain, print, assign, assign_reference, choice, coalesce, compare, unary, instance_of, instance_of_var, step, cloned, included, Expressions, no_more, expression, QuoteParts, no_parts, part_bytes, part_var, part_index, part_property, part_embedded, ArrayItems, no_items, item, pair, Accesses, no_accesses, index, append, property, method, Links, no_links, link, Branches, no_branches, full, short}
use Rattle.php_tree.specs.Statements as s
use Rattle.php_tree.specs.Statements.{Parameter, Head, Statement, Statements, Arms, Cases, Clauses, Function, Class, Members}

abbrev mutual
  pub height : {V : Type 0} → Expression V → ℕ
  height (int z l) = 1
  height (text t l) = 1
  height (quote ps l) = quote_height ps + 1
  height (var v l) = 1
  height (constant n l) = 1
  height (array es l) = items_height es + 1
  height (paren e l) = height e + 1
  height (isset es l) = max 1 (heights es)
  height (is_empty e l) = height e + 1
  height (exit l) = 1
  height (exit_with e l) = height e + 1
  height (new n es l) = heights es + 1
  height (new_var v es l) = heights es + 1
  height (call n es l) = heights es + 1
  height (call_var v es l) = heights es + 1
  height (class_constant n m l) = 1
  height (static_call n m es l) = heights es + 1
  height (static_property n m l) = 1
  height (class_text n l) = 1
  height (post e es l) = max (height e) (accesses_height es + 1)
  height (chain e es l) = max (height e) (links_height es) + 1
  height (print e l) = height e + 1
  height (assign e op d l) = max (height e) (height d + 1)
  height (assign_reference v w l) = 1
  height (choice e es l) = max (height e) (branches_height es) + 1
  height (coalesce e d l) = max (height e) (height d) + 1
  height (compare e op d l) = max (height e) (height d) + 1
  height (unary op e l) = height e + 1
  height (instance_of e n l) = height e + 1
  height (instance_of_var e v l) = height e + 1
  height (step op e l) = height e
  height (cloned e l) = height e + 1
  height (included k e l) = height e + 1

  -- the greatest height among several, 0 where there is none
  pub heights : {V : Type 0} → Expressions V → ℕ
  heights no_more = 0
  heights (expression e es) = max (height e) (heights es)

  pub quote_height : {V : Type 0} → QuoteParts V → ℕ
  quote_height no_parts = 0
  quote_height (part_bytes t ps) = quote_height ps
  quote_height (part_var v ps) = quote_height ps
  quote_height (part_index v k ps) = quote_height ps
  quote_height (part_property v n ps) = quote_height ps
  quote_height (part_embedded e ps) = max (height e) (quote_height ps)

  pub items_height : {V : Type 0} → ArrayItems V → ℕ
  items_height no_items = 0
  items_height (item e es) = max (height e) (items_height es)
  items_height (pair d e es) = max (height d) (max (height e) (items_height es))

  pub accesses_height : {V : Type 0} → Accesses V → ℕ
  accesses_height no_accesses = 0
  accesses_height (index e es) = max (height e) (accesses_height es)
  accesses_height (append es) = accesses_height es
  accesses_height (property n es) = accesses_height es
  accesses_height (method n us es) = max (heights us) (accesses_height es)

  pub links_height : {V : Type 0} → Links V → ℕ
  links_height no_links = 0
  links_height (link op e es) = max (height e) (links_height es)

  pub branches_height : {V : Type 0} → Branches V → ℕ
  branches_height no_branches = 0
  branches_height (full d e es) = max (height d) (max (height e) (branches_height es))
  branches_height (short e es) = max (height e) (branches_height es)

-- ---- defaults and constants

-- an expression that may be absent
abbrev pub height_or_none : {V : Type 0} → Option (Expression V) → ℕ
height_or_none None = 0
height_or_none (Some e) = height e

abbrev pub parameters_height : {V : Type 0} → List (Parameter V) → ℕ
parameters_height [] = 0
parameters_height (p ∷ ps) = max (height_or_none p.default) (parameters_height ps)

abbrev pub constants_height : {V N : Type 0} → List (N × Expression V) → ℕ
constants_height [] = 0
constants_height ((n, e) ∷ cs) = max (height e) (constants_height cs)

abbrev pub defaults_height : {V N : Type 0} → List (N × Option (Expression V)) → ℕ
defaults_height [] = 0
defaults_height ((n, e) ∷ ds) = max (height_or_none e) (defaults_height ds)

-- ---- statements

abbrev mutual
  pub statement_height : {V : Type 0} → Statement V → ℕ
  statement_height (s.inline t l) = 1
  statement_height (s.echo es l) = heights es + 1
  statement_height (s.evaluate e l) = height e + 1
  statement_height (s.nothing l) = 1
  statement_height (s.block ss l) = statements_height ss + 1
  statement_height (s.conditional arms ss l) = max (arms_height arms) (statements_height ss) + 1
  statement_height (s.while_loop e ss l) = max (height e) (statements_height ss) + 1
  statement_height (s.do_loop ss e l) = max (height e) (statements_height ss) + 1
  statement_height (s.for_loop a b c ss l) = max (max (heights a) (heights b)) (max (heights c) (statements_height ss)) + 1
  statement_height (s.foreach e k v ss l) = max (height e) (statements_height ss) + 1
  statement_height (s.switch e arms l) = max (height e) (cases_height arms) + 1
  statement_height (s.break n l) = 1
  statement_height (s.continue n l) = 1
  statement_height (s.return e l) = height_or_none e + 1
  statement_height (s.global vs l) = 1
  statement_height (s.static_vars vs l) = defaults_height vs + 1
  statement_height (s.unset es l) = max 1 (heights es)
  statement_height (s.throw e l) = height e + 1
  statement_height (s.try ss cs l) = max (statements_height ss) (clauses_height cs) + 1
  statement_height (s.function f l) = function_height f + 1
  statement_height (s.class c l) = class_height c + 1
  statement_height (s.constants cs l) = constants_height cs + 1
  statement_height (s.removed k p n l) = 1

  pub statements_height : {V : Type 0} → Statements V → ℕ
  statements_height s.no_more = 0
  statements_height (s.statement x xs) = max (statement_height x) (statements_height xs)

  pub arms_height : {V : Type 0} → Arms V → ℕ
  arms_height s.no_arms = 0
  arms_height (s.arm e ss arms) = max (max (height e) (statements_height ss)) (arms_height arms)

  pub cases_height : {V : Type 0} → Cases V → ℕ
  cases_height s.no_cases = 0
  cases_height (s.case e ss arms) = max (max (height e) (statements_height ss)) (cases_height arms)
  cases_height (s.default_case ss arms) = max (statements_height ss) (cases_height arms)

  pub clauses_height : {V : Type 0} → Clauses V → ℕ
  clauses_height s.no_clauses = 0
  clauses_height (s.clause ns v ss cs) = max (statements_height ss) (clauses_height cs)

  pub function_height : {V : Type 0} → Function V → ℕ
  function_height (s.with_body h ss at) = max (parameters_height h.parameters) (statements_height ss)

  pub class_height : {V : Type 0} → Class V → ℕ
  class_height (s.with_members k n p is ms l) = members_height ms

  pub members_height : {V : Type 0} → Members V → ℕ
  members_height s.no_members = 0
  members_height (s.class_constants cs l ms) = max (constants_height cs) (members_height ms)
  members_height (s.properties mods ps l ms) = max (defaults_height ps) (members_height ms)
  members_height (s.method mods f l ms) = max (function_height f) (members_height ms)
  members_height (s.bodiless mods h l ms) = max (parameters_height h.parameters) (members_height ms)
