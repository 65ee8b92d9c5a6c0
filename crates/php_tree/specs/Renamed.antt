-- The same tree, with each variable changed by a function: from its number in the file's list to its name.
use Rattle.std.specs.Prelude.{ℕ, List, [], ◌∷◌, Option, Some, None, map, slice_get}
use Rattle.php_tree.specs.declared.name.VarName.{VarName}
use Rattle.php_tree.specs.Expressions.{Key, key_int, key_text, key_var, Expression, int, text, quote, var, constant, array, paren, isset, is_empty, exit, exit_with, new, new_var, call, call_var, class_constant, static_call, static_property, class_text, post, chain, print, assign, assign_reference, choice, coalesce, compare, unary, instance_of, instance_of_var, step, cloned, included, Expressions, no_more, expression, QuoteParts, no_parts, part_bytes, part_var, part_index, part_property, part_embedded, ArrayItems, no_items, item, pair, Accesses, no_accesses, index, append, property, method, Links, no_links, link, Branches, no_branches, full, short}
use Rattle.php_tree.specs.Statements as s
use Rattle.php_tree.specs.Statements.{Parameter, Head, Statement, Statements, Arms, Cases, Clauses, Function, Class, Members}

abbrev pub renamed_key : {V W : Type 0} → (V → W) → Key V → Key W
renamed_key f (key_int z) = key_int z
renamed_key f (key_text t) = key_text t
renamed_key f (key_var v) = key_var (f v)

abbrev mutual
  pub renamed : {V W : Type 0} → (V → W) → Expression V → Expression W
  renamed f (int z l) = int z l
  renamed f (text t l) = text t l
  renamed f (quote ps l) = quote (renamed_parts f ps) l
  renamed f (var v l) = var (f v) l
  renamed f (constant n l) = constant n l
  renamed f (array es l) = array (renamed_items f es) l
  renamed f (paren e l) = paren (renamed f e) l
  renamed f (isset es l) = isset (renamed_all f es) l
  renamed f (is_empty e l) = is_empty (renamed f e) l
  renamed f (exit l) = exit l
  renamed f (exit_with e l) = exit_with (renamed f e) l
  renamed f (new n es l) = new n (renamed_all f es) l
  renamed f (new_var v es l) = new_var (f v) (renamed_all f es) l
  renamed f (call n es l) = call n (renamed_all f es) l
  renamed f (call_var v es l) = call_var (f v) (renamed_all f es) l
  renamed f (class_constant n m l) = class_constant n m l
  renamed f (static_call n m es l) = static_call n m (renamed_all f es) l
  renamed f (static_property n m l) = static_property n m l
  renamed f (class_text n l) = class_text n l
  renamed f (post e es l) = post (renamed f e) (renamed_accesses f es) l
  renamed f (chain e es l) = chain (renamed f e) (renamed_links f es) l
  renamed f (print e l) = print (renamed f e) l
  renamed f (assign e op d l) = assign (renamed f e) op (renamed f d) l
  renamed f (assign_reference v w l) = assign_reference (f v) (f w) l
  renamed f (choice e es l) = choice (renamed f e) (renamed_branches f es) l
  renamed f (coalesce e d l) = coalesce (renamed f e) (renamed f d) l
  renamed f (compare e op d l) = compare (renamed f e) op (renamed f d) l
  renamed f (unary op e l) = unary op (renamed f e) l
  renamed f (instance_of e n l) = instance_of (renamed f e) n l
  renamed f (instance_of_var e v l) = instance_of_var (renamed f e) (f v) l
  renamed f (step op e l) = step op (renamed f e) l
  renamed f (cloned e l) = cloned (renamed f e) l
  renamed f (included k e l) = included k (renamed f e) l

  pub renamed_all : {V W : Type 0} → (V → W) → Expressions V → Expressions W
  renamed_all f no_more = no_more
  renamed_all f (expression e es) = expression (renamed f e) (renamed_all f es)

  pub renamed_parts : {V W : Type 0} → (V → W) → QuoteParts V → QuoteParts W
  renamed_parts f no_parts = no_parts
  renamed_parts f (part_bytes t ps) = part_bytes t (renamed_parts f ps)
  renamed_parts f (part_var v ps) = part_var (f v) (renamed_parts f ps)
  renamed_parts f (part_index v k ps) = part_index (f v) (renamed_key f k) (renamed_parts f ps)
  renamed_parts f (part_property v n ps) = part_property (f v) n (renamed_parts f ps)
  renamed_parts f (part_embedded e ps) = part_embedded (renamed f e) (renamed_parts f ps)

  pub renamed_items : {V W : Type 0} → (V → W) → ArrayItems V → ArrayItems W
  renamed_items f no_items = no_items
  renamed_items f (item e es) = item (renamed f e) (renamed_items f es)
  renamed_items f (pair d e es) = pair (renamed f d) (renamed f e) (renamed_items f es)

  pub renamed_accesses : {V W : Type 0} → (V → W) → Accesses V → Accesses W
  renamed_accesses f no_accesses = no_accesses
  renamed_accesses f (index e es) = index (renamed f e) (renamed_accesses f es)
  renamed_accesses f (append es) = append (renamed_accesses f es)
  renamed_accesses f (property n es) = property n (renamed_accesses f es)
  renamed_accesses f (method n us es) = method n (renamed_all f us) (renamed_accesses f es)

  pub renamed_links : {V W : Type 0} → (V → W) → Links V → Links W
  renamed_links f no_links = no_links
  renamed_links f (link op e es) = link op (renamed f e) (renamed_links f es)

  pub renamed_branches : {V W : Type 0} → (V → W) → Branches V → Branches W
  renamed_branches f no_branches = no_branches
  renamed_branches f (full d e es) = full (renamed f d) (renamed f e) (renamed_branches f es)
  renamed_branches f (short e es) = short (renamed f e) (renamed_branches f es)

abbrev pub renamed_option : {V W : Type 0} → (V → W) → Option (Expression V) → Option (Expression W)
renamed_option f None = None
renamed_option f (Some e) = Some (renamed f e)

abbrev pub renamed_var : {V W : Type 0} → (V → W) → Option V → Option W
renamed_var f None = None
renamed_var f (Some v) = Some (f v)

abbrev pub renamed_parameter : {V W : Type 0} → (V → W) → Parameter V → Parameter W
renamed_parameter f p = record { hint = p.hint; by_reference = p.by_reference; variable = f p.variable; default = renamed_option f p.default; line = p.line }

abbrev pub renamed_head : {V W : Type 0} → (V → W) → Head V → Head W
renamed_head f h = record { name = h.name; parameters = map (renamed_parameter f) h.parameters; gives = h.gives; line = h.line }

abbrev pub renamed_constants : {V W N : Type 0} → (V → W) → List (N × Expression V) → List (N × Expression W)
renamed_constants f [] = []
renamed_constants f ((n, e) ∷ cs) = (n, renamed f e) ∷ renamed_constants f cs

abbrev pub renamed_defaults : {V W N : Type 0} → (V → W) → List (N × Option (Expression V)) → List (N × Option (Expression W))
renamed_defaults f [] = []
renamed_defaults f ((n, e) ∷ ds) = (n, renamed_option f e) ∷ renamed_defaults f ds

abbrev pub renamed_statics : {V W : Type 0} → (V → W) → List (V × Option (Expression V)) → List (W × Option (Expression W))
renamed_statics f [] = []
renamed_statics f ((v, e) ∷ ds) = (f v, renamed_option f e) ∷ renamed_statics f ds

abbrev mutual
  pub renamed_statement : {V W : Type 0} → (V → W) → Statement V → Statement W
  renamed_statement f (s.inline t l) = s.inline t l
  renamed_statement f (s.echo es l) = s.echo (renamed_all f es) l
  renamed_statement f (s.evaluate e l) = s.evaluate (renamed f e) l
  renamed_statement f (s.nothing l) = s.nothing l
  renamed_statement f (s.block ss l) = s.block (renamed_statements f ss) l
  renamed_statement f (s.conditional arms ss l) = s.conditional (renamed_arms f arms) (renamed_statements f ss) l
  renamed_statement f (s.while_loop e ss l) = s.while_loop (renamed f e) (renamed_statements f ss) l
  renamed_statement f (s.do_loop ss e l) = s.do_loop (renamed_statements f ss) (renamed f e) l
  renamed_statement f (s.for_loop a b c ss l) = s.for_loop (renamed_all f a) (renamed_all f b) (renamed_all f c) (renamed_statements f ss) l
  renamed_statement f (s.foreach e k v ss l) = s.foreach (renamed f e) (renamed_var f k) (f v) (renamed_statements f ss) l
  renamed_statement f (s.switch e arms l) = s.switch (renamed f e) (renamed_cases f arms) l
  renamed_statement f (s.break n l) = s.break n l
  renamed_statement f (s.continue n l) = s.continue n l
  renamed_statement f (s.return e l) = s.return (renamed_option f e) l
  renamed_statement f (s.global vs l) = s.global (map f vs) l
  renamed_statement f (s.static_vars vs l) = s.static_vars (renamed_statics f vs) l
  renamed_statement f (s.unset es l) = s.unset (renamed_all f es) l
  renamed_statement f (s.throw e l) = s.throw (renamed f e) l
  renamed_statement f (s.try ss cs l) = s.try (renamed_statements f ss) (renamed_clauses f cs) l
  renamed_statement f (s.function g l) = s.function (renamed_function f g) l
  renamed_statement f (s.class c l) = s.class (renamed_class f c) l
  renamed_statement f (s.constants cs l) = s.constants (renamed_constants f cs) l
  renamed_statement f (s.removed k p n l) = s.removed k p n l

  pub renamed_statements : {V W : Type 0} → (V → W) → Statements V → Statements W
  renamed_statements f s.no_more = s.no_more
  renamed_statements f (s.statement x xs) = s.statement (renamed_statement f x) (renamed_statements f xs)

  pub renamed_arms : {V W : Type 0} → (V → W) → Arms V → Arms W
  renamed_arms f s.no_arms = s.no_arms
  renamed_arms f (s.arm e ss arms) = s.arm (renamed f e) (renamed_statements f ss) (renamed_arms f arms)

  pub renamed_cases : {V W : Type 0} → (V → W) → Cases V → Cases W
  renamed_cases f s.no_cases = s.no_cases
  renamed_cases f (s.case e ss arms) = s.case (renamed f e) (renamed_statements f ss) (renamed_cases f arms)
  renamed_cases f (s.default_case ss arms) = s.default_case (renamed_statements f ss) (renamed_cases f arms)

  pub renamed_clauses : {V W : Type 0} → (V → W) → Clauses V → Clauses W
  renamed_clauses f s.no_clauses = s.no_clauses
  renamed_clauses f (s.clause ns v ss cs) = s.clause ns (f v) (renamed_statements f ss) (renamed_clauses f cs)

  pub renamed_function : {V W : Type 0} → (V → W) → Function V → Function W
  renamed_function f (s.with_body h ss at) = s.with_body (renamed_head f h) (renamed_statements f ss) at

  pub renamed_class : {V W : Type 0} → (V → W) → Class V → Class W
  renamed_class f (s.with_members k n p is ms l) = s.with_members k n p is (renamed_members f ms) l

  pub renamed_members : {V W : Type 0} → (V → W) → Members V → Members W
  renamed_members f s.no_members = s.no_members
  renamed_members f (s.class_constants cs l ms) = s.class_constants (renamed_constants f cs) l (renamed_members f ms)
  renamed_members f (s.properties mods ps l ms) = s.properties mods (renamed_defaults f ps) l (renamed_members f ms)
  renamed_members f (s.method mods g l ms) = s.method mods (renamed_function f g) l (renamed_members f ms)
  renamed_members f (s.bodiless mods h l ms) = s.bodiless mods (renamed_head f h) l (renamed_members f ms)

-- the name of a variable, by its number in the file's list; empty past its end
abbrev pub text_or_empty : Option VarName → List ℕ
text_or_empty None = []
text_or_empty (Some name) = name.text

abbrev pub name_at : List VarName → ℕ → List ℕ
name_at names n = text_or_empty (slice_get names n)
