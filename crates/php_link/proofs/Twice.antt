-- A tree whose variables are changed twice is the tree whose variables are changed at once.
use Rattle.std.proofs.Common.{◌≡◌, ℕ, List, [], ◌∷◌, Option, Some, None, map, refl, ap, ◌∙◌}
use Rattle.php_tree.specs.Expressions.{Key, key_int, key_text, key_var, Expression, int, text, quote, var, constant, array, paren, isset, is_empty, exit, exit_with, new, new_var, call, call_var, class_constant, static_call, static_property, class_text, post, chain, print, assign, assign_reference, choice, coalesce, compare, unary, instance_of, instance_of_var, step, cloned, included, Expressions, no_more, expression, QuoteParts, no_parts, part_bytes, part_var, part_index, part_property, part_embedded, ArrayItems, no_items, item, pair, Accesses, no_accesses, index, append, property, method, Links, no_links, link, Branches, no_branches, full, short}
use Rattle.php_tree.specs.Statements as s
use Rattle.php_tree.specs.Statements.{Parameter, Head, Statement, Statements, Arms, Cases, Clauses, Function, Class, Members}
use Rattle.php_tree.specs.Renamed.{renamed_key, renamed, renamed_all, renamed_parts, renamed_items, renamed_accesses, renamed_links, renamed_branches, renamed_option, renamed_var, renamed_parameter, renamed_head, renamed_constants, renamed_defaults, renamed_statics, renamed_statement, renamed_statements, renamed_arms, renamed_cases, renamed_clauses, renamed_function, renamed_class, renamed_members}

module _ {U V W : Type 0} (f : U → V) (g : V → W) (h : U → W) (same : (v : U) → g (f v) ≡ h v) where
  pub key_twice : (x : Key U) → renamed_key g (renamed_key f x) ≡ renamed_key h x
  key_twice (key_int a) = refl
  key_twice (key_text a) = refl
  key_twice (key_var a) = ap (λ z. key_var z) (same a)

  mutual
    pub twice : (x : Expression U) → renamed g (renamed f x) ≡ renamed h x
    twice (int a0 a1) = refl
    twice (text a0 a1) = refl
    twice (quote a0 a1) = ap (λ z. quote z a1) (parts_twice a0)
    twice (var a0 a1) = ap (λ z. var z a1) (same a0)
    twice (constant a0 a1) = refl
    twice (array a0 a1) = ap (λ z. array z a1) (items_twice a0)
    twice (paren a0 a1) = ap (λ z. paren z a1) (twice a0)
    twice (isset a0 a1) = ap (λ z. isset z a1) (all_twice a0)
    twice (is_empty a0 a1) = ap (λ z. is_empty z a1) (twice a0)
    twice (exit a0) = refl
    twice (exit_with a0 a1) = ap (λ z. exit_with z a1) (twice a0)
    twice (new a0 a1 a2) = ap (λ z. new a0 z a2) (all_twice a1)
    twice (new_var a0 a1 a2) = ap (λ z. new_var z (renamed_all g (renamed_all f a1)) a2) (same a0) ∙ ap (λ z. new_var (h a0) z a2) (all_twice a1)
    twice (call a0 a1 a2) = ap (λ z. call a0 z a2) (all_twice a1)
    twice (call_var a0 a1 a2) = ap (λ z. call_var z (renamed_all g (renamed_all f a1)) a2) (same a0) ∙ ap (λ z. call_var (h a0) z a2) (all_twice a1)
    twice (class_constant a0 a1 a2) = refl
    twice (static_call a0 a1 a2 a3) = ap (λ z. static_call a0 a1 z a3) (all_twice a2)
    twice (static_property a0 a1 a2) = refl
    twice (class_text a0 a1) = refl
    twice (post a0 a1 a2) = ap (λ z. post z (renamed_accesses g (renamed_accesses f a1)) a2) (twice a0) ∙ ap (λ z. post (renamed h a0) z a2) (accesses_twice a1)
    twice (chain a0 a1 a2) = ap (λ z. chain z (renamed_links g (renamed_links f a1)) a2) (twice a0) ∙ ap (λ z. chain (renamed h a0) z a2) (links_twice a1)
    twice (print a0 a1) = ap (λ z. print z a1) (twice a0)
    twice (assign a0 a1 a2 a3) = ap (λ z. assign z a1 (renamed g (renamed f a2)) a3) (twice a0) ∙ ap (λ z. assign (renamed h a0) a1 z a3) (twice a2)
    twice (assign_reference a0 a1 a2) = ap (λ z. assign_reference z (g (f a1)) a2) (same a0) ∙ ap (λ z. assign_reference (h a0) z a2) (same a1)
    twice (choice a0 a1 a2) = ap (λ z. choice z (renamed_branches g (renamed_branches f a1)) a2) (twice a0) ∙ ap (λ z. choice (renamed h a0) z a2) (branches_twice a1)
    twice (coalesce a0 a1 a2) = ap (λ z. coalesce z (renamed g (renamed f a1)) a2) (twice a0) ∙ ap (λ z. coalesce (renamed h a0) z a2) (twice a1)
    twice (compare a0 a1 a2 a3) = ap (λ z. compare z a1 (renamed g (renamed f a2)) a3) (twice a0) ∙ ap (λ z. compare (renamed h a0) a1 z a3) (twice a2)
    twice (unary a0 a1 a2) = ap (λ z. unary a0 z a2) (twice a1)
    twice (instance_of a0 a1 a2) = ap (λ z. instance_of z a1 a2) (twice a0)
    twice (instance_of_var a0 a1 a2) = ap (λ z. instance_of_var z (g (f a1)) a2) (twice a0) ∙ ap (λ z. instance_of_var (renamed h a0) z a2) (same a1)
    twice (step a0 a1 a2) = ap (λ z. step a0 z a2) (twice a1)
    twice (cloned a0 a1) = ap (λ z. cloned z a1) (twice a0)
    twice (included a0 a1 a2) = ap (λ z. included a0 z a2) (twice a1)

    pub all_twice : (x : Expressions U) → renamed_all g (renamed_all f x) ≡ renamed_all h x
    all_twice no_more = refl
    all_twice (expression a0 a1) = ap (λ z. expression z (renamed_all g (renamed_all f a1))) (twice a0) ∙ ap (λ z. expression (renamed h a0) z) (all_twice a1)

    pub parts_twice : (x : QuoteParts U) → renamed_parts g (renamed_parts f x) ≡ renamed_parts h x
    parts_twice no_parts = refl
    parts_twice (part_bytes a0 a1) = ap (λ z. part_bytes a0 z) (parts_twice a1)
    parts_twice (part_var a0 a1) = ap (λ z. part_var z (renamed_parts g (renamed_parts f a1))) (same a0) ∙ ap (λ z. part_var (h a0) z) (parts_twice a1)
    parts_twice (part_index a0 a1 a2) = ap (λ z. part_index z (renamed_key g (renamed_key f a1)) (renamed_parts g (renamed_parts f a2))) (same a0) ∙ ap (λ z. part_index (h a0) z (renamed_parts g (renamed_parts f a2))) (key_twice a1) ∙ ap (λ z. part_index (h a0) (renamed_key h a1) z) (parts_twice a2)
    parts_twice (part_property a0 a1 a2) = ap (λ z. part_property z a1 (renamed_parts g (renamed_parts f a2))) (same a0) ∙ ap (λ z. part_property (h a0) a1 z) (parts_twice a2)
    parts_twice (part_embedded a0 a1) = ap (λ z. part_embedded z (renamed_parts g (renamed_parts f a1))) (twice a0) ∙ ap (λ z. part_embedded (renamed h a0) z) (parts_twice a1)

    pub items_twice : (x : ArrayItems U) → renamed_items g (renamed_items f x) ≡ renamed_items h x
    items_twice no_items = refl
    items_twice (item a0 a1) = ap (λ z. item z (renamed_items g (renamed_items f a1))) (twice a0) ∙ ap (λ z. item (renamed h a0) z) (items_twice a1)
    items_twice (pair a0 a1 a2) = ap (λ z. pair z (renamed g (renamed f a1)) (renamed_items g (renamed_items f a2))) (twice a0) ∙ ap (λ z. pair (renamed h a0) z (renamed_items g (renamed_items f a2))) (twice a1) ∙ ap (λ z. pair (renamed h a0) (renamed h a1) z) (items_twice a2)

    pub accesses_twice : (x : Accesses U) → renamed_accesses g (renamed_accesses f x) ≡ renamed_accesses h x
    accesses_twice no_accesses = refl
    accesses_twice (index a0 a1) = ap (λ z. index z (renamed_accesses g (renamed_accesses f a1))) (twice a0) ∙ ap (λ z. index (renamed h a0) z) (accesses_twice a1)
    accesses_twice (append a0) = ap (λ z. append z) (accesses_twice a0)
    accesses_twice (property a0 a1) = ap (λ z. property a0 z) (accesses_twice a1)
    accesses_twice (method a0 a1 a2) = ap (λ z. method a0 z (renamed_accesses g (renamed_accesses f a2))) (all_twice a1) ∙ ap (λ z. method a0 (renamed_all h a1) z) (accesses_twice a2)

    pub links_twice : (x : Links U) → renamed_links g (renamed_links f x) ≡ renamed_links h x
    links_twice no_links = refl
    links_twice (link a0 a1 a2) = ap (λ z. link a0 z (renamed_links g (renamed_links f a2))) (twice a1) ∙ ap (λ z. link a0 (renamed h a1) z) (links_twice a2)

    pub branches_twice : (x : Branches U) → renamed_branches g (renamed_branches f x) ≡ renamed_branches h x
    branches_twice no_branches = refl
    branches_twice (full a0 a1 a2) = ap (λ z. full z (renamed g (renamed f a1)) (renamed_branches g (renamed_branches f a2))) (twice a0) ∙ ap (λ z. full (renamed h a0) z (renamed_branches g (renamed_branches f a2))) (twice a1) ∙ ap (λ z. full (renamed h a0) (renamed h a1) z) (branches_twice a2)
    branches_twice (short a0 a1) = ap (λ z. short z (renamed_branches g (renamed_branches f a1))) (twice a0) ∙ ap (λ z. short (renamed h a0) z) (branches_twice a1)

  pub option_twice : (x : Option (Expression U)) → renamed_option g (renamed_option f x) ≡ renamed_option h x
  option_twice None = refl
  option_twice (Some e) = ap Some (twice e)

  pub var_twice : (x : Option U) → renamed_var g (renamed_var f x) ≡ renamed_var h x
  var_twice None = refl
  var_twice (Some v) = ap Some (same v)

  pub vars_twice : (x : List U) → map g (map f x) ≡ map h x
  vars_twice [] = refl
  vars_twice (v ∷ vs) = ap (λ z. z ∷ map g (map f vs)) (same v) ∙ ap (λ z. h v ∷ z) (vars_twice vs)

  pub parameter_twice : (x : Parameter U) → renamed_parameter g (renamed_parameter f x) ≡ renamed_parameter h x
  parameter_twice x =
      ap (λ z. record { hint = x.hint; by_reference = x.by_reference; variable = z; default = renamed_option g (renamed_option f x.default); line = x.line }) (same x.variable)
      ∙ ap (λ z. record { hint = x.hint; by_reference = x.by_reference; variable = h x.variable; default = z; line = x.line }) (option_twice x.default)

  pub parameters_twice : (x : List (Parameter U)) → map (renamed_parameter g) (map (renamed_parameter f) x) ≡ map (renamed_parameter h) x
  parameters_twice [] = refl
  parameters_twice (p ∷ ps) = ap (λ z. z ∷ map (renamed_parameter g) (map (renamed_parameter f) ps)) (parameter_twice p) ∙ ap (λ z. renamed_parameter h p ∷ z) (parameters_twice ps)

  pub head_twice : (x : Head U) → renamed_head g (renamed_head f x) ≡ renamed_head h x
  head_twice x = ap (λ z. record { name = x.name; parameters = z; gives = x.gives; line = x.line }) (parameters_twice x.parameters)

  pub constants_twice : {N : Type 0} (x : List (N × Expression U)) → renamed_constants g (renamed_constants f x) ≡ renamed_constants h x
  constants_twice [] = refl
  constants_twice ((n, e) ∷ cs) = ap (λ z. (n, z) ∷ renamed_constants g (renamed_constants f cs)) (twice e) ∙ ap (λ z. (n, renamed h e) ∷ z) (constants_twice cs)

  pub defaults_twice : {N : Type 0} (x : List (N × Option (Expression U))) → renamed_defaults g (renamed_defaults f x) ≡ renamed_defaults h x
  defaults_twice [] = refl
  defaults_twice ((n, e) ∷ ds) = ap (λ z. (n, z) ∷ renamed_defaults g (renamed_defaults f ds)) (option_twice e) ∙ ap (λ z. (n, renamed_option h e) ∷ z) (defaults_twice ds)

  pub statics_twice : (x : List (U × Option (Expression U))) → renamed_statics g (renamed_statics f x) ≡ renamed_statics h x
  statics_twice [] = refl
  statics_twice ((v, e) ∷ ds) =
      ap (λ z. (z, renamed_option g (renamed_option f e)) ∷ renamed_statics g (renamed_statics f ds)) (same v)
      ∙ ap (λ z. (h v, z) ∷ renamed_statics g (renamed_statics f ds)) (option_twice e) ∙ ap (λ z. (h v, renamed_option h e) ∷ z) (statics_twice ds)

  mutual
    pub statement_twice : (x : Statement U) → renamed_statement g (renamed_statement f x) ≡ renamed_statement h x
    statement_twice (s.inline a0 a1) = refl
    statement_twice (s.echo a0 a1) = ap (λ z. s.echo z a1) (all_twice a0)
    statement_twice (s.evaluate a0 a1) = ap (λ z. s.evaluate z a1) (twice a0)
    statement_twice (s.nothing a0) = refl
    statement_twice (s.block a0 a1) = ap (λ z. s.block z a1) (statements_twice a0)
    statement_twice (s.conditional a0 a1 a2) = ap (λ z. s.conditional z (renamed_statements g (renamed_statements f a1)) a2) (arms_twice a0) ∙ ap (λ z. s.conditional (renamed_arms h a0) z a2) (statements_twice a1)
    statement_twice (s.while_loop a0 a1 a2) = ap (λ z. s.while_loop z (renamed_statements g (renamed_statements f a1)) a2) (twice a0) ∙ ap (λ z. s.while_loop (renamed h a0) z a2) (statements_twice a1)
    statement_twice (s.do_loop a0 a1 a2) = ap (λ z. s.do_loop z (renamed g (renamed f a1)) a2) (statements_twice a0) ∙ ap (λ z. s.do_loop (renamed_statements h a0) z a2) (twice a1)
    statement_twice (s.for_loop a0 a1 a2 a3 a4) = ap (λ z. s.for_loop z (renamed_all g (renamed_all f a1)) (renamed_all g (renamed_all f a2)) (renamed_statements g (renamed_statements f a3)) a4) (all_twice a0) ∙ ap (λ z. s.for_loop (renamed_all h a0) z (renamed_all g (renamed_all f a2)) (renamed_statements g (renamed_statements f a3)) a4) (all_twice a1) ∙ ap (λ z. s.for_loop (renamed_all h a0) (renamed_all h a1) z (renamed_statements g (renamed_statements f a3)) a4) (all_twice a2) ∙ ap (λ z. s.for_loop (renamed_all h a0) (renamed_all h a1) (renamed_all h a2) z a4) (statements_twice a3)
    statement_twice (s.foreach a0 a1 a2 a3 a4) = ap (λ z. s.foreach z (renamed_var g (renamed_var f a1)) (g (f a2)) (renamed_statements g (renamed_statements f a3)) a4) (twice a0) ∙ ap (λ z. s.foreach (renamed h a0) z (g (f a2)) (renamed_statements g (renamed_statements f a3)) a4) (var_twice a1) ∙ ap (λ z. s.foreach (renamed h a0) (renamed_var h a1) z (renamed_statements g (renamed_statements f a3)) a4) (same a2) ∙ ap (λ z. s.foreach (renamed h a0) (renamed_var h a1) (h a2) z a4) (statements_twice a3)
    statement_twice (s.switch a0 a1 a2) = ap (λ z. s.switch z (renamed_cases g (renamed_cases f a1)) a2) (twice a0) ∙ ap (λ z. s.switch (renamed h a0) z a2) (cases_twice a1)
    statement_twice (s.break a0 a1) = refl
    statement_twice (s.continue a0 a1) = refl
    statement_twice (s.return a0 a1) = ap (λ z. s.return z a1) (option_twice a0)
    statement_twice (s.global a0 a1) = ap (λ z. s.global z a1) (vars_twice a0)
    statement_twice (s.static_vars a0 a1) = ap (λ z. s.static_vars z a1) (statics_twice a0)
    statement_twice (s.unset a0 a1) = ap (λ z. s.unset z a1) (all_twice a0)
    statement_twice (s.throw a0 a1) = ap (λ z. s.throw z a1) (twice a0)
    statement_twice (s.try a0 a1 a2) = ap (λ z. s.try z (renamed_clauses g (renamed_clauses f a1)) a2) (statements_twice a0) ∙ ap (λ z. s.try (renamed_statements h a0) z a2) (clauses_twice a1)
    statement_twice (s.function a0 a1) = ap (λ z. s.function z a1) (function_twice a0)
    statement_twice (s.class a0 a1) = ap (λ z. s.class z a1) (class_twice a0)
    statement_twice (s.constants a0 a1) = ap (λ z. s.constants z a1) (constants_twice a0)
    statement_twice (s.removed a0 a1 a2 a3) = refl

    pub statements_twice : (x : Statements U) → renamed_statements g (renamed_statements f x) ≡ renamed_statements h x
    statements_twice s.no_more = refl
    statements_twice (s.statement a0 a1) = ap (λ z. s.statement z (renamed_statements g (renamed_statements f a1))) (statement_twice a0) ∙ ap (λ z. s.statement (renamed_statement h a0) z) (statements_twice a1)

    pub arms_twice : (x : Arms U) → renamed_arms g (renamed_arms f x) ≡ renamed_arms h x
    arms_twice s.no_arms = refl
    arms_twice (s.arm a0 a1 a2) = ap (λ z. s.arm z (renamed_statements g (renamed_statements f a1)) (renamed_arms g (renamed_arms f a2))) (twice a0) ∙ ap (λ z. s.arm (renamed h a0) z (renamed_arms g (renamed_arms f a2))) (statements_twice a1) ∙ ap (λ z. s.arm (renamed h a0) (renamed_statements h a1) z) (arms_twice a2)

    pub cases_twice : (x : Cases U) → renamed_cases g (renamed_cases f x) ≡ renamed_cases h x
    cases_twice s.no_cases = refl
    cases_twice (s.case a0 a1 a2) = ap (λ z. s.case z (renamed_statements g (renamed_statements f a1)) (renamed_cases g (renamed_cases f a2))) (twice a0) ∙ ap (λ z. s.case (renamed h a0) z (renamed_cases g (renamed_cases f a2))) (statements_twice a1) ∙ ap (λ z. s.case (renamed h a0) (renamed_statements h a1) z) (cases_twice a2)
    cases_twice (s.default_case a0 a1) = ap (λ z. s.default_case z (renamed_cases g (renamed_cases f a1))) (statements_twice a0) ∙ ap (λ z. s.default_case (renamed_statements h a0) z) (cases_twice a1)

    pub clauses_twice : (x : Clauses U) → renamed_clauses g (renamed_clauses f x) ≡ renamed_clauses h x
    clauses_twice s.no_clauses = refl
    clauses_twice (s.clause a0 a1 a2 a3) = ap (λ z. s.clause a0 z (renamed_statements g (renamed_statements f a2)) (renamed_clauses g (renamed_clauses f a3))) (same a1) ∙ ap (λ z. s.clause a0 (h a1) z (renamed_clauses g (renamed_clauses f a3))) (statements_twice a2) ∙ ap (λ z. s.clause a0 (h a1) (renamed_statements h a2) z) (clauses_twice a3)

    pub function_twice : (x : Function U) → renamed_function g (renamed_function f x) ≡ renamed_function h x
    function_twice (s.with_body a0 a1 a2) = ap (λ z. s.with_body z (renamed_statements g (renamed_statements f a1)) a2) (head_twice a0) ∙ ap (λ z. s.with_body (renamed_head h a0) z a2) (statements_twice a1)

    pub class_twice : (x : Class U) → renamed_class g (renamed_class f x) ≡ renamed_class h x
    class_twice (s.with_members a0 a1 a2 a3 a4 a5) = ap (λ z. s.with_members a0 a1 a2 a3 z a5) (members_twice a4)

    pub members_twice : (x : Members U) → renamed_members g (renamed_members f x) ≡ renamed_members h x
    members_twice s.no_members = refl
    members_twice (s.class_constants a0 a1 a2) = ap (λ z. s.class_constants z a1 (renamed_members g (renamed_members f a2))) (constants_twice a0) ∙ ap (λ z. s.class_constants (renamed_constants h a0) a1 z) (members_twice a2)
    members_twice (s.properties a0 a1 a2 a3) = ap (λ z. s.properties a0 z a2 (renamed_members g (renamed_members f a3))) (defaults_twice a1) ∙ ap (λ z. s.properties a0 (renamed_defaults h a1) a2 z) (members_twice a3)
    members_twice (s.method a0 a1 a2 a3) = ap (λ z. s.method a0 z a2 (renamed_members g (renamed_members f a3))) (function_twice a1) ∙ ap (λ z. s.method a0 (renamed_function h a1) a2 z) (members_twice a3)
    members_twice (s.bodiless a0 a1 a2 a3) = ap (λ z. s.bodiless a0 z a2 (renamed_members g (renamed_members f a3))) (head_twice a1) ∙ ap (λ z. s.bodiless a0 (renamed_head h a1) a2 z) (members_twice a3)
