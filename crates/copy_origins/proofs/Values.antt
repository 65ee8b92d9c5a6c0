-- What is read by the grammar: no more functions have a placeholder's body than the word `less_removed` was read; and where it was
-- read no more often, each placeholder of what was read is exact.
use Rattle.std.proofs.Common.{◌≡◌, ℕ, zero, suc, ◌+◌, ◌≤◌, ℤ, Bool, true, false, List, [], ◌∷◌, ◌++◌, inl, inr, refl, ap, subst, ◌∙◌, arith, Option, Some, None}
use Rattle.std.specs.Prelude.{⊤, codes}
use Rattle.std.specs.Str.{str_to_ascii_lowercase}
use Rattle.php_tree.specs.declared.file.Span.{Span}
use Rattle.php_tree.specs.declared.decl.Modifiers.{Modifiers}
use Rattle.php_tree.specs.Functions.{entry_name, class_prefix, spans, spans_in, arms_spans, cases_spans, clauses_spans, function_spans, members_spans}
use Rattle.php_tree.specs.Renamed.{renamed_statement, renamed_statements, renamed_arms, renamed_cases, renamed_clauses, renamed_function, renamed_members}
use Rattle.php_tree.specs.Statements as s
use Rattle.php_tree.specs.Statements.{Head, Statement, Statements, Arms, Cases, Clauses, Members}
use Rattle.php_grammar.specs.declared.token.Kind.{Kind}
use Rattle.php_grammar.specs.declared.token.Kind.TheVariants as k
use Rattle.php_grammar.specs.declared.token.Detail.{Detail}
use Rattle.php_grammar.specs.declared.token.Detail.TheVariants as d
use Rattle.php_grammar.specs.declared.lexeme.Lexeme.{Lexeme}
use Rattle.php_grammar.specs.declared.part.Level.TheVariants.{Choice}
use Rattle.php_grammar.specs.declared.part.Part.{Part}
use Rattle.php_grammar.specs.declared.part.Part.TheVariants as p
use Rattle.php_grammar.specs.declared.part.Rule.{Rule}
use Rattle.php_grammar.specs.declared.part.Rule.TheVariants as g
use Rattle.php_grammar.specs.declared.part.Symbol.{Symbol}
use Rattle.php_grammar.specs.declared.part.Symbol.TheVariants.{Tok as tok, Sub as sub}
use Rattle.php_grammar.specs.Kinds.{code, holds, words}
use Rattle.php_grammar.specs.Grammar.{operand, choose, production}
use Rattle.php_grammar.specs.Values.{Core, constants_core, properties_core, function_core, Value, leaf, stmt_of, stmts_of, cases_of, clauses_of, members_of, body_of, if_parts, modded_of, begun_of, expr_of, as_token, as_stmt, as_stmts, as_int, as_cases, as_clauses, as_members, as_body, as_params, as_hint}
use Rattle.php_grammar.specs.Act.{act, link, nothing_of, one, arms_in, last_in, guarded_in, core_before, core_in, mods_in, line_in, jump, static_statement, head_of, span_of}
use Rattle.php_grammar.specs.Reads.{Goal, part_of, seq, Reads, done, token, part, rule, alone, chain, peek}
use Rattle.app_load.specs.Copies.{span_text}
use Rattle.app_load.specs.Stubs.{is_stub}
use Rattle.copy_laws.specs.Exact.{IsExact, AreExact, ArmsExact, CasesExact, ClausesExact, FunctionExact, MembersExact}
use Rattle.copy_origins.proofs.Marks.{IsBare, StubAt}
use Rattle.copy_origins.proofs.Lexemes.{BareBy, OpensBy, AreGood, one_if, weigh, weight_of}
use Rattle.copy_origins.proofs.Reading.{IsFunctionStub, function_is}
use Rattle.copy_origins.proofs.Texts.{stub_at, bare_append, bare_lower, bare_class}

-- ---- at most so many

-- so many functions have a placeholder's body where the word was read so often; where it was read no more often, this holds
pub record Settled (stubs read : ℕ) (A : Type 0) : Type 0 where
  pub below : stubs ≤ read
  pub then : read ≤ stubs → A

none : (n : ℕ) → Settled 0 n ⊤
none n = record { below = omega arith; then = λ z. tt {0} }

wider : {s n : ℕ} {A : Type 0} → Settled s n A → (m : ℕ) → n ≤ m → Settled s m A
wider x m e = let b = x.below in record { below = omega arith; then = λ z. x.then (omega arith) }

abbrev pub firsts : List (Value × ℕ) → List Value
firsts [] = []
firsts ((v, n) ∷ ws) = v ∷ firsts ws

abbrev pub total : List (Value × ℕ) → ℕ
total [] = 0
total ((v, n) ∷ ws) = n + total ws

module _ (path text : List ℕ) (t : ℕ → List ℕ) where
  -- the functions whose body has the bytes of its placeholder
  abbrev pub stubs : List (List ℕ × Span) → ℕ
  stubs [] = 0
  stubs ((name, at) ∷ rest) = one_if (is_stub path name (span_text text at)) + stubs rest

  stubs_both : (xs ys : List (List ℕ × Span)) → stubs (xs ++ ys) ≡ stubs xs + stubs ys
  stubs_both [] ys = omega arith
  stubs_both ((name, at) ∷ xs) ys = let e = stubs_both xs ys in omega arith

  two : {A B : Type 0} {n m : ℕ} (xs ys : List (List ℕ × Span)) → Settled (stubs xs) n A → Settled (stubs ys) m B → (j : ℕ) → n + m ≤ j → Settled (stubs (xs ++ ys)) j (A × B)
  two xs ys x y j fits =
      let e = stubs_both xs ys in let a = x.below in let b = y.below in
      record { below = omega arith; then = λ z. (x.then (omega arith), y.then (omega arith)) }

  abbrev pub StmtGood : Statement ℕ → ℕ → Type 0
  StmtGood x n = Settled (stubs (spans x)) n (IsExact path (renamed_statement t x))

  abbrev pub StmtsGood : Statements ℕ → ℕ → Type 0
  StmtsGood ss n = Settled (stubs (spans_in ss)) n (AreExact path (renamed_statements t ss))

  abbrev pub ArmsGood : Arms ℕ → ℕ → Type 0
  ArmsGood xs n = Settled (stubs (arms_spans xs)) n (ArmsExact path (renamed_arms t xs))

  abbrev pub CasesGood : Cases ℕ → ℕ → Type 0
  CasesGood xs n = Settled (stubs (cases_spans xs)) n (CasesExact path (renamed_cases t xs))

  abbrev pub ClausesGood : Clauses ℕ → ℕ → Type 0
  ClausesGood xs n = Settled (stubs (clauses_spans xs)) n (ClausesExact path (renamed_clauses t xs))

  abbrev pub MembersGood : Members ℕ → ℕ → Type 0
  MembersGood ms n = (before : List ℕ) → IsBare before → Settled (stubs (members_spans before ms)) n (MembersExact path before (renamed_members t ms))

  pub record IfGood (front : Statements ℕ) (tests : Arms ℕ) (end : Statements ℕ) (n : ℕ) : Type 0 where
    pub guarded_n : ℕ
    pub arms_n : ℕ
    pub last_n : ℕ
    pub guarded : StmtsGood front guarded_n
    pub arms : ArmsGood tests arms_n
    pub last : StmtsGood end last_n
    pub fits : guarded_n + (arms_n + last_n) ≤ n

  -- where the bytes are a placeholder's, the statements are it
  pub record BodyGood (ss : Statements ℕ) (at : Span) (n : ℕ) : Type 0 where
    pub settled : StmtsGood ss n
    pub stub : (name : List ℕ) → IsBare name → is_stub path name (span_text text at) ≡ true → IsFunctionStub path name ss

  abbrev pub MaybeBodyGood : Option (Statements ℕ × Span) → ℕ → Type 0
  MaybeBodyGood None n = ⊤
  MaybeBodyGood (Some (ss, at)) n = BodyGood ss at n

  abbrev pub CoreGood : Core → ℕ → Type 0
  CoreGood (function_core h b) n = IsBare h.name.text × MaybeBodyGood b n
  CoreGood c n = ⊤

  abbrev pub Good : Value → ℕ → Type 0
  Good (stmt_of x) n = StmtGood x n
  Good (stmts_of ss) n = StmtsGood ss n
  Good (cases_of xs) n = CasesGood xs n
  Good (clauses_of xs) n = ClausesGood xs n
  Good (members_of ms) n = MembersGood ms n
  Good (body_of b) n = MaybeBodyGood b n
  Good (if_parts ss arms last) n = IfGood ss arms last n
  Good (modded_of l m c) n = CoreGood c n
  Good v n = ⊤

  -- a name is bare
  abbrev pub IfWord : Part → Value → Type 0
  IfWord p.PlainWord v = IsBare (as_token v).text
  IfWord p.AnyWord v = IsBare (as_token v).text
  IfWord a v = ⊤

  abbrev pub OpenBy : Kind → Value → List Symbol → List (Value × ℕ) → Type 0
  OpenBy k.BraceOpen v (sub p.Stmts ∷ q) ((u, n) ∷ ws) = (name : List ℕ) → IsBare name → StubAt path name text (as_token v).at → IsFunctionStub path name (as_stmts u)
  OpenBy kind v q ws = ⊤

  pub record TokGood (kind : Kind) (v : Value) (n : ℕ) (q : List Symbol) (ws : List (Value × ℕ)) : Type 0 where
    pub bare : BareBy kind (as_token v).text
    pub weighs : n ≡ weigh kind
    pub opens : OpenBy kind v q ws

  abbrev pub SeqGood : List Symbol → List (Value × ℕ) → Type 0
  SeqGood (tok kind ∷ q) ((v, n) ∷ ws) = (Good v n × TokGood kind v n q ws) × SeqGood q ws
  SeqGood (sub a ∷ q) ((v, n) ∷ ws) = (Good v n × IfWord a v) × SeqGood q ws
  SeqGood q ws = ⊤

  -- ---- what a value holds

  stmt_in : (v : Value) (n : ℕ) → Good v n → StmtGood (as_stmt v) n
  stmt_in (stmt_of x) n h = h
  stmt_in v n h = none n

  stmts_in : (v : Value) (n : ℕ) → Good v n → StmtsGood (as_stmts v) n
  stmts_in (stmts_of x) n h = h
  stmts_in v n h = none n

  cases_in : (v : Value) (n : ℕ) → Good v n → CasesGood (as_cases v) n
  cases_in (cases_of x) n h = h
  cases_in v n h = none n

  clauses_in : (v : Value) (n : ℕ) → Good v n → ClausesGood (as_clauses v) n
  clauses_in (clauses_of x) n h = h
  clauses_in v n h = none n

  members_in : (v : Value) (n : ℕ) → Good v n → MembersGood (as_members v) n
  members_in (members_of x) n h = h
  members_in v n h = λ before bare. none n

  body_in : (v : Value) (n : ℕ) → Good v n → MaybeBodyGood (as_body v) n
  body_in (body_of x) n h = h
  body_in v n h = tt {0}

  core_good : (v : Value) (n : ℕ) → Good v n → CoreGood (core_in v) n
  core_good (modded_of l m c) n h = h
  core_good v n h = tt {0}

  if_in : (v : Value) (n : ℕ) → Good v n → IfGood (guarded_in v) (arms_in v) (last_in v) n
  if_in (if_parts ss arms last) n h = h
  if_in v n h = record { guarded_n = 0; arms_n = 0; last_n = 0; guarded = none 0; arms = none 0; last = none 0; fits = omega arith }

  one_in : (v : Value) (n : ℕ) → Good v n → StmtsGood (one (as_stmt v)) n
  one_in v n h = two (spans (as_stmt v)) [] (stmt_in v n h) (none 0) n (omega arith)

  -- ---- a value that is good is so where the word was read more often

  grows_body : (b : Option (Statements ℕ × Span)) (n m : ℕ) → n ≤ m → MaybeBodyGood b n → MaybeBodyGood b m
  grows_body None n m e h = tt {0}
  grows_body (Some (ss, at)) n m e h = record { settled = wider h.settled m e; stub = h.stub }

  grows_core : (c : Core) (n m : ℕ) → n ≤ m → CoreGood c n → CoreGood c m
  grows_core (function_core x b) n m e h = (h.0, grows_body b n m e h.1)
  grows_core c n m e h = tt {0}

  grows : (v : Value) (n m : ℕ) → n ≤ m → Good v n → Good v m
  grows (stmt_of x) n m e h = wider h m e
  grows (stmts_of ss) n m e h = wider h m e
  grows (cases_of xs) n m e h = wider h m e
  grows (clauses_of xs) n m e h = wider h m e
  grows (members_of ms) n m e h = λ before bare. wider (h before bare) m e
  grows (body_of b) n m e h = grows_body b n m e h
  grows (if_parts ss arms last) n m e h =
      let fits = h.fits in record { guarded_n = h.guarded_n; arms_n = h.arms_n; last_n = h.last_n; guarded = h.guarded; arms = h.arms; last = h.last; fits = omega arith }
  grows (modded_of l x c) n m e h = grows_core c n m e h
  grows v n m e h = tt {0}

  -- ---- statements

  jump_good : (detail : Detail) (z : ℤ) (l n : ℕ) → StmtGood (jump detail z l) n
  jump_good d.Continue z l n = none n
  jump_good detail z l n = none n

  static_good : (w : List ℕ) (l : ℕ) (r : Value) (n : ℕ) → StmtGood (static_statement w l r) n
  static_good w l (begun_of r js) n = none n
  static_good w l r n = none n

  -- ---- functions

  some_words : (n : ℕ) → (n ≤ 0 → ⊥) → 1 ≤ n
  some_words zero h = absurd (h (omega arith))
  some_words (suc n) h = omega arith

  no_free_stub : (what kind : List ℕ) (name : Option (List ℕ)) (line n : ℕ) (ss : Statements ℕ) → ss ≡ one (s.removed what kind name line) → StmtsGood ss n → 1 ≤ n
  no_free_stub what kind name line n ss e g =
      let here : StmtsGood (one (s.removed what kind name line)) n = subst (λ x. StmtsGood x n) e g in some_words n (λ z. (here.then z).0)

  by_stub : (before : List ℕ) (h : Head ℕ) (ss : Statements ℕ) (at : Span) (n m : ℕ) (c : Bool) → is_stub path (entry_name before h) (span_text text at) ≡ c → IsBare (entry_name before h)
      → BodyGood ss at n → n ≤ m → Settled (one_if c + stubs (spans_in ss)) m (FunctionExact path before (renamed_function t (s.with_body h ss at)))
  by_stub before h ss at n m true e bare body fits =
      let is = body.stub (entry_name before h) bare e in
      let none_in : stubs (spans_in ss) ≡ 0 = ap (λ x. stubs (spans_in x)) is.alone in
      let some = no_free_stub (codes "function") path (Some (entry_name before h)) is.line n ss is.alone body.settled in
      record { below = omega arith; then = λ z. inl (record { line = is.line; alone = ap (renamed_statements t) is.alone }) }
  by_stub before h ss at n m false e bare body fits =
      let x = body.settled in let b = x.below in record { below = omega arith; then = λ z. inr (x.then (omega arith)) }

  bare_name : (before : List ℕ) (h : Head ℕ) → IsBare before → IsBare h.name.text → IsBare (entry_name before h)
  bare_name before h b e = bare_append before (str_to_ascii_lowercase h.name.text) b (bare_lower h.name.text e)

  function_good : (before : List ℕ) (h : Head ℕ) (ss : Statements ℕ) (at : Span) (n m : ℕ) → IsBare before → IsBare h.name.text → BodyGood ss at n → n ≤ m
      → Settled (stubs (function_spans before (s.with_body h ss at))) m (FunctionExact path before (renamed_function t (s.with_body h ss at)))
  function_good before h ss at n m b e body fits = by_stub before h ss at n m (is_stub path (entry_name before h) (span_text text at)) refl (bare_name before h b e) body fits

  core_before_good : (c : Core) (mods : Modifiers) (l : ℕ) (ms : Members ℕ) (n m : ℕ) → CoreGood c n → MembersGood ms m → (j : ℕ) → n + m ≤ j → MembersGood (core_before c mods l ms) j
  core_before_good (constants_core cs) mods l ms n m a b j fits = λ before bare. wider (b before bare) j (omega arith)
  core_before_good (properties_core ps) mods l ms n m a b j fits = λ before bare. wider (b before bare) j (omega arith)
  core_before_good (function_core h (Some (ss, at))) mods l ms n m a b j fits = λ before bare.
      two (function_spans before (s.with_body h ss at)) (members_spans before ms) (function_good before h ss at n n bare a.0 a.1 (omega arith)) (b before bare) j fits
  core_before_good (function_core h None) mods l ms n m a b j fits = λ before bare. wider (b before bare) j (omega arith)

  none_good : (a : Part) (n : ℕ) → Good (nothing_of a) n
  none_good p.Stmts n = none n
  none_good p.IfRest n = record { guarded_n = 0; arms_n = 0; last_n = 0; guarded = none 0; arms = none 0; last = none 0; fits = omega arith }
  none_good p.Arms n = none n
  none_good p.MoreCatches n = none n
  none_good (p.Members i) n = λ before bare. none n
  none_good (p.Operators i Choice) n = tt {0}
  none_good a n = tt {0}

  -- ---- rules

  act_good : (r : Rule) (ws : List (Value × ℕ)) → SeqGood (production r) ws → Good (act r (firsts ws)) (total ws)
  unfolding act production
  act_good g.Whole ((ss, n0) ∷ (l, n1) ∷ []) h = wider (stmts_in ss n0 h.0.0) (n0 + (n1 + 0)) (omega arith)
  act_good g.SomeStmts ((x, n0) ∷ (ss, n1) ∷ []) h = two (spans (as_stmt x)) (spans_in (as_stmts ss)) (stmt_in x n0 h.0.0) (stmts_in ss n1 h.1.0.0) (n0 + (n1 + 0)) (omega arith)
  act_good g.InlineText ((l, n0) ∷ []) h = none (n0 + 0)
  act_good g.EchoTag ((l, n0) ∷ (e, n1) ∷ (es, n2) ∷ (u, n3) ∷ []) h = none (n0 + (n1 + (n2 + (n3 + 0))))
  act_good g.EchoWord ((l, n0) ∷ (e, n1) ∷ (es, n2) ∷ (u, n3) ∷ []) h = none (n0 + (n1 + (n2 + (n3 + 0))))
  act_good g.EmptyStmt ((l, n0) ∷ []) h = none (n0 + 0)
  act_good g.ReturnStmt ((l, n0) ∷ (e, n1) ∷ (u, n2) ∷ []) h = none (n0 + (n1 + (n2 + 0)))
  act_good g.GlobalStmt ((l, n0) ∷ (u, n1) ∷ (vs, n2) ∷ (v, n3) ∷ []) h = none (n0 + (n1 + (n2 + (n3 + 0))))
  act_good g.UnsetStmt ((l, n0) ∷ (u, n1) ∷ (e, n2) ∷ (es, n3) ∷ (v, n4) ∷ (w, n5) ∷ []) h = none (n0 + (n1 + (n2 + (n3 + (n4 + (n5 + 0))))))
  act_good g.ThrowStmt ((l, n0) ∷ (e, n1) ∷ (u, n2) ∷ []) h = none (n0 + (n1 + (n2 + 0)))
  act_good g.ConstStmt ((l, n0) ∷ (name, n1) ∷ (u, n2) ∷ (e, n3) ∷ (cs, n4) ∷ (v, n5) ∷ []) h = none (n0 + (n1 + (n2 + (n3 + (n4 + (n5 + 0))))))
  act_good g.RemovedStmt ((l, n0) ∷ (u, n1) ∷ (kind, n2) ∷ (v, n3) ∷ (path, n4) ∷ (name, n5) ∷ (w, n6) ∷ (z, n7) ∷ []) h = record { below = omega arith; then = λ z. let one_word : n0 ≡ 1 = h.0.1.weighs in absurd (omega arith) }
  act_good g.ExprStmt ((e, n0) ∷ (l, n1) ∷ []) h = none (n0 + (n1 + 0))
  act_good g.Block ((l, n0) ∷ (ss, n1) ∷ (u, n2) ∷ []) h = wider (stmts_in ss n1 h.1.0.0) (n0 + (n1 + (n2 + 0))) (omega arith)
  act_good g.IfStmt ((l, n0) ∷ (u, n1) ∷ (e, n2) ∷ (v, n3) ∷ (b, n4) ∷ []) h = let i = if_in b n4 h.1.1.1.1.0.0 in let fits = i.fits in two (spans_in (guarded_in b) ++ arms_spans (arms_in b)) (spans_in (last_in b)) (two (spans_in (guarded_in b)) (arms_spans (arms_in b)) i.guarded i.arms (i.guarded_n + i.arms_n) (omega arith)) i.last (n0 + (n1 + (n2 + (n3 + (n4 + 0))))) (omega arith)
  act_good g.WhileStmt ((l, n0) ∷ (u, n1) ∷ (e, n2) ∷ (v, n3) ∷ (ss, n4) ∷ []) h = wider (stmts_in ss n4 h.1.1.1.1.0.0) (n0 + (n1 + (n2 + (n3 + (n4 + 0))))) (omega arith)
  act_good g.DoStmt ((l, n0) ∷ (x, n1) ∷ (u, n2) ∷ (v, n3) ∷ (e, n4) ∷ (w, n5) ∷ (z, n6) ∷ []) h = wider (one_in x n1 h.1.0.0) (n0 + (n1 + (n2 + (n3 + (n4 + (n5 + (n6 + 0))))))) (omega arith)
  act_good g.ForStmt ((l, n0) ∷ (u, n1) ∷ (a, n2) ∷ (v, n3) ∷ (b, n4) ∷ (w, n5) ∷ (c, n6) ∷ (z, n7) ∷ (ss, n8) ∷ []) h = wider (stmts_in ss n8 h.1.1.1.1.1.1.1.1.0.0) (n0 + (n1 + (n2 + (n3 + (n4 + (n5 + (n6 + (n7 + (n8 + 0))))))))) (omega arith)
  act_good g.ForeachStmt ((l, n0) ∷ (u, n1) ∷ (e, n2) ∷ (v, n3) ∷ (w, n4) ∷ (second, n5) ∷ (z, n6) ∷ (ss, n7) ∷ []) h = wider (stmts_in ss n7 h.1.1.1.1.1.1.1.0.0) (n0 + (n1 + (n2 + (n3 + (n4 + (n5 + (n6 + (n7 + 0)))))))) (omega arith)
  act_good g.SwitchStmt ((l, n0) ∷ (u, n1) ∷ (e, n2) ∷ (v, n3) ∷ (arms, n4) ∷ []) h = wider (cases_in arms n4 h.1.1.1.1.0.0) (n0 + (n1 + (n2 + (n3 + (n4 + 0))))) (omega arith)
  act_good g.JumpStmt ((l, n0) ∷ (z, n1) ∷ (u, n2) ∷ []) h = jump_good (as_token l).detail (as_int z) (as_token l).line (n0 + (n1 + (n2 + 0)))
  act_good g.StaticStmt ((l, n0) ∷ (r, n1) ∷ []) h = static_good (as_token l).text (as_token l).line r (n0 + (n1 + 0))
  act_good g.TryStmt ((l, n0) ∷ (u, n1) ∷ (ss, n2) ∷ (v, n3) ∷ (cs, n4) ∷ []) h = two (spans_in (as_stmts ss)) (clauses_spans (as_clauses cs)) (stmts_in ss n2 h.1.1.0.0) (clauses_in cs n4 h.1.1.1.1.0.0) (n0 + (n1 + (n2 + (n3 + (n4 + 0))))) (omega arith)
  act_good g.FunctionStmt ((l, n0) ∷ (name, n1) ∷ (u, n2) ∷ (ps, n3) ∷ (v, n4) ∷ (r, n5) ∷ (w, n6) ∷ (ss, n7) ∷ (z, n8) ∷ []) h = function_good [] (head_of (as_token name) (as_params ps) (as_hint r) (as_token l).line) (as_stmts ss) (span_of (as_token w) (as_token z)) n7 (n0 + (n1 + (n2 + (n3 + (n4 + (n5 + (n6 + (n7 + (n8 + 0))))))))) refl h.1.0.1 (record { settled = stmts_in ss n7 h.1.1.1.1.1.1.1.0.0; stub = λ name bare e. h.1.1.1.1.1.1.0.1.opens name bare (stub_at path name text (span_of (as_token w) (as_token z)) e) }) (omega arith)
  act_good g.AbstractClass ((l, n0) ∷ (u, n1) ∷ (name, n2) ∷ (p, n3) ∷ (ns, n4) ∷ (v, n5) ∷ (ms, n6) ∷ (w, n7) ∷ []) h = wider (members_in ms n6 h.1.1.1.1.1.1.0.0 (class_prefix (as_token name).text) (bare_class (as_token name).text h.1.1.0.1)) (n0 + (n1 + (n2 + (n3 + (n4 + (n5 + (n6 + (n7 + 0)))))))) (omega arith)
  act_good g.FinalClass ((l, n0) ∷ (u, n1) ∷ (name, n2) ∷ (p, n3) ∷ (ns, n4) ∷ (v, n5) ∷ (ms, n6) ∷ (w, n7) ∷ []) h = wider (members_in ms n6 h.1.1.1.1.1.1.0.0 (class_prefix (as_token name).text) (bare_class (as_token name).text h.1.1.0.1)) (n0 + (n1 + (n2 + (n3 + (n4 + (n5 + (n6 + (n7 + 0)))))))) (omega arith)
  act_good g.PlainClass ((l, n0) ∷ (name, n1) ∷ (p, n2) ∷ (ns, n3) ∷ (v, n4) ∷ (ms, n5) ∷ (w, n6) ∷ []) h = wider (members_in ms n5 h.1.1.1.1.1.0.0 (class_prefix (as_token name).text) (bare_class (as_token name).text h.1.0.1)) (n0 + (n1 + (n2 + (n3 + (n4 + (n5 + (n6 + 0))))))) (omega arith)
  act_good g.InterfaceStmt ((l, n0) ∷ (name, n1) ∷ (ns, n2) ∷ (v, n3) ∷ (ms, n4) ∷ (w, n5) ∷ []) h = wider (members_in ms n4 h.1.1.1.1.0.0 (class_prefix (as_token name).text) (bare_class (as_token name).text h.1.0.1)) (n0 + (n1 + (n2 + (n3 + (n4 + (n5 + 0)))))) (omega arith)
  act_good g.IfListed ((l, n0) ∷ (ss, n1) ∷ (r, n2) ∷ []) h = let i = if_in r n2 h.1.1.0.0 in let fits = i.fits in record { guarded_n = n1; arms_n = i.arms_n; last_n = i.last_n; guarded = stmts_in ss n1 h.1.0.0; arms = i.arms; last = i.last; fits = omega arith }
  act_good g.IfSingle ((x, n0) ∷ (r, n1) ∷ []) h = let i = if_in r n1 h.1.0.0 in let fits = i.fits in record { guarded_n = n0; arms_n = i.arms_n; last_n = i.last_n; guarded = one_in x n0 h.0.0; arms = i.arms; last = i.last; fits = omega arith }
  act_good g.ElseIf ((l, n0) ∷ (u, n1) ∷ (e, n2) ∷ (v, n3) ∷ (x, n4) ∷ (r, n5) ∷ []) h = let i = if_in r n5 h.1.1.1.1.1.0.0 in let fits = i.fits in record { guarded_n = 0; arms_n = n4 + i.arms_n; last_n = i.last_n; guarded = none 0; arms = two (spans_in (one (as_stmt x))) (arms_spans (arms_in r)) (one_in x n4 h.1.1.1.1.0.0) i.arms (n4 + i.arms_n) (omega arith); last = i.last; fits = omega arith }
  act_good g.ElseSingle ((l, n0) ∷ (x, n1) ∷ []) h = record { guarded_n = 0; arms_n = 0; last_n = n1; guarded = none 0; arms = none 0; last = one_in x n1 h.1.0.0; fits = omega arith }
  act_good g.ElseIfListed ((l, n0) ∷ (u, n1) ∷ (e, n2) ∷ (v, n3) ∷ (w, n4) ∷ (ss, n5) ∷ (r, n6) ∷ []) h = let i = if_in r n6 h.1.1.1.1.1.1.0.0 in let fits = i.fits in record { guarded_n = 0; arms_n = n5 + i.arms_n; last_n = i.last_n; guarded = none 0; arms = two (spans_in (as_stmts ss)) (arms_spans (arms_in r)) (stmts_in ss n5 h.1.1.1.1.1.0.0) i.arms (n5 + i.arms_n) (omega arith); last = i.last; fits = omega arith }
  act_good g.ElseListed ((l, n0) ∷ (u, n1) ∷ (ss, n2) ∷ (v, n3) ∷ (w, n4) ∷ []) h = record { guarded_n = 0; arms_n = 0; last_n = n2; guarded = none 0; arms = none 0; last = stmts_in ss n2 h.1.1.0.0; fits = omega arith }
  act_good g.EndIf ((l, n0) ∷ (u, n1) ∷ []) h = record { guarded_n = 0; arms_n = 0; last_n = 0; guarded = none 0; arms = none 0; last = none 0; fits = omega arith }
  act_good g.WhileListed ((l, n0) ∷ (ss, n1) ∷ (u, n2) ∷ (v, n3) ∷ []) h = grows ss n1 (n0 + (n1 + (n2 + (n3 + 0)))) (omega arith) h.1.0.0
  act_good g.ForListed ((l, n0) ∷ (ss, n1) ∷ (u, n2) ∷ (v, n3) ∷ []) h = grows ss n1 (n0 + (n1 + (n2 + (n3 + 0)))) (omega arith) h.1.0.0
  act_good g.ForeachListed ((l, n0) ∷ (ss, n1) ∷ (u, n2) ∷ (v, n3) ∷ []) h = grows ss n1 (n0 + (n1 + (n2 + (n3 + 0)))) (omega arith) h.1.0.0
  act_good g.BodySingle ((x, n0) ∷ []) h = wider (one_in x n0 h.0.0) (n0 + 0) (omega arith)
  act_good g.SwitchBraced ((l, n0) ∷ (u, n1) ∷ (arms, n2) ∷ (v, n3) ∷ []) h = grows arms n2 (n0 + (n1 + (n2 + (n3 + 0)))) (omega arith) h.1.1.0.0
  act_good g.SwitchListed ((l, n0) ∷ (u, n1) ∷ (arms, n2) ∷ (v, n3) ∷ (w, n4) ∷ []) h = grows arms n2 (n0 + (n1 + (n2 + (n3 + (n4 + 0))))) (omega arith) h.1.1.0.0
  act_good g.CaseArm ((l, n0) ∷ (e, n1) ∷ (u, n2) ∷ (ss, n3) ∷ (arms, n4) ∷ []) h = two (spans_in (as_stmts ss)) (cases_spans (as_cases arms)) (stmts_in ss n3 h.1.1.1.0.0) (cases_in arms n4 h.1.1.1.1.0.0) (n0 + (n1 + (n2 + (n3 + (n4 + 0))))) (omega arith)
  act_good g.DefaultArm ((l, n0) ∷ (u, n1) ∷ (ss, n2) ∷ (arms, n3) ∷ []) h = two (spans_in (as_stmts ss)) (cases_spans (as_cases arms)) (stmts_in ss n2 h.1.1.0.0) (cases_in arms n3 h.1.1.1.0.0) (n0 + (n1 + (n2 + (n3 + 0)))) (omega arith)
  act_good g.StaticExpr ((b, n0) ∷ (l, n1) ∷ []) h = grows b n0 (n0 + (n1 + 0)) (omega arith) h.0.0
  act_good g.ACatch ((l, n0) ∷ (u, n1) ∷ (n, n2) ∷ (ns, n3) ∷ (v, n4) ∷ (w, n5) ∷ (z, n6) ∷ (ss, n7) ∷ (q, n8) ∷ (cs, n9) ∷ []) h = two (spans_in (as_stmts ss)) (clauses_spans (as_clauses cs)) (stmts_in ss n7 h.1.1.1.1.1.1.1.0.0) (clauses_in cs n9 h.1.1.1.1.1.1.1.1.1.0.0) (n0 + (n1 + (n2 + (n3 + (n4 + (n5 + (n6 + (n7 + (n8 + (n9 + 0)))))))))) (omega arith)
  act_good g.AResult ((l, n0) ∷ (r, n1) ∷ []) h = grows r n1 (n0 + (n1 + 0)) (omega arith) h.1.0.0
  act_good g.APlainWord ((l, n0) ∷ []) h = grows l n0 (n0 + 0) (omega arith) h.0.0
  act_good g.AHintWord ((l, n0) ∷ []) h = grows l n0 (n0 + 0) (omega arith) h.0.0
  act_good (g.SomeMembers i) ((m, n0) ∷ (ms, n1) ∷ []) h = core_before_good (core_in m) (mods_in m) (line_in m) (as_members ms) n0 n1 (core_good m n0 h.0.0) (members_in ms n1 h.1.0.0) (n0 + (n1 + 0)) (omega arith)
  act_good (g.FunctionMember i) ((l, n0) ∷ (name, n1) ∷ (u, n2) ∷ (ps, n3) ∷ (v, n4) ∷ (r, n5) ∷ (b, n6) ∷ []) h = (h.1.0.1, grows_body (as_body b) n6 (n0 + (n1 + (n2 + (n3 + (n4 + (n5 + (n6 + 0))))))) (omega arith) (body_in b n6 h.1.1.1.1.1.1.0.0))
  act_good g.PlainVar ((l, n0) ∷ []) h = grows l n0 (n0 + 0) (omega arith) h.0.0
  act_good g.ThisVar ((l, n0) ∷ []) h = grows l n0 (n0 + 0) (omega arith) h.0.0
  act_good (g.VisibleMod a b c d i) ((l, n0) ∷ (m, n1) ∷ []) h = grows_core (core_in m) n1 (n0 + (n1 + 0)) (omega arith) (core_good m n1 h.1.0.0)
  act_good (g.StaticMod a b c d i) ((l, n0) ∷ (m, n1) ∷ []) h = grows_core (core_in m) n1 (n0 + (n1 + 0)) (omega arith) (core_good m n1 h.1.0.0)
  act_good (g.AbstractMod a b c d i) ((l, n0) ∷ (m, n1) ∷ []) h = grows_core (core_in m) n1 (n0 + (n1 + 0)) (omega arith) (core_good m n1 h.1.0.0)
  act_good (g.FinalMod a b c d i) ((l, n0) ∷ (m, n1) ∷ []) h = grows_core (core_in m) n1 (n0 + (n1 + 0)) (omega arith) (core_good m n1 h.1.0.0)
  act_good (g.VarMod a b c d i) ((l, n0) ∷ (m, n1) ∷ []) h = grows_core (core_in m) n1 (n0 + (n1 + 0)) (omega arith) (core_good m n1 h.1.0.0)
  act_good g.WithBody ((l, n0) ∷ (ss, n1) ∷ (u, n2) ∷ []) h = record { settled = wider (stmts_in ss n1 h.1.0.0) (n0 + (n1 + (n2 + 0))) (omega arith); stub = λ name bare e. h.0.1.opens name bare (stub_at path name text (span_of (as_token l) (as_token u)) e) }
  act_good (g.NamedWord i) ((l, n0) ∷ []) h = grows l n0 (n0 + 0) (omega arith) h.0.0
  act_good g.NoPrint ((e, n0) ∷ []) h = grows e n0 (n0 + 0) (omega arith) h.0.0
  act_good g.NoNot ((e, n0) ∷ []) h = grows e n0 (n0 + 0) (omega arith) h.0.0
  act_good g.NoUnary ((e, n0) ∷ []) h = grows e n0 (n0 + 0) (omega arith) h.0.0
  act_good g.ItemFull ((e, n0) ∷ []) h = grows e n0 (n0 + 0) (omega arith) h.0.0
  act_good g.ItemConst ((e, n0) ∷ []) h = grows e n0 (n0 + 0) (omega arith) h.0.0
  act_good g.CNoNot ((e, n0) ∷ []) h = grows e n0 (n0 + 0) (omega arith) h.0.0
  act_good g.CNoSign ((e, n0) ∷ []) h = grows e n0 (n0 + 0) (omega arith) h.0.0
  act_good (g.OpenIndex i j) ((l, n0) ∷ (r, n1) ∷ []) h = grows r n1 (n0 + (n1 + 0)) (omega arith) h.1.0.0
  act_good (g.Arrow i j) ((l, n0) ∷ (r, n1) ∷ []) h = grows r n1 (n0 + (n1 + 0)) (omega arith) h.1.0.0
  act_good (g.Colons i) ((l, n0) ∷ (r, n1) ∷ []) h = grows r n1 (n0 + (n1 + 0)) (omega arith) h.1.0.0
  act_good g.PlaceArrow ((l, n0) ∷ (r, n1) ∷ []) h = grows r n1 (n0 + (n1 + 0)) (omega arith) h.1.0.0
  act_good (g.NextItem i) ((l, n0) ∷ (r, n1) ∷ []) h = grows r n1 (n0 + (n1 + 0)) (omega arith) h.1.0.0
  act_good g.CColons ((l, n0) ∷ (r, n1) ∷ []) h = grows r n1 (n0 + (n1 + 0)) (omega arith) h.1.0.0
  act_good g.CArrayName ((l, n0) ∷ (r, n1) ∷ []) h = grows r n1 (n0 + (n1 + 0)) (omega arith) h.1.0.0
  act_good (g.NoneOf a) [] h = none_good a 0
  act_good g.ASemi ((v0, n0) ∷ []) h = tt {0}
  act_good g.ArmColon ((v0, n0) ∷ []) h = tt {0}
  act_good g.ArmSemi ((v0, n0) ∷ []) h = tt {0}
  act_good g.AnInt ((v0, n0) ∷ []) h = tt {0}
  act_good g.AnExpr ((v0, n0) ∷ []) h = tt {0}
  act_good g.KeyThenValue ((v0, n0) ∷ (v1, n1) ∷ []) h = tt {0}
  act_good g.NextVar ((v0, n0) ∷ (v1, n1) ∷ (v2, n2) ∷ []) h = tt {0}
  act_good g.StaticVars ((v0, n0) ∷ (v1, n1) ∷ (v2, n2) ∷ (v3, n3) ∷ []) h = tt {0}
  act_good g.NextStatic ((v0, n0) ∷ (v1, n1) ∷ (v2, n2) ∷ (v3, n3) ∷ []) h = tt {0}
  act_good g.ADefault ((v0, n0) ∷ (v1, n1) ∷ []) h = tt {0}
  act_good g.NextConst ((v0, n0) ∷ (v1, n1) ∷ (v2, n2) ∷ (v3, n3) ∷ (v4, n4) ∷ []) h = tt {0}
  act_good g.NextText ((v0, n0) ∷ (v1, n1) ∷ []) h = tt {0}
  act_good g.NextCaught ((v0, n0) ∷ (v1, n1) ∷ (v2, n2) ∷ []) h = tt {0}
  act_good g.SomeParams ((v0, n0) ∷ (v1, n1) ∷ []) h = tt {0}
  act_good g.NextParam ((v0, n0) ∷ (v1, n1) ∷ (v2, n2) ∷ []) h = tt {0}
  act_good g.AParam ((v0, n0) ∷ (v1, n1) ∷ (v2, n2) ∷ (v3, n3) ∷ []) h = tt {0}
  act_good g.AnAmp ((v0, n0) ∷ []) h = tt {0}
  act_good g.OpenHint ((v0, n0) ∷ (v1, n1) ∷ []) h = tt {0}
  act_good g.HintWord ((v0, n0) ∷ []) h = tt {0}
  act_good g.HintStatic ((v0, n0) ∷ []) h = tt {0}
  act_good g.HintArray ((v0, n0) ∷ []) h = tt {0}
  act_good g.PlainHintWord ((v0, n0) ∷ []) h = tt {0}
  act_good g.PlainHintStatic ((v0, n0) ∷ []) h = tt {0}
  act_good g.PlainHintArray ((v0, n0) ∷ []) h = tt {0}
  act_good g.ClassWord ((v0, n0) ∷ []) h = tt {0}
  act_good g.ClassHintWord ((v0, n0) ∷ []) h = tt {0}
  act_good g.ClassStatic ((v0, n0) ∷ []) h = tt {0}
  act_good g.ClassArray ((v0, n0) ∷ []) h = tt {0}
  act_good g.ClassVar ((v0, n0) ∷ []) h = tt {0}
  act_good g.ClassThis ((v0, n0) ∷ []) h = tt {0}
  act_good g.AParent ((v0, n0) ∷ (v1, n1) ∷ []) h = tt {0}
  act_good g.TheInterfaces ((v0, n0) ∷ (v1, n1) ∷ (v2, n2) ∷ []) h = tt {0}
  act_good g.TheParents ((v0, n0) ∷ (v1, n1) ∷ (v2, n2) ∷ []) h = tt {0}
  act_good g.NextName ((v0, n0) ∷ (v1, n1) ∷ (v2, n2) ∷ []) h = tt {0}
  act_good g.ConstMember ((v0, n0) ∷ (v1, n1) ∷ (v2, n2) ∷ (v3, n3) ∷ (v4, n4) ∷ (v5, n5) ∷ []) h = tt {0}
  act_good g.NextClassConst ((v0, n0) ∷ (v1, n1) ∷ (v2, n2) ∷ (v3, n3) ∷ (v4, n4) ∷ []) h = tt {0}
  act_good g.PropertyMember ((v0, n0) ∷ (v1, n1) ∷ (v2, n2) ∷ (v3, n3) ∷ []) h = tt {0}
  act_good g.ThisMember ((v0, n0) ∷ (v1, n1) ∷ (v2, n2) ∷ (v3, n3) ∷ []) h = tt {0}
  act_good g.NextProperty ((v0, n0) ∷ (v1, n1) ∷ (v2, n2) ∷ (v3, n3) ∷ []) h = tt {0}
  act_good g.WithoutBody ((v0, n0) ∷ []) h = tt {0}
  act_good g.PrintExpr ((v0, n0) ∷ (v1, n1) ∷ []) h = tt {0}
  act_good g.NotExpr ((v0, n0) ∷ (v1, n1) ∷ []) h = tt {0}
  act_good g.SignExpr ((v0, n0) ∷ (v1, n1) ∷ []) h = tt {0}
  act_good g.PrefixExpr ((v0, n0) ∷ (v1, n1) ∷ []) h = tt {0}
  act_good g.StepBefore ((v0, n0) ∷ (v1, n1) ∷ []) h = tt {0}
  act_good (g.IntPrim a) ((v0, n0) ∷ (v1, n1) ∷ []) h = tt {0}
  act_good (g.TextPrim a) ((v0, n0) ∷ (v1, n1) ∷ []) h = tt {0}
  act_good (g.QuotePrim a) ((v0, n0) ∷ (v1, n1) ∷ []) h = tt {0}
  act_good (g.EmbeddingPrim a) ((v0, n0) ∷ (v1, n1) ∷ (v2, n2) ∷ (v3, n3) ∷ []) h = tt {0}
  act_good g.QuoteNext ((v0, n0) ∷ (v1, n1) ∷ (v2, n2) ∷ []) h = tt {0}
  act_good g.QuoteEnd ((v0, n0) ∷ []) h = tt {0}
  act_good (g.VarPrim a) ((v0, n0) ∷ (v1, n1) ∷ []) h = tt {0}
  act_good (g.ThisPrim a) ((v0, n0) ∷ (v1, n1) ∷ []) h = tt {0}
  act_good (g.WordPrim a) ((v0, n0) ∷ (v1, n1) ∷ []) h = tt {0}
  act_good (g.HintWordPrim a) ((v0, n0) ∷ (v1, n1) ∷ []) h = tt {0}
  act_good (g.StaticPrim a) ((v0, n0) ∷ (v1, n1) ∷ (v2, n2) ∷ []) h = tt {0}
  act_good (g.ArrayPrim a) ((v0, n0) ∷ (v1, n1) ∷ []) h = tt {0}
  act_good (g.ArrayItems a) ((v0, n0) ∷ (v1, n1) ∷ (v2, n2) ∷ (v3, n3) ∷ []) h = tt {0}
  act_good (g.ArrayName a) ((v0, n0) ∷ (v1, n1) ∷ []) h = tt {0}
  act_good (g.BracketPrim a) ((v0, n0) ∷ (v1, n1) ∷ (v2, n2) ∷ (v3, n3) ∷ []) h = tt {0}
  act_good (g.ParenPrim a) ((v0, n0) ∷ (v1, n1) ∷ (v2, n2) ∷ (v3, n3) ∷ []) h = tt {0}
  act_good (g.IssetPrim a) ((v0, n0) ∷ (v1, n1) ∷ (v2, n2) ∷ (v3, n3) ∷ (v4, n4) ∷ (v5, n5) ∷ []) h = tt {0}
  act_good (g.EmptyPrim a) ((v0, n0) ∷ (v1, n1) ∷ (v2, n2) ∷ (v3, n3) ∷ (v4, n4) ∷ []) h = tt {0}
  act_good (g.ExitPrim a) ((v0, n0) ∷ (v1, n1) ∷ []) h = tt {0}
  act_good (g.NewPrim a) ((v0, n0) ∷ (v1, n1) ∷ (v2, n2) ∷ []) h = tt {0}
  act_good g.ClonePrim ((v0, n0) ∷ (v1, n1) ∷ []) h = tt {0}
  act_good g.IncludePrim ((v0, n0) ∷ (v1, n1) ∷ []) h = tt {0}
  act_good (g.StaticProperty a) ((v0, n0) ∷ (v1, n1) ∷ []) h = tt {0}
  act_good (g.StaticPropertyThis a) ((v0, n0) ∷ (v1, n1) ∷ []) h = tt {0}
  act_good (g.ClassForm a) ((v0, n0) ∷ (v1, n1) ∷ []) h = tt {0}
  act_good (g.StaticMember a b) ((v0, n0) ∷ (v1, n1) ∷ []) h = tt {0}
  act_good (g.CallArgs a) ((v0, n0) ∷ (v1, n1) ∷ (v2, n2) ∷ (v3, n3) ∷ []) h = tt {0}
  act_good (g.ExitArgs a) ((v0, n0) ∷ (v1, n1) ∷ (v2, n2) ∷ (v3, n3) ∷ []) h = tt {0}
  act_good g.AssignVar ((v0, n0) ∷ (v1, n1) ∷ []) h = tt {0}
  act_good g.AssignPlace ((v0, n0) ∷ (v1, n1) ∷ []) h = tt {0}
  act_good g.AssignOp ((v0, n0) ∷ (v1, n1) ∷ []) h = tt {0}
  act_good g.StepAfter ((v0, n0) ∷ []) h = tt {0}
  act_good g.Appended ((v0, n0) ∷ (v1, n1) ∷ []) h = tt {0}
  act_good (g.AtIndexPlace a) ((v0, n0) ∷ (v1, n1) ∷ (v2, n2) ∷ []) h = tt {0}
  act_good (g.AtIndexOther a) ((v0, n0) ∷ (v1, n1) ∷ (v2, n2) ∷ []) h = tt {0}
  act_good g.OnlyAssign ((v0, n0) ∷ (v1, n1) ∷ []) h = tt {0}
  act_good g.OnlyAssignOp ((v0, n0) ∷ (v1, n1) ∷ []) h = tt {0}
  act_good g.Reference ((v0, n0) ∷ (v1, n1) ∷ []) h = tt {0}
  act_good g.AValue ((v0, n0) ∷ []) h = tt {0}
  act_good (g.PlaceMember a b) ((v0, n0) ∷ (v1, n1) ∷ []) h = tt {0}
  act_good (g.OtherMember a b) ((v0, n0) ∷ (v1, n1) ∷ []) h = tt {0}
  act_good g.SomeArgs ((v0, n0) ∷ (v1, n1) ∷ []) h = tt {0}
  act_good g.NextArg ((v0, n0) ∷ (v1, n1) ∷ (v2, n2) ∷ []) h = tt {0}
  act_good (g.SomeItems a) ((v0, n0) ∷ (v1, n1) ∷ (v2, n2) ∷ []) h = tt {0}
  act_good (g.Paired a) ((v0, n0) ∷ (v1, n1) ∷ []) h = tt {0}
  act_good g.NextPlace ((v0, n0) ∷ (v1, n1) ∷ (v2, n2) ∷ []) h = tt {0}
  act_good g.VarPlace ((v0, n0) ∷ (v1, n1) ∷ []) h = tt {0}
  act_good g.ThisPlace ((v0, n0) ∷ (v1, n1) ∷ []) h = tt {0}
  act_good g.WordPlace ((v0, n0) ∷ (v1, n1) ∷ (v2, n2) ∷ []) h = tt {0}
  act_good g.HintWordPlace ((v0, n0) ∷ (v1, n1) ∷ (v2, n2) ∷ []) h = tt {0}
  act_good g.StaticNamedPlace ((v0, n0) ∷ (v1, n1) ∷ (v2, n2) ∷ []) h = tt {0}
  act_good g.ArrayNamedPlace ((v0, n0) ∷ (v1, n1) ∷ (v2, n2) ∷ []) h = tt {0}
  act_good g.ThisStepPlace ((v0, n0) ∷ (v1, n1) ∷ []) h = tt {0}
  act_good g.VarStaticPlace ((v0, n0) ∷ (v1, n1) ∷ []) h = tt {0}
  act_good g.ThisStaticPlace ((v0, n0) ∷ (v1, n1) ∷ []) h = tt {0}
  act_good g.PlaceIndex ((v0, n0) ∷ (v1, n1) ∷ (v2, n2) ∷ (v3, n3) ∷ []) h = tt {0}
  act_good (g.PlaceNamed a) ((v0, n0) ∷ (v1, n1) ∷ []) h = tt {0}
  act_good g.CNotExpr ((v0, n0) ∷ (v1, n1) ∷ []) h = tt {0}
  act_good g.CSignExpr ((v0, n0) ∷ (v1, n1) ∷ []) h = tt {0}
  act_good g.CInt ((v0, n0) ∷ []) h = tt {0}
  act_good g.CText ((v0, n0) ∷ []) h = tt {0}
  act_good g.CWord ((v0, n0) ∷ (v1, n1) ∷ []) h = tt {0}
  act_good g.CHintWord ((v0, n0) ∷ (v1, n1) ∷ []) h = tt {0}
  act_good g.CStatic ((v0, n0) ∷ (v1, n1) ∷ (v2, n2) ∷ []) h = tt {0}
  act_good g.CArray ((v0, n0) ∷ (v1, n1) ∷ []) h = tt {0}
  act_good g.CBracket ((v0, n0) ∷ (v1, n1) ∷ (v2, n2) ∷ []) h = tt {0}
  act_good g.CClassForm ((v0, n0) ∷ []) h = tt {0}
  act_good (g.CNamed a) ((v0, n0) ∷ []) h = tt {0}
  act_good g.CArrayItems ((v0, n0) ∷ (v1, n1) ∷ (v2, n2) ∷ []) h = tt {0}
  act_good g.BegunStatic ((v0, n0) ∷ (v1, n1) ∷ []) h = tt {0}
  act_good g.Ternary ((v0, n0) ∷ (v1, n1) ∷ (v2, n2) ∷ []) h = tt {0}
  act_good g.CTernary ((v0, n0) ∷ (v1, n1) ∷ (v2, n2) ∷ []) h = tt {0}
  act_good g.ShortChoice ((v0, n0) ∷ (v1, n1) ∷ []) h = tt {0}
  act_good g.FullChoice ((v0, n0) ∷ (v1, n1) ∷ (v2, n2) ∷ []) h = tt {0}
  act_good g.CShortChoice ((v0, n0) ∷ (v1, n1) ∷ []) h = tt {0}
  act_good g.CFullChoice ((v0, n0) ∷ (v1, n1) ∷ (v2, n2) ∷ []) h = tt {0}
  act_good g.Coalesced ((v0, n0) ∷ (v1, n1) ∷ []) h = tt {0}
  act_good g.EqualityStep ((v0, n0) ∷ (v1, n1) ∷ []) h = tt {0}
  act_good g.OrderStep ((v0, n0) ∷ (v1, n1) ∷ []) h = tt {0}
  act_good g.InstanceStep ((v0, n0) ∷ (v1, n1) ∷ []) h = tt {0}
  act_good g.OrStep ((v0, n0) ∷ (v1, n1) ∷ (v2, n2) ∷ []) h = tt {0}
  act_good g.XorStep ((v0, n0) ∷ (v1, n1) ∷ (v2, n2) ∷ []) h = tt {0}
  act_good g.AndStep ((v0, n0) ∷ (v1, n1) ∷ (v2, n2) ∷ []) h = tt {0}
  act_good g.EitherStep ((v0, n0) ∷ (v1, n1) ∷ (v2, n2) ∷ []) h = tt {0}
  act_good g.BothStep ((v0, n0) ∷ (v1, n1) ∷ (v2, n2) ∷ []) h = tt {0}
  act_good g.SignStep ((v0, n0) ∷ (v1, n1) ∷ (v2, n2) ∷ []) h = tt {0}
  act_good g.DotStep ((v0, n0) ∷ (v1, n1) ∷ (v2, n2) ∷ []) h = tt {0}
  act_good g.ProductStep ((v0, n0) ∷ (v1, n1) ∷ (v2, n2) ∷ []) h = tt {0}
  act_good g.CSignStep ((v0, n0) ∷ (v1, n1) ∷ (v2, n2) ∷ []) h = tt {0}
  act_good g.CDotStep ((v0, n0) ∷ (v1, n1) ∷ (v2, n2) ∷ []) h = tt {0}
  act_good g.CProductStep ((v0, n0) ∷ (v1, n1) ∷ (v2, n2) ∷ []) h = tt {0}
  act_good r ws h = tt {0}

  link_good : (v w : Value) (n : ℕ) → Good (link v w) n
  link_good (expr_of e) w n = tt {0}
  link_good (begun_of r js) w n = tt {0}
  link_good v w n = tt {0}

  -- ---- names

  abbrev IsWordRule : Option Rule → Type 0
  IsWordRule (Some g.APlainWord) = ⊤
  IsWordRule (Some g.AHintWord) = ⊤
  IsWordRule (Some r) = ⊥
  IsWordRule None = ⊤

  word_chosen : (kind : Kind) → IsWordRule (choose p.PlainWord kind)
  unfolding choose
  word_chosen k.Word = tt {0}
  word_chosen k.HintWord = tt {0}
  word_chosen kind = tt {0}

  word_by : (r : Rule) (ws : List (Value × ℕ)) → IsWordRule (Some r) → SeqGood (production r) ws → IsBare (as_token (act r (firsts ws))).text
  unfolding act production
  word_by g.APlainWord [] i h = refl
  word_by g.APlainWord ((l, n) ∷ []) i h = h.0.1.bare refl
  word_by g.APlainWord (l ∷ u ∷ ws) i h = refl
  word_by g.AHintWord [] i h = refl
  word_by g.AHintWord ((l, n) ∷ []) i h = h.0.1.bare refl
  word_by g.AHintWord (l ∷ u ∷ ws) i h = refl
  word_by r ws i h = absurd i

  abbrev IsNameRule : Option Rule → Type 0
  IsNameRule (Some (g.NamedWord kind)) = holds (code kind) words ≡ true
  IsNameRule (Some r) = ⊥
  IsNameRule None = ⊤

  name_chosen : (kind : Kind) → IsNameRule (choose p.AnyWord kind)
  unfolding choose
  name_chosen k.Word = refl
  name_chosen kind = search tt

  name_by : (r : Rule) (ws : List (Value × ℕ)) → IsNameRule (Some r) → SeqGood (production r) ws → IsBare (as_token (act r (firsts ws))).text
  unfolding act production
  name_by (g.NamedWord kind) [] i h = refl
  name_by (g.NamedWord kind) ((l, n) ∷ []) i h = h.0.1.bare i
  name_by (g.NamedWord kind) (l ∷ u ∷ ws) i h = refl
  name_by r ws i h = absurd i

  if_word : (a : Part) (kind : Kind) (r : Rule) (ws : List (Value × ℕ)) → choose a kind ≡ Some r → SeqGood (production r) ws → IfWord a (act r (firsts ws))
  if_word p.PlainWord kind r ws c h = word_by r ws (subst IsWordRule c (word_chosen kind)) h
  if_word p.AnyWord kind r ws c h = name_by r ws (subst IsNameRule c (name_chosen kind)) h
  if_word a kind r ws c h = tt {0}

  abbrev NoOperand : Option Part → Type 0
  NoOperand None = ⊤
  NoOperand (Some b) = ⊥

  no_operand : NoOperand (operand p.PlainWord) × NoOperand (operand p.AnyWord)
  unfolding operand
  no_operand = (tt {0}, tt {0})

  no_word : (a b : Part) (v : Value) → operand a ≡ Some b → IfWord a v
  no_word p.PlainWord b v o = absurd (subst NoOperand o no_operand.0)
  no_word p.AnyWord b v o = absurd (subst NoOperand o no_operand.1)
  no_word a b v o = tt {0}

  -- ---- all that is read

  pub record PartRead (a : Part) (v : Value) (ts rest : List Lexeme) : Type 0 where
    pub words : ℕ
    pub good : Good v words
    pub word : IfWord a v
    pub weighs : weight_of ts ≡ words + weight_of rest
    pub left : AreGood path text rest

  pub record SeqRead (q : List Symbol) (vs : List Value) (ts rest : List Lexeme) : Type 0 where
    pub ws : List (Value × ℕ)
    pub same : firsts ws ≡ vs
    pub good : SeqGood q ws
    pub weighs : weight_of ts ≡ total ws + weight_of rest
    pub left : AreGood path text rest

  abbrev pub IsRead : Goal → List Value → List Lexeme → List Lexeme → Type 0
  IsRead (seq q) vs ts rest = SeqRead q vs ts rest
  IsRead (part_of a) (v ∷ []) ts rest = PartRead a v ts rest
  IsRead (part_of a) vs ts rest = ⊤

  first_value : {u v : Value} {us vs : List Value} → u ∷ us ≡ v ∷ vs → v ≡ u
  first_value e = cc

  -- what stands behind a brace
  open_by : {b m : ℕ} (kind : Kind) (l : Lexeme) (q : List Symbol) (ws : List (Value × ℕ)) (vs : List Value) (ts rest : List Lexeme)
      → l.kind ≡ kind → OpensBy path text l.kind l.at ts → Reads b m (seq q) vs ts rest → firsts ws ≡ vs → OpenBy kind (leaf l) q ws
  open_by {b} {m} k.BraceOpen l (sub p.Stmts ∷ q) ((u, n) ∷ ws) _ ts rest e opens (part {v = v} {mid = mid} r more) same = λ name bare here.
      subst (λ x. IsFunctionStub path name (as_stmts x)) (first_value same) (function_is path name ts (opens e name bare here) v b m mid r)
  open_by kind l q ws vs ts rest e opens r same = tt {0}

  pub reads_good : {b m : ℕ} {goal : Goal} {vs : List Value} {ts rest : List Lexeme} → Reads b m goal vs ts rest → AreGood path text ts → IsRead goal vs ts rest
  reads_good done h = record { ws = []; same = refl; good = tt {0}; weighs = omega arith; left = h }
  reads_good (token {t = l} {kind = kind} {p = q} {vs = vs} {ts = ts} {rest = rest} e ok r) h =
      let more = reads_good r h.1 in
      let weighs : weight_of (l ∷ ts) ≡ (weigh kind + total more.ws) + weight_of rest = ap (λ x. weigh x + weight_of ts) e ∙ (let f = more.weighs in omega arith) in
      record {
        ws = (leaf l, weigh kind) ∷ more.ws;
        same = ap (λ x. leaf l ∷ x) more.same;
        good = ((tt {0}, record { bare = subst (λ x. BareBy x l.text) e h.0.0; weighs = refl; opens = open_by kind l q more.ws vs ts rest e h.0.1 r more.same }), more.good);
        weighs = weighs;
        left = more.left;
      }
  reads_good (part {v = v} r more) h =
      let first = reads_good r h in let others = reads_good more first.left in let e = first.weighs in let f = others.weighs in
      record { ws = (v, first.words) ∷ others.ws; same = ap (λ x. v ∷ x) others.same; good = ((first.good, first.word), others.good); weighs = omega arith; left = others.left }
  reads_good (rule {a = a} {r = r} {vs = vs} {ts = ts} c reads) h =
      let inside = reads_good reads h in
      record {
        words = total inside.ws;
        good = subst (λ x. Good (act r x) (total inside.ws)) inside.same (act_good r inside.ws inside.good);
        word = subst (λ x. IfWord a (act r x)) inside.same (if_word a (peek ts) r inside.ws c inside.good);
        weighs = inside.weighs;
        left = inside.left;
      }
  reads_good (alone {a = a} {b = b} {v = v} o r e) h =
      let inside = reads_good r h in record { words = inside.words; good = inside.good; word = no_word a b v o; weighs = inside.weighs; left = inside.left }
  reads_good (chain {a = a} {b = b} {v = v} {w = w} o r e more) h =
      let first = reads_good r h in let others = reads_good more first.left in let e = first.weighs in let f = others.weighs in
      record { words = first.words + others.words; good = link_good v w (first.words + others.words); word = no_word a b (link v w) o; weighs = omega arith; left = others.left }
