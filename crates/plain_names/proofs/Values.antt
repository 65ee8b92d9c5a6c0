-- What is read by the grammar declares plain names, where the words among the tokens are plain.
use Rattle.std.proofs.Common.{◌≡◌, ℕ, ◌+◌, ℤ, Bool, true, false, List, [], ◌∷◌, ◌++◌, refl, subst, map, Option, Some, None}
use Rattle.std.specs.Prelude.{⊤, if◌then◌else◌}
use Rattle.php_tree.specs.declared.file.Span.{Span}
use Rattle.php_tree.specs.declared.decl.Modifiers.{Modifiers}
use Rattle.php_tree.specs.declared.name.MemberName.{MemberName}
use Rattle.php_tree.specs.Expressions.{Expression}
use Rattle.php_tree.specs.Statements as s
use Rattle.php_tree.specs.Statements.{Parameter, Head, Statement, Statements, Arms, Cases, Clauses, Members}
use Rattle.php_grammar.specs.declared.token.Kind.{Kind}
use Rattle.php_grammar.specs.declared.token.Kind.TheVariants as k
use Rattle.php_grammar.specs.declared.token.Detail.{Detail}
use Rattle.php_grammar.specs.declared.token.Detail.TheVariants as d
use Rattle.php_grammar.specs.declared.lexeme.Lexeme.{Lexeme}
use Rattle.php_grammar.specs.declared.part.Level.TheVariants.{Choice}
use Rattle.php_grammar.specs.declared.part.Part.{Part}
use Rattle.php_grammar.specs.declared.part.Part.TheVariants as p
use Rattle.php_grammar.specs.declared.part.Rule.{Rule}
use Rattle.php_grammar.specs.declared.part.Rule.TheVariants as g
use Rattle.php_grammar.specs.declared.part.Symbol.{Symbol}
use Rattle.php_grammar.specs.declared.part.Symbol.TheVariants.{Tok as tok, Sub as sub}
use Rattle.php_grammar.specs.Grammar.{operand, choose, production}
use Rattle.php_grammar.specs.Values.{Core, constants_core, properties_core, function_core, Value, stmt_of, stmts_of, cases_of, clauses_of, members_of, body_of, if_parts, modded_of, begun_of, expr_of, as_token, as_stmt, as_stmts, as_int, as_cases, as_clauses, as_members, as_body, as_params}
use Rattle.php_grammar.specs.Act.{act, link, nothing_of, one, arms_in, last_in, guarded_in, core_before, core_in, mods_in, line_in, jump, static_statement}
use Rattle.php_grammar.specs.Reads.{Goal, part_of, seq, Reads, done, token, part, rule, alone, chain, peek}
use Rattle.app_load.specs.declared.finding.Sort.TheVariants as sort
use Rattle.app_load.specs.Findings.{Finding, leaves, declares, is_within, parameter, head, constant, property, findings, findings_in, arms_findings, cases_findings, clauses_findings, function_findings, members_findings}
use Rattle.plain_names.specs.Words.{has_colon, ArePlain}

-- ---- tokens

-- a word, and one that is a hint
abbrev pub PlainBy : Kind → List ℕ → Type 0
PlainBy k.Word text = has_colon text ≡ false
PlainBy k.HintWord text = has_colon text ≡ false
PlainBy _ text = ⊤

abbrev pub LexemesPlain : List Lexeme → Type 0
LexemesPlain [] = ⊤
LexemesPlain (l ∷ ls) = PlainBy l.kind l.text × LexemesPlain ls

-- ---- findings

together : (fs gs : List Finding) → ArePlain fs → ArePlain gs → ArePlain (fs ++ gs)
together [] gs a b = b
together (leaves l ∷ fs) gs a b = together fs gs a b
together (declares n ∷ fs) gs a b = (a.0, together fs gs a.1 b)

module _ (t : ℕ → List ℕ) where
  parameters_plain : (class word : List ℕ) (ps : List (Parameter ℕ)) → ArePlain (map (parameter t class word) ps)
  parameters_plain class word [] = tt {0}
  parameters_plain class word (p ∷ ps) = (tt {0}, parameters_plain class word ps)

  constants_plain : (class : List ℕ) (cs : List (MemberName × Expression ℕ)) → ArePlain (map (constant class) cs)
  constants_plain class [] = tt {0}
  constants_plain class (c ∷ cs) = (tt {0}, constants_plain class cs)

  properties_plain : (class : List ℕ) (ps : List (MemberName × Option (Expression ℕ))) → ArePlain (map (property class) ps)
  properties_plain class [] = tt {0}
  properties_plain class (p ∷ ps) = (tt {0}, properties_plain class ps)

  abbrev PlainStmt : Statement ℕ → Type 0
  PlainStmt x = (n : ℕ) → ArePlain (findings t n x)

  abbrev PlainStmts : Statements ℕ → Type 0
  PlainStmts ss = (n : ℕ) → ArePlain (findings_in t n ss)

  abbrev PlainArms : Arms ℕ → Type 0
  PlainArms xs = (n : ℕ) → ArePlain (arms_findings t n xs)

  abbrev PlainCases : Cases ℕ → Type 0
  PlainCases xs = (n : ℕ) → ArePlain (cases_findings t n xs)

  abbrev PlainClauses : Clauses ℕ → Type 0
  PlainClauses xs = (n : ℕ) → ArePlain (clauses_findings t n xs)

  abbrev PlainMembers : Members ℕ → Type 0
  PlainMembers ms = (class : List ℕ) → has_colon class ≡ false → ArePlain (members_findings t class ms)

  abbrev PlainBody : Option (Statements ℕ × Span) → Type 0
  PlainBody None = ⊤
  PlainBody (Some (ss, at)) = PlainStmts ss

  abbrev PlainCore : Core → Type 0
  PlainCore (function_core h b) = PlainBody b
  PlainCore c = ⊤

  -- ---- values

  abbrev Plain : Value → Type 0
  Plain (stmt_of x) = PlainStmt x
  Plain (stmts_of ss) = PlainStmts ss
  Plain (cases_of xs) = PlainCases xs
  Plain (clauses_of xs) = PlainClauses xs
  Plain (members_of ms) = PlainMembers ms
  Plain (body_of b) = PlainBody b
  Plain (if_parts ss arms last) = (PlainStmts ss × PlainArms arms) × PlainStmts last
  Plain (modded_of l m c) = PlainCore c
  Plain v = ⊤

  -- a name is a word
  abbrev IfWord : Part → Value → Type 0
  IfWord p.PlainWord v = has_colon (as_token v).text ≡ false
  IfWord a v = ⊤

  abbrev SeqPlain : List Symbol → List Value → Type 0
  SeqPlain (tok kind ∷ p) (v ∷ vs) = (Plain v × PlainBy kind (as_token v).text) × SeqPlain p vs
  SeqPlain (sub a ∷ p) (v ∷ vs) = (Plain v × IfWord a v) × SeqPlain p vs
  SeqPlain p vs = ⊤

  abbrev GoalPlain : Goal → List Value → Type 0
  GoalPlain (seq p) vs = SeqPlain p vs
  GoalPlain (part_of a) (v ∷ []) = Plain v × IfWord a v
  GoalPlain (part_of a) vs = ⊤

  -- ---- what a value holds

  stmt_in : (v : Value) → Plain v → PlainStmt (as_stmt v)
  stmt_in (stmt_of x) p = p
  stmt_in v p = λ n. tt {0}

  stmts_in : (v : Value) → Plain v → PlainStmts (as_stmts v)
  stmts_in (stmts_of x) p = p
  stmts_in v p = λ n. tt {0}

  cases_in : (v : Value) → Plain v → PlainCases (as_cases v)
  cases_in (cases_of x) p = p
  cases_in v p = λ n. tt {0}

  clauses_in : (v : Value) → Plain v → PlainClauses (as_clauses v)
  clauses_in (clauses_of x) p = p
  clauses_in v p = λ n. tt {0}

  members_in : (v : Value) → Plain v → PlainMembers (as_members v)
  members_in (members_of x) p = p
  members_in v p = λ class plain. tt {0}

  body_plain : (v : Value) → Plain v → PlainBody (as_body v)
  body_plain (body_of x) p = p
  body_plain v p = tt {0}

  core_plain : (v : Value) → Plain v → PlainCore (core_in v)
  core_plain (modded_of l m c) p = p
  core_plain v p = tt {0}

  guarded_plain : (v : Value) → Plain v → PlainStmts (guarded_in v)
  guarded_plain (if_parts ss arms last) p = p.0.0
  guarded_plain v p = λ n. tt {0}

  arms_plain : (v : Value) → Plain v → PlainArms (arms_in v)
  arms_plain (if_parts ss arms last) p = p.0.1
  arms_plain v p = λ n. tt {0}

  last_plain : (v : Value) → Plain v → PlainStmts (last_in v)
  last_plain (if_parts ss arms last) p = p.1
  last_plain v p = λ n. tt {0}

  one_plain : (x : Statement ℕ) → PlainStmt x → PlainStmts (one x)
  one_plain x p = λ n. together (findings t n x) [] (p n) (tt {0})

  nothing_plain : (n : ℕ) → ArePlain []
  nothing_plain n = tt {0}

  leaves_plain : (c : Bool) (l : ℕ) → ArePlain (if c then [] else leaves l ∷ [])
  leaves_plain true l = tt {0}
  leaves_plain false l = tt {0}

  jump_plain : (detail : Detail) (z : ℤ) (l : ℕ) → PlainStmt (jump detail z l)
  jump_plain d.Continue z l = λ n. leaves_plain (is_within n z) l
  jump_plain detail z l = λ n. leaves_plain (is_within n z) l

  static_plain : (w : List ℕ) (l : ℕ) (r : Value) → PlainStmt (static_statement w l r)
  static_plain w l (begun_of r js) = λ n. tt {0}
  static_plain w l r = λ n. tt {0}

  core_before_plain : (c : Core) (m : Modifiers) (l : ℕ) (ms : Members ℕ) → PlainCore c → PlainMembers ms → PlainMembers (core_before c m l ms)
  core_before_plain (constants_core cs) m l ms p q = λ class plain. together (map (constant class) cs) (members_findings t class ms) (constants_plain class cs) (q class plain)
  core_before_plain (properties_core ps) m l ms p q = λ class plain. together (map (property class) ps) (members_findings t class ms) (properties_plain class ps) (q class plain)
  core_before_plain (function_core h (Some (ss, at))) m l ms p q = λ class plain.
      together (function_findings t sort.Method class (s.with_body h ss at)) (members_findings t class ms)
      (plain, together (map (parameter t class h.name.text) h.parameters) (findings_in t 0 ss) (parameters_plain class h.name.text h.parameters) (p 0)) (q class plain)
  core_before_plain (function_core h None) m l ms p q = λ class plain.
      together (head t sort.Method class h) (members_findings t class ms) (plain, parameters_plain class h.name.text h.parameters) (q class plain)

  none_plain : (a : Part) → Plain (nothing_of a)
  none_plain p.Stmts = λ n. tt {0}
  none_plain p.IfRest = ((nothing_plain, nothing_plain), nothing_plain)
  none_plain p.Arms = λ n. tt {0}
  none_plain p.MoreCatches = λ n. tt {0}
  none_plain (p.Members i) = λ class plain. tt {0}
  none_plain (p.Operators i Choice) = tt {0}
  none_plain a = tt {0}

  -- ---- rules

  act_plain : (r : Rule) (vs : List Value) → SeqPlain (production r) vs → Plain (act r vs)
  unfolding act production
  act_plain g.Whole (ss ∷ l ∷ []) h = stmts_in ss h.0.0
  act_plain g.SomeStmts (x ∷ ss ∷ []) h = λ n. together (findings t n (as_stmt x)) (findings_in t n (as_stmts ss)) (stmt_in x h.0.0 n) (stmts_in ss h.1.0.0 n)
  act_plain g.InlineText (l ∷ []) h = λ n. tt {0}
  act_plain g.EchoTag (l ∷ e ∷ es ∷ u ∷ []) h = λ n. tt {0}
  act_plain g.EchoWord (l ∷ e ∷ es ∷ u ∷ []) h = λ n. tt {0}
  act_plain g.EmptyStmt (l ∷ []) h = λ n. tt {0}
  act_plain g.ReturnStmt (l ∷ e ∷ u ∷ []) h = λ n. tt {0}
  act_plain g.GlobalStmt (l ∷ u ∷ vs ∷ v ∷ []) h = λ n. tt {0}
  act_plain g.UnsetStmt (l ∷ u ∷ e ∷ es ∷ v ∷ w ∷ []) h = λ n. tt {0}
  act_plain g.ThrowStmt (l ∷ e ∷ u ∷ []) h = λ n. tt {0}
  act_plain g.ConstStmt (l ∷ name ∷ u ∷ e ∷ cs ∷ v ∷ []) h = λ n. tt {0}
  act_plain g.RemovedStmt (l ∷ u ∷ kind ∷ v ∷ path ∷ name ∷ w ∷ z ∷ []) h = λ n. tt {0}
  act_plain g.ExprStmt (e ∷ l ∷ []) h = λ n. tt {0}
  act_plain g.Block (l ∷ ss ∷ u ∷ []) h = λ n. stmts_in ss h.1.0.0 n
  act_plain g.IfStmt (l ∷ u ∷ e ∷ v ∷ b ∷ []) h = λ n. together (findings_in t n (guarded_in b) ++ arms_findings t n (arms_in b)) (findings_in t n (last_in b)) (together (findings_in t n (guarded_in b)) (arms_findings t n (arms_in b)) (guarded_plain b h.1.1.1.1.0.0 n) (arms_plain b h.1.1.1.1.0.0 n)) (last_plain b h.1.1.1.1.0.0 n)
  act_plain g.WhileStmt (l ∷ u ∷ e ∷ v ∷ ss ∷ []) h = λ n. stmts_in ss h.1.1.1.1.0.0 (n + 1)
  act_plain g.DoStmt (l ∷ x ∷ u ∷ v ∷ e ∷ w ∷ z ∷ []) h = λ n. one_plain (as_stmt x) (stmt_in x h.1.0.0) (n + 1)
  act_plain g.ForStmt (l ∷ u ∷ a ∷ v ∷ b ∷ w ∷ c ∷ z ∷ ss ∷ []) h = λ n. stmts_in ss h.1.1.1.1.1.1.1.1.0.0 (n + 1)
  act_plain g.ForeachStmt (l ∷ u ∷ e ∷ v ∷ w ∷ second ∷ z ∷ ss ∷ []) h = λ n. stmts_in ss h.1.1.1.1.1.1.1.0.0 (n + 1)
  act_plain g.SwitchStmt (l ∷ u ∷ e ∷ v ∷ arms ∷ []) h = λ n. cases_in arms h.1.1.1.1.0.0 (n + 1)
  act_plain g.JumpStmt (l ∷ z ∷ u ∷ []) h = jump_plain (as_token l).detail (as_int z) (as_token l).line
  act_plain g.StaticStmt (l ∷ r ∷ []) h = static_plain (as_token l).text (as_token l).line r
  act_plain g.TryStmt (l ∷ u ∷ ss ∷ v ∷ cs ∷ []) h = λ n. together (findings_in t n (as_stmts ss)) (clauses_findings t n (as_clauses cs)) (stmts_in ss h.1.1.0.0 n) (clauses_in cs h.1.1.1.1.0.0 n)
  act_plain g.FunctionStmt (l ∷ name ∷ u ∷ ps ∷ v ∷ r ∷ w ∷ ss ∷ z ∷ []) h = λ n. (h.1.0.1, together (map (parameter t [] (as_token name).text) (as_params ps)) (findings_in t 0 (as_stmts ss)) (parameters_plain [] (as_token name).text (as_params ps)) (stmts_in ss h.1.1.1.1.1.1.1.0.0 0))
  act_plain g.AbstractClass (l ∷ u ∷ name ∷ p ∷ ns ∷ v ∷ ms ∷ w ∷ []) h = λ n. (tt {0}, members_in ms h.1.1.1.1.1.1.0.0 (as_token name).text h.1.1.0.1)
  act_plain g.FinalClass (l ∷ u ∷ name ∷ p ∷ ns ∷ v ∷ ms ∷ w ∷ []) h = λ n. (tt {0}, members_in ms h.1.1.1.1.1.1.0.0 (as_token name).text h.1.1.0.1)
  act_plain g.PlainClass (l ∷ name ∷ p ∷ ns ∷ v ∷ ms ∷ w ∷ []) h = λ n. (tt {0}, members_in ms h.1.1.1.1.1.0.0 (as_token name).text h.1.0.1)
  act_plain g.InterfaceStmt (l ∷ name ∷ ns ∷ v ∷ ms ∷ w ∷ []) h = λ n. (tt {0}, members_in ms h.1.1.1.1.0.0 (as_token name).text h.1.0.1)
  act_plain g.IfListed (l ∷ ss ∷ r ∷ []) h = ((stmts_in ss h.1.0.0, arms_plain r h.1.1.0.0), last_plain r h.1.1.0.0)
  act_plain g.IfSingle (x ∷ r ∷ []) h = ((one_plain (as_stmt x) (stmt_in x h.0.0), arms_plain r h.1.0.0), last_plain r h.1.0.0)
  act_plain g.ElseIf (l ∷ u ∷ e ∷ v ∷ x ∷ r ∷ []) h = ((nothing_plain, λ n. together (findings_in t n (one (as_stmt x))) (arms_findings t n (arms_in r)) (one_plain (as_stmt x) (stmt_in x h.1.1.1.1.0.0) n) (arms_plain r h.1.1.1.1.1.0.0 n)), last_plain r h.1.1.1.1.1.0.0)
  act_plain g.ElseSingle (l ∷ x ∷ []) h = ((nothing_plain, nothing_plain), one_plain (as_stmt x) (stmt_in x h.1.0.0))
  act_plain g.ElseIfListed (l ∷ u ∷ e ∷ v ∷ w ∷ ss ∷ r ∷ []) h = ((nothing_plain, λ n. together (findings_in t n (as_stmts ss)) (arms_findings t n (arms_in r)) (stmts_in ss h.1.1.1.1.1.0.0 n) (arms_plain r h.1.1.1.1.1.1.0.0 n)), last_plain r h.1.1.1.1.1.1.0.0)
  act_plain g.ElseListed (l ∷ u ∷ ss ∷ v ∷ w ∷ []) h = ((nothing_plain, nothing_plain), stmts_in ss h.1.1.0.0)
  act_plain g.EndIf (l ∷ u ∷ []) h = ((nothing_plain, nothing_plain), nothing_plain)
  act_plain g.WhileListed (l ∷ ss ∷ u ∷ v ∷ []) h = h.1.0.0
  act_plain g.ForListed (l ∷ ss ∷ u ∷ v ∷ []) h = h.1.0.0
  act_plain g.ForeachListed (l ∷ ss ∷ u ∷ v ∷ []) h = h.1.0.0
  act_plain g.BodySingle (x ∷ []) h = one_plain (as_stmt x) (stmt_in x h.0.0)
  act_plain g.SwitchBraced (l ∷ u ∷ arms ∷ v ∷ []) h = h.1.1.0.0
  act_plain g.SwitchListed (l ∷ u ∷ arms ∷ v ∷ w ∷ []) h = h.1.1.0.0
  act_plain g.CaseArm (l ∷ e ∷ u ∷ ss ∷ arms ∷ []) h = λ n. together (findings_in t n (as_stmts ss)) (cases_findings t n (as_cases arms)) (stmts_in ss h.1.1.1.0.0 n) (cases_in arms h.1.1.1.1.0.0 n)
  act_plain g.DefaultArm (l ∷ u ∷ ss ∷ arms ∷ []) h = λ n. together (findings_in t n (as_stmts ss)) (cases_findings t n (as_cases arms)) (stmts_in ss h.1.1.0.0 n) (cases_in arms h.1.1.1.0.0 n)
  act_plain g.StaticExpr (b ∷ l ∷ []) h = h.0.0
  act_plain g.ACatch (l ∷ u ∷ n ∷ ns ∷ v ∷ w ∷ z ∷ ss ∷ q ∷ cs ∷ []) h = λ m. together (findings_in t m (as_stmts ss)) (clauses_findings t m (as_clauses cs)) (stmts_in ss h.1.1.1.1.1.1.1.0.0 m) (clauses_in cs h.1.1.1.1.1.1.1.1.1.0.0 m)
  act_plain g.AResult (l ∷ r ∷ []) h = h.1.0.0
  act_plain g.APlainWord (l ∷ []) h = h.0.0
  act_plain g.AHintWord (l ∷ []) h = h.0.0
  act_plain (g.SomeMembers i) (m ∷ ms ∷ []) h = core_before_plain (core_in m) (mods_in m) (line_in m) (as_members ms) (core_plain m h.0.0) (members_in ms h.1.0.0)
  act_plain (g.FunctionMember i) (l ∷ name ∷ u ∷ ps ∷ v ∷ r ∷ b ∷ []) h = body_plain b h.1.1.1.1.1.1.0.0
  act_plain g.PlainVar (l ∷ []) h = h.0.0
  act_plain g.ThisVar (l ∷ []) h = h.0.0
  act_plain (g.VisibleMod a b c d i) (l ∷ m ∷ []) h = core_plain m h.1.0.0
  act_plain (g.StaticMod a b c d i) (l ∷ m ∷ []) h = core_plain m h.1.0.0
  act_plain (g.AbstractMod a b c d i) (l ∷ m ∷ []) h = core_plain m h.1.0.0
  act_plain (g.FinalMod a b c d i) (l ∷ m ∷ []) h = core_plain m h.1.0.0
  act_plain (g.VarMod a b c d i) (l ∷ m ∷ []) h = core_plain m h.1.0.0
  act_plain g.WithBody (l ∷ ss ∷ u ∷ []) h = stmts_in ss h.1.0.0
  act_plain (g.NamedWord i) (l ∷ []) h = h.0.0
  act_plain g.NoPrint (e ∷ []) h = h.0.0
  act_plain g.NoNot (e ∷ []) h = h.0.0
  act_plain g.NoUnary (e ∷ []) h = h.0.0
  act_plain g.ItemFull (e ∷ []) h = h.0.0
  act_plain g.ItemConst (e ∷ []) h = h.0.0
  act_plain g.CNoNot (e ∷ []) h = h.0.0
  act_plain g.CNoSign (e ∷ []) h = h.0.0
  act_plain (g.OpenIndex i j) (l ∷ r ∷ []) h = h.1.0.0
  act_plain (g.Arrow i j) (l ∷ r ∷ []) h = h.1.0.0
  act_plain (g.Colons i) (l ∷ r ∷ []) h = h.1.0.0
  act_plain g.PlaceArrow (l ∷ r ∷ []) h = h.1.0.0
  act_plain (g.NextItem i) (l ∷ r ∷ []) h = h.1.0.0
  act_plain g.CColons (l ∷ r ∷ []) h = h.1.0.0
  act_plain g.CArrayName (l ∷ r ∷ []) h = h.1.0.0
  act_plain (g.NoneOf a) [] h = none_plain a
  act_plain g.ASemi (v0 ∷ []) h = tt {0}
  act_plain g.ArmColon (v0 ∷ []) h = tt {0}
  act_plain g.ArmSemi (v0 ∷ []) h = tt {0}
  act_plain g.AnInt (v0 ∷ []) h = tt {0}
  act_plain g.AnExpr (v0 ∷ []) h = tt {0}
  act_plain g.KeyThenValue (v0 ∷ v1 ∷ []) h = tt {0}
  act_plain g.NextVar (v0 ∷ v1 ∷ v2 ∷ []) h = tt {0}
  act_plain g.StaticVars (v0 ∷ v1 ∷ v2 ∷ v3 ∷ []) h = tt {0}
  act_plain g.NextStatic (v0 ∷ v1 ∷ v2 ∷ v3 ∷ []) h = tt {0}
  act_plain g.ADefault (v0 ∷ v1 ∷ []) h = tt {0}
  act_plain g.NextConst (v0 ∷ v1 ∷ v2 ∷ v3 ∷ v4 ∷ []) h = tt {0}
  act_plain g.NextText (v0 ∷ v1 ∷ []) h = tt {0}
  act_plain g.NextCaught (v0 ∷ v1 ∷ v2 ∷ []) h = tt {0}
  act_plain g.SomeParams (v0 ∷ v1 ∷ []) h = tt {0}
  act_plain g.NextParam (v0 ∷ v1 ∷ v2 ∷ []) h = tt {0}
  act_plain g.AParam (v0 ∷ v1 ∷ v2 ∷ v3 ∷ []) h = tt {0}
  act_plain g.AnAmp (v0 ∷ []) h = tt {0}
  act_plain g.OpenHint (v0 ∷ v1 ∷ []) h = tt {0}
  act_plain g.HintWord (v0 ∷ []) h = tt {0}
  act_plain g.HintStatic (v0 ∷ []) h = tt {0}
  act_plain g.HintArray (v0 ∷ []) h = tt {0}
  act_plain g.PlainHintWord (v0 ∷ []) h = tt {0}
  act_plain g.PlainHintStatic (v0 ∷ []) h = tt {0}
  act_plain g.PlainHintArray (v0 ∷ []) h = tt {0}
  act_plain g.ClassWord (v0 ∷ []) h = tt {0}
  act_plain g.ClassHintWord (v0 ∷ []) h = tt {0}
  act_plain g.ClassStatic (v0 ∷ []) h = tt {0}
  act_plain g.ClassArray (v0 ∷ []) h = tt {0}
  act_plain g.ClassVar (v0 ∷ []) h = tt {0}
  act_plain g.ClassThis (v0 ∷ []) h = tt {0}
  act_plain g.AParent (v0 ∷ v1 ∷ []) h = tt {0}
  act_plain g.TheInterfaces (v0 ∷ v1 ∷ v2 ∷ []) h = tt {0}
  act_plain g.TheParents (v0 ∷ v1 ∷ v2 ∷ []) h = tt {0}
  act_plain g.NextName (v0 ∷ v1 ∷ v2 ∷ []) h = tt {0}
  act_plain g.ConstMember (v0 ∷ v1 ∷ v2 ∷ v3 ∷ v4 ∷ v5 ∷ []) h = tt {0}
  act_plain g.NextClassConst (v0 ∷ v1 ∷ v2 ∷ v3 ∷ v4 ∷ []) h = tt {0}
  act_plain g.PropertyMember (v0 ∷ v1 ∷ v2 ∷ v3 ∷ []) h = tt {0}
  act_plain g.ThisMember (v0 ∷ v1 ∷ v2 ∷ v3 ∷ []) h = tt {0}
  act_plain g.NextProperty (v0 ∷ v1 ∷ v2 ∷ v3 ∷ []) h = tt {0}
  act_plain g.WithoutBody (v0 ∷ []) h = tt {0}
  act_plain g.PrintExpr (v0 ∷ v1 ∷ []) h = tt {0}
  act_plain g.NotExpr (v0 ∷ v1 ∷ []) h = tt {0}
  act_plain g.SignExpr (v0 ∷ v1 ∷ []) h = tt {0}
  act_plain g.PrefixExpr (v0 ∷ v1 ∷ []) h = tt {0}
  act_plain g.StepBefore (v0 ∷ v1 ∷ []) h = tt {0}
  act_plain (g.IntPrim a) (v0 ∷ v1 ∷ []) h = tt {0}
  act_plain (g.TextPrim a) (v0 ∷ v1 ∷ []) h = tt {0}
  act_plain (g.QuotePrim a) (v0 ∷ v1 ∷ []) h = tt {0}
  act_plain (g.EmbeddingPrim a) (v0 ∷ v1 ∷ v2 ∷ v3 ∷ []) h = tt {0}
  act_plain g.QuoteNext (v0 ∷ v1 ∷ v2 ∷ []) h = tt {0}
  act_plain g.QuoteEnd (v0 ∷ []) h = tt {0}
  act_plain (g.VarPrim a) (v0 ∷ v1 ∷ []) h = tt {0}
  act_plain (g.ThisPrim a) (v0 ∷ v1 ∷ []) h = tt {0}
  act_plain (g.WordPrim a) (v0 ∷ v1 ∷ []) h = tt {0}
  act_plain (g.HintWordPrim a) (v0 ∷ v1 ∷ []) h = tt {0}
  act_plain (g.StaticPrim a) (v0 ∷ v1 ∷ v2 ∷ []) h = tt {0}
  act_plain (g.ArrayPrim a) (v0 ∷ v1 ∷ []) h = tt {0}
  act_plain (g.ArrayItems a) (v0 ∷ v1 ∷ v2 ∷ v3 ∷ []) h = tt {0}
  act_plain (g.ArrayName a) (v0 ∷ v1 ∷ []) h = tt {0}
  act_plain (g.BracketPrim a) (v0 ∷ v1 ∷ v2 ∷ v3 ∷ []) h = tt {0}
  act_plain (g.ParenPrim a) (v0 ∷ v1 ∷ v2 ∷ v3 ∷ []) h = tt {0}
  act_plain (g.IssetPrim a) (v0 ∷ v1 ∷ v2 ∷ v3 ∷ v4 ∷ v5 ∷ []) h = tt {0}
  act_plain (g.EmptyPrim a) (v0 ∷ v1 ∷ v2 ∷ v3 ∷ v4 ∷ []) h = tt {0}
  act_plain (g.ExitPrim a) (v0 ∷ v1 ∷ []) h = tt {0}
  act_plain (g.NewPrim a) (v0 ∷ v1 ∷ v2 ∷ []) h = tt {0}
  act_plain g.ClonePrim (v0 ∷ v1 ∷ []) h = tt {0}
  act_plain g.IncludePrim (v0 ∷ v1 ∷ []) h = tt {0}
  act_plain (g.StaticProperty a) (v0 ∷ v1 ∷ []) h = tt {0}
  act_plain (g.StaticPropertyThis a) (v0 ∷ v1 ∷ []) h = tt {0}
  act_plain (g.ClassForm a) (v0 ∷ v1 ∷ []) h = tt {0}
  act_plain (g.StaticMember a b) (v0 ∷ v1 ∷ []) h = tt {0}
  act_plain (g.CallArgs a) (v0 ∷ v1 ∷ v2 ∷ v3 ∷ []) h = tt {0}
  act_plain (g.ExitArgs a) (v0 ∷ v1 ∷ v2 ∷ v3 ∷ []) h = tt {0}
  act_plain g.AssignVar (v0 ∷ v1 ∷ []) h = tt {0}
  act_plain g.AssignPlace (v0 ∷ v1 ∷ []) h = tt {0}
  act_plain g.AssignOp (v0 ∷ v1 ∷ []) h = tt {0}
  act_plain g.StepAfter (v0 ∷ []) h = tt {0}
  act_plain g.Appended (v0 ∷ v1 ∷ []) h = tt {0}
  act_plain (g.AtIndexPlace a) (v0 ∷ v1 ∷ v2 ∷ []) h = tt {0}
  act_plain (g.AtIndexOther a) (v0 ∷ v1 ∷ v2 ∷ []) h = tt {0}
  act_plain g.OnlyAssign (v0 ∷ v1 ∷ []) h = tt {0}
  act_plain g.OnlyAssignOp (v0 ∷ v1 ∷ []) h = tt {0}
  act_plain g.Reference (v0 ∷ v1 ∷ []) h = tt {0}
  act_plain g.AValue (v0 ∷ []) h = tt {0}
  act_plain (g.PlaceMember a b) (v0 ∷ v1 ∷ []) h = tt {0}
  act_plain (g.OtherMember a b) (v0 ∷ v1 ∷ []) h = tt {0}
  act_plain g.SomeArgs (v0 ∷ v1 ∷ []) h = tt {0}
  act_plain g.NextArg (v0 ∷ v1 ∷ v2 ∷ []) h = tt {0}
  act_plain (g.SomeItems a) (v0 ∷ v1 ∷ v2 ∷ []) h = tt {0}
  act_plain (g.Paired a) (v0 ∷ v1 ∷ []) h = tt {0}
  act_plain g.NextPlace (v0 ∷ v1 ∷ v2 ∷ []) h = tt {0}
  act_plain g.VarPlace (v0 ∷ v1 ∷ []) h = tt {0}
  act_plain g.ThisPlace (v0 ∷ v1 ∷ []) h = tt {0}
  act_plain g.WordPlace (v0 ∷ v1 ∷ v2 ∷ []) h = tt {0}
  act_plain g.HintWordPlace (v0 ∷ v1 ∷ v2 ∷ []) h = tt {0}
  act_plain g.StaticNamedPlace (v0 ∷ v1 ∷ v2 ∷ []) h = tt {0}
  act_plain g.ArrayNamedPlace (v0 ∷ v1 ∷ v2 ∷ []) h = tt {0}
  act_plain g.ThisStepPlace (v0 ∷ v1 ∷ []) h = tt {0}
  act_plain g.VarStaticPlace (v0 ∷ v1 ∷ []) h = tt {0}
  act_plain g.ThisStaticPlace (v0 ∷ v1 ∷ []) h = tt {0}
  act_plain g.PlaceIndex (v0 ∷ v1 ∷ v2 ∷ v3 ∷ []) h = tt {0}
  act_plain (g.PlaceNamed a) (v0 ∷ v1 ∷ []) h = tt {0}
  act_plain g.CNotExpr (v0 ∷ v1 ∷ []) h = tt {0}
  act_plain g.CSignExpr (v0 ∷ v1 ∷ []) h = tt {0}
  act_plain g.CInt (v0 ∷ []) h = tt {0}
  act_plain g.CText (v0 ∷ []) h = tt {0}
  act_plain g.CWord (v0 ∷ v1 ∷ []) h = tt {0}
  act_plain g.CHintWord (v0 ∷ v1 ∷ []) h = tt {0}
  act_plain g.CStatic (v0 ∷ v1 ∷ v2 ∷ []) h = tt {0}
  act_plain g.CArray (v0 ∷ v1 ∷ []) h = tt {0}
  act_plain g.CBracket (v0 ∷ v1 ∷ v2 ∷ []) h = tt {0}
  act_plain g.CClassForm (v0 ∷ []) h = tt {0}
  act_plain (g.CNamed a) (v0 ∷ []) h = tt {0}
  act_plain g.CArrayItems (v0 ∷ v1 ∷ v2 ∷ []) h = tt {0}
  act_plain g.BegunStatic (v0 ∷ v1 ∷ []) h = tt {0}
  act_plain g.Ternary (v0 ∷ v1 ∷ v2 ∷ []) h = tt {0}
  act_plain g.CTernary (v0 ∷ v1 ∷ v2 ∷ []) h = tt {0}
  act_plain g.ShortChoice (v0 ∷ v1 ∷ []) h = tt {0}
  act_plain g.FullChoice (v0 ∷ v1 ∷ v2 ∷ []) h = tt {0}
  act_plain g.CShortChoice (v0 ∷ v1 ∷ []) h = tt {0}
  act_plain g.CFullChoice (v0 ∷ v1 ∷ v2 ∷ []) h = tt {0}
  act_plain g.Coalesced (v0 ∷ v1 ∷ []) h = tt {0}
  act_plain g.EqualityStep (v0 ∷ v1 ∷ []) h = tt {0}
  act_plain g.OrderStep (v0 ∷ v1 ∷ []) h = tt {0}
  act_plain g.InstanceStep (v0 ∷ v1 ∷ []) h = tt {0}
  act_plain g.OrStep (v0 ∷ v1 ∷ v2 ∷ []) h = tt {0}
  act_plain g.XorStep (v0 ∷ v1 ∷ v2 ∷ []) h = tt {0}
  act_plain g.AndStep (v0 ∷ v1 ∷ v2 ∷ []) h = tt {0}
  act_plain g.EitherStep (v0 ∷ v1 ∷ v2 ∷ []) h = tt {0}
  act_plain g.BothStep (v0 ∷ v1 ∷ v2 ∷ []) h = tt {0}
  act_plain g.SignStep (v0 ∷ v1 ∷ v2 ∷ []) h = tt {0}
  act_plain g.DotStep (v0 ∷ v1 ∷ v2 ∷ []) h = tt {0}
  act_plain g.ProductStep (v0 ∷ v1 ∷ v2 ∷ []) h = tt {0}
  act_plain g.CSignStep (v0 ∷ v1 ∷ v2 ∷ []) h = tt {0}
  act_plain g.CDotStep (v0 ∷ v1 ∷ v2 ∷ []) h = tt {0}
  act_plain g.CProductStep (v0 ∷ v1 ∷ v2 ∷ []) h = tt {0}
  act_plain r vs h = tt {0}

  link_plain : (v w : Value) → Plain (link v w)
  link_plain (expr_of e) w = tt {0}
  link_plain (begun_of r js) w = tt {0}
  link_plain v w = tt {0}

  -- ---- names

  abbrev IsWordRule : Option Rule → Type 0
  IsWordRule (Some g.APlainWord) = ⊤
  IsWordRule (Some g.AHintWord) = ⊤
  IsWordRule (Some r) = ⊥
  IsWordRule None = ⊤

  word_chosen : (kind : Kind) → IsWordRule (choose p.PlainWord kind)
  unfolding choose
  word_chosen k.Word = tt {0}
  word_chosen k.HintWord = tt {0}
  word_chosen kind = tt {0}

  word_by : (r : Rule) (vs : List Value) → IsWordRule (Some r) → SeqPlain (production r) vs → has_colon (as_token (act r vs)).text ≡ false
  unfolding act production
  word_by g.APlainWord [] i h = refl
  word_by g.APlainWord (l ∷ []) i h = h.0.1
  word_by g.APlainWord (l ∷ u ∷ vs) i h = refl
  word_by g.AHintWord [] i h = refl
  word_by g.AHintWord (l ∷ []) i h = h.0.1
  word_by g.AHintWord (l ∷ u ∷ vs) i h = refl
  word_by r vs i h = absurd i

  if_word : (a : Part) (kind : Kind) (r : Rule) (vs : List Value) → choose a kind ≡ Some r → SeqPlain (production r) vs → IfWord a (act r vs)
  if_word p.PlainWord kind r vs c h = word_by r vs (subst IsWordRule c (word_chosen kind)) h
  if_word a kind r vs c h = tt {0}

  abbrev NoOperand : Option Part → Type 0
  NoOperand None = ⊤
  NoOperand (Some b) = ⊥

  no_operand : NoOperand (operand p.PlainWord)
  unfolding operand
  no_operand = tt {0}

  no_word : (a b : Part) (v : Value) → operand a ≡ Some b → IfWord a v
  no_word p.PlainWord b v o = absurd (subst NoOperand o no_operand)
  no_word a b v o = tt {0}

  -- ---- all that is read

  pub reads_plain : {d m : ℕ} {goal : Goal} {vs : List Value} {ts rest : List Lexeme} → Reads d m goal vs ts rest → LexemesPlain ts → GoalPlain goal vs × LexemesPlain rest
  reads_plain done h = (tt {0}, h)
  reads_plain (token {t = l} {kind = kind} e ok r) h = let more = reads_plain r h.1 in (((tt {0}, subst (λ c. PlainBy c l.text) e h.0), more.0), more.1)
  reads_plain (part r more) h = let first = reads_plain r h in let others = reads_plain more first.1 in ((first.0, others.0), others.1)
  reads_plain (rule {a = a} {r = r} {vs = vs} {ts = ts} c reads) h = let inside = reads_plain reads h in ((act_plain r vs inside.0, if_word a (peek ts) r vs c inside.0), inside.1)
  reads_plain (alone {a = a} {b = b} {v = v} o r e) h = let inside = reads_plain r h in ((inside.0.0, no_word a b v o), inside.1)
  reads_plain (chain {a = a} {b = b} {v = v} {w = w} o r e more) h =
      let first = reads_plain r h in let others = reads_plain more first.1 in ((link_plain v w, no_word a b (link v w) o), others.1)
