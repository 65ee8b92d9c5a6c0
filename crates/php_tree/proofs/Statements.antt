-- What each variant of a statement stands for, as equations that proofs may cite. The first part says that the elements
-- of a list may be seen as plain data one at a time.
use Rattle.std.proofs.Common.{◌≡◌, ℕ, ℤ, List, [], ◌∷◌, Option, refl, ap, sym, ◌∙◌, map}
use Rattle.php_tree.specs.declared.name.ClassName.{ClassName}
use Rattle.php_tree.specs.declared.expr.Expr.{Expr}
use Rattle.php_tree.specs.declared.decl.Signature.{Signature}
use Rattle.php_tree.specs.declared.decl.Modifiers.{Modifiers}
use Rattle.php_tree.specs.declared.decl.PropertyDecl.{PropertyDecl}
use Rattle.php_tree.specs.declared.decl.ClassConst.{ClassConst}
use Rattle.php_tree.specs.declared.stmt.StaticVar.{StaticVar}
use Rattle.php_tree.specs.declared.stmt.ConstDecl.{ConstDecl}
use Rattle.php_tree.specs.declared.stmt.Stmt.{Stmt, fold-roll-Stmt}
use Rattle.php_tree.specs.declared.stmt.Stmt.TheVariants as x
use Rattle.php_tree.specs.declared.stmt.IfArm.{IfArm, fold-roll-IfArm}
use Rattle.php_tree.specs.declared.stmt.IfArm.TheVariants as a
use Rattle.php_tree.specs.declared.stmt.SwitchArm.{SwitchArm, fold-roll-SwitchArm}
use Rattle.php_tree.specs.declared.stmt.SwitchArm.TheVariants as w
use Rattle.php_tree.specs.declared.stmt.Catch.{Catch, fold-roll-Catch}
use Rattle.php_tree.specs.declared.stmt.Catch.TheVariants as c
use Rattle.php_tree.specs.declared.decl.Member.{fold-roll-Member}
use Rattle.php_tree.specs.declared.decl.Member.TheVariants as m
use Rattle.php_tree.specs.declared.decl.FunDecl.{FunDecl, fold_out-FunDecl, out-FunDecl}
use Rattle.php_tree.specs.declared.decl.ClassDecl.{ClassDecl, fold_out-ClassDecl, out-ClassDecl}
use Rattle.php_tree.specs.ExpressionOf.{expression_of, expressions_of, expression_or_none}
use Rattle.php_tree.specs.Statements.{Statement, inline, echo, evaluate, nothing, block, conditional, while_loop, do_loop, for_loop, foreach, switch, break, continue, return, global, static_vars, unset, throw, try, function, class, constants, removed, statement, Arms, no_arms, arm, Cases, no_cases, case, default_case, Clauses, no_clauses, clause, Function, with_body, Class, with_members, Members, no_members, class_constants, properties, method, bodiless}
use Rattle.php_tree.specs.StatementOf.{parameter_of, head_of, static_of, constant_of, class_constant_of, property_of, in_front, map_statements, Onto, member_step, catch_step, arm_step, statement_step, case_step, class_step, function_step, member_of, catch_of, arm_of, case_of, class_of, function_of, statement_of, statements_of, arms_of, cases_of, clauses_of, members_of}

-- ---- a list may be seen element by element, or after its elements

seen_statements : (f : Stmt → Statement ℕ) (ss : List Stmt) → map_statements (λ s. s) (map f ss) ≡ map_statements f ss
seen_statements f [] = refl
seen_statements f (s ∷ ss) = ap (statement (f s)) (seen_statements f ss)

seen_in_front : {A L : Type 0} → (f : A → L → L) (end : L) (es : List A) → in_front (λ e. e) end (map f es) ≡ in_front f end es
seen_in_front f end [] = refl
seen_in_front f end (e ∷ es) = ap (f e) (seen_in_front f end es)

-- ---- the variants

pub statement_of-Inline : (t : List ℕ) (l : ℕ) → statement_of (x.Inline t l) ≡ inline t l
statement_of-Inline t l = ap statement_of (sym (x.rolls-Inline t l)) ∙ fold-roll-Stmt (Onto (Members ℕ)) (Onto (Clauses ℕ)) (Onto (Arms ℕ)) (Statement ℕ) (Onto (Cases ℕ)) (Class ℕ) (Function ℕ) member_step catch_step arm_step statement_step case_step class_step function_step _

pub statement_of-Echo : (es : List Expr) (l : ℕ) → statement_of (x.Echo es l) ≡ echo (expressions_of es) l
statement_of-Echo es l = ap statement_of (sym (x.rolls-Echo es l)) ∙ fold-roll-Stmt (Onto (Members ℕ)) (Onto (Clauses ℕ)) (Onto (Arms ℕ)) (Statement ℕ) (Onto (Cases ℕ)) (Class ℕ) (Function ℕ) member_step catch_step arm_step statement_step case_step class_step function_step _

pub statement_of-Expr : (e : Expr) (l : ℕ) → statement_of (x.Expr e l) ≡ evaluate (expression_of e) l
statement_of-Expr e l = ap statement_of (sym (x.rolls-Expr e l)) ∙ fold-roll-Stmt (Onto (Members ℕ)) (Onto (Clauses ℕ)) (Onto (Arms ℕ)) (Statement ℕ) (Onto (Cases ℕ)) (Class ℕ) (Function ℕ) member_step catch_step arm_step statement_step case_step class_step function_step _

pub statement_of-Empty : (l : ℕ) → statement_of (x.Empty l) ≡ nothing l
statement_of-Empty l = ap statement_of (sym (x.rolls-Empty l)) ∙ fold-roll-Stmt (Onto (Members ℕ)) (Onto (Clauses ℕ)) (Onto (Arms ℕ)) (Statement ℕ) (Onto (Cases ℕ)) (Class ℕ) (Function ℕ) member_step catch_step arm_step statement_step case_step class_step function_step _

pub statement_of-Block : (ss : List Stmt) (l : ℕ) → statement_of (x.Block ss l) ≡ block (statements_of ss) l
statement_of-Block ss l = ap statement_of (sym (x.rolls-Block ss l)) ∙ fold-roll-Stmt (Onto (Members ℕ)) (Onto (Clauses ℕ)) (Onto (Arms ℕ)) (Statement ℕ) (Onto (Cases ℕ)) (Class ℕ) (Function ℕ) member_step catch_step arm_step statement_step case_step class_step function_step _ ∙ ap (λ h. block h l) (seen_statements statement_of ss)

pub statement_of-If : (arms : List IfArm) (ss : List Stmt) (l : ℕ) → statement_of (x.If arms ss l) ≡ conditional (arms_of arms) (statements_of ss) l
statement_of-If arms ss l = ap statement_of (sym (x.rolls-If arms ss l)) ∙ fold-roll-Stmt (Onto (Members ℕ)) (Onto (Clauses ℕ)) (Onto (Arms ℕ)) (Statement ℕ) (Onto (Cases ℕ)) (Class ℕ) (Function ℕ) member_step catch_step arm_step statement_step case_step class_step function_step _ ∙ ap (λ h. conditional h (map_statements (λ s. s) (map statement_of ss)) l) (seen_in_front arm_of no_arms arms) ∙ ap (λ h. conditional (arms_of arms) h l) (seen_statements statement_of ss)

pub statement_of-While : (e : Expr) (ss : List Stmt) (l : ℕ) → statement_of (x.While e ss l) ≡ while_loop (expression_of e) (statements_of ss) l
statement_of-While e ss l = ap statement_of (sym (x.rolls-While e ss l)) ∙ fold-roll-Stmt (Onto (Members ℕ)) (Onto (Clauses ℕ)) (Onto (Arms ℕ)) (Statement ℕ) (Onto (Cases ℕ)) (Class ℕ) (Function ℕ) member_step catch_step arm_step statement_step case_step class_step function_step _ ∙ ap (λ h. while_loop (expression_of e) h l) (seen_statements statement_of ss)

pub statement_of-Do : (ss : List Stmt) (e : Expr) (l : ℕ) → statement_of (x.Do ss e l) ≡ do_loop (statements_of ss) (expression_of e) l
statement_of-Do ss e l = ap statement_of (sym (x.rolls-Do ss e l)) ∙ fold-roll-Stmt (Onto (Members ℕ)) (Onto (Clauses ℕ)) (Onto (Arms ℕ)) (Statement ℕ) (Onto (Cases ℕ)) (Class ℕ) (Function ℕ) member_step catch_step arm_step statement_step case_step class_step function_step _ ∙ ap (λ h. do_loop h (expression_of e) l) (seen_statements statement_of ss)

pub statement_of-For : (a : List Expr) (b : List Expr) (c : List Expr) (ss : List Stmt) (l : ℕ) → statement_of (x.For a b c ss l) ≡ for_loop (expressions_of a) (expressions_of b) (expressions_of c) (statements_of ss) l
statement_of-For a b c ss l = ap statement_of (sym (x.rolls-For a b c ss l)) ∙ fold-roll-Stmt (Onto (Members ℕ)) (Onto (Clauses ℕ)) (Onto (Arms ℕ)) (Statement ℕ) (Onto (Cases ℕ)) (Class ℕ) (Function ℕ) member_step catch_step arm_step statement_step case_step class_step function_step _ ∙ ap (λ h. for_loop (expressions_of a) (expressions_of b) (expressions_of c) h l) (seen_statements statement_of ss)

pub statement_of-Foreach : (e : Expr) (k : Option ℕ) (v : ℕ) (ss : List Stmt) (l : ℕ) → statement_of (x.Foreach e k v ss l) ≡ foreach (expression_of e) k v (statements_of ss) l
statement_of-Foreach e k v ss l = ap statement_of (sym (x.rolls-Foreach e k v ss l)) ∙ fold-roll-Stmt (Onto (Members ℕ)) (Onto (Clauses ℕ)) (Onto (Arms ℕ)) (Statement ℕ) (Onto (Cases ℕ)) (Class ℕ) (Function ℕ) member_step catch_step arm_step statement_step case_step class_step function_step _ ∙ ap (λ h. foreach (expression_of e) k v h l) (seen_statements statement_of ss)

pub statement_of-Switch : (e : Expr) (arms : List SwitchArm) (l : ℕ) → statement_of (x.Switch e arms l) ≡ switch (expression_of e) (cases_of arms) l
statement_of-Switch e arms l = ap statement_of (sym (x.rolls-Switch e arms l)) ∙ fold-roll-Stmt (Onto (Members ℕ)) (Onto (Clauses ℕ)) (Onto (Arms ℕ)) (Statement ℕ) (Onto (Cases ℕ)) (Class ℕ) (Function ℕ) member_step catch_step arm_step statement_step case_step class_step function_step _ ∙ ap (λ h. switch (expression_of e) h l) (seen_in_front case_of no_cases arms)

pub statement_of-Break : (n : ℤ) (l : ℕ) → statement_of (x.Break n l) ≡ break n l
statement_of-Break n l = ap statement_of (sym (x.rolls-Break n l)) ∙ fold-roll-Stmt (Onto (Members ℕ)) (Onto (Clauses ℕ)) (Onto (Arms ℕ)) (Statement ℕ) (Onto (Cases ℕ)) (Class ℕ) (Function ℕ) member_step catch_step arm_step statement_step case_step class_step function_step _

pub statement_of-Continue : (n : ℤ) (l : ℕ) → statement_of (x.Continue n l) ≡ continue n l
statement_of-Continue n l = ap statement_of (sym (x.rolls-Continue n l)) ∙ fold-roll-Stmt (Onto (Members ℕ)) (Onto (Clauses ℕ)) (Onto (Arms ℕ)) (Statement ℕ) (Onto (Cases ℕ)) (Class ℕ) (Function ℕ) member_step catch_step arm_step statement_step case_step class_step function_step _

pub statement_of-Return : (e : Option Expr) (l : ℕ) → statement_of (x.Return e l) ≡ return (expression_or_none e) l
statement_of-Return e l = ap statement_of (sym (x.rolls-Return e l)) ∙ fold-roll-Stmt (Onto (Members ℕ)) (Onto (Clauses ℕ)) (Onto (Arms ℕ)) (Statement ℕ) (Onto (Cases ℕ)) (Class ℕ) (Function ℕ) member_step catch_step arm_step statement_step case_step class_step function_step _

pub statement_of-Global : (vs : List ℕ) (l : ℕ) → statement_of (x.Global vs l) ≡ global vs l
statement_of-Global vs l = ap statement_of (sym (x.rolls-Global vs l)) ∙ fold-roll-Stmt (Onto (Members ℕ)) (Onto (Clauses ℕ)) (Onto (Arms ℕ)) (Statement ℕ) (Onto (Cases ℕ)) (Class ℕ) (Function ℕ) member_step catch_step arm_step statement_step case_step class_step function_step _

pub statement_of-Static : (vs : List StaticVar) (l : ℕ) → statement_of (x.Static vs l) ≡ static_vars (map static_of vs) l
statement_of-Static vs l = ap statement_of (sym (x.rolls-Static vs l)) ∙ fold-roll-Stmt (Onto (Members ℕ)) (Onto (Clauses ℕ)) (Onto (Arms ℕ)) (Statement ℕ) (Onto (Cases ℕ)) (Class ℕ) (Function ℕ) member_step catch_step arm_step statement_step case_step class_step function_step _

pub statement_of-Unset : (es : List Expr) (l : ℕ) → statement_of (x.Unset es l) ≡ unset (expressions_of es) l
statement_of-Unset es l = ap statement_of (sym (x.rolls-Unset es l)) ∙ fold-roll-Stmt (Onto (Members ℕ)) (Onto (Clauses ℕ)) (Onto (Arms ℕ)) (Statement ℕ) (Onto (Cases ℕ)) (Class ℕ) (Function ℕ) member_step catch_step arm_step statement_step case_step class_step function_step _

pub statement_of-Throw : (e : Expr) (l : ℕ) → statement_of (x.Throw e l) ≡ throw (expression_of e) l
statement_of-Throw e l = ap statement_of (sym (x.rolls-Throw e l)) ∙ fold-roll-Stmt (Onto (Members ℕ)) (Onto (Clauses ℕ)) (Onto (Arms ℕ)) (Statement ℕ) (Onto (Cases ℕ)) (Class ℕ) (Function ℕ) member_step catch_step arm_step statement_step case_step class_step function_step _

pub statement_of-Try : (ss : List Stmt) (cs : List Catch) (l : ℕ) → statement_of (x.Try ss cs l) ≡ try (statements_of ss) (clauses_of cs) l
statement_of-Try ss cs l = ap statement_of (sym (x.rolls-Try ss cs l)) ∙ fold-roll-Stmt (Onto (Members ℕ)) (Onto (Clauses ℕ)) (Onto (Arms ℕ)) (Statement ℕ) (Onto (Cases ℕ)) (Class ℕ) (Function ℕ) member_step catch_step arm_step statement_step case_step class_step function_step _ ∙ ap (λ h. try h (in_front (λ e. e) no_clauses (map catch_of cs)) l) (seen_statements statement_of ss) ∙ ap (λ h. try (statements_of ss) h l) (seen_in_front catch_of no_clauses cs)

pub statement_of-Function : (f : FunDecl) (l : ℕ) → statement_of (x.Function f l) ≡ function (function_of f) l
statement_of-Function f l = ap statement_of (sym (x.rolls-Function f l)) ∙ fold-roll-Stmt (Onto (Members ℕ)) (Onto (Clauses ℕ)) (Onto (Arms ℕ)) (Statement ℕ) (Onto (Cases ℕ)) (Class ℕ) (Function ℕ) member_step catch_step arm_step statement_step case_step class_step function_step _

pub statement_of-Class : (c : ClassDecl) (l : ℕ) → statement_of (x.Class c l) ≡ class (class_of c) l
statement_of-Class c l = ap statement_of (sym (x.rolls-Class c l)) ∙ fold-roll-Stmt (Onto (Members ℕ)) (Onto (Clauses ℕ)) (Onto (Arms ℕ)) (Statement ℕ) (Onto (Cases ℕ)) (Class ℕ) (Function ℕ) member_step catch_step arm_step statement_step case_step class_step function_step _

pub statement_of-Const : (cs : List ConstDecl) (l : ℕ) → statement_of (x.Const cs l) ≡ constants (map constant_of cs) l
statement_of-Const cs l = ap statement_of (sym (x.rolls-Const cs l)) ∙ fold-roll-Stmt (Onto (Members ℕ)) (Onto (Clauses ℕ)) (Onto (Arms ℕ)) (Statement ℕ) (Onto (Cases ℕ)) (Class ℕ) (Function ℕ) member_step catch_step arm_step statement_step case_step class_step function_step _

pub statement_of-Removed : (kind : List ℕ) (path : List ℕ) (name : Option (List ℕ)) (l : ℕ) → statement_of (x.Removed kind path name l) ≡ removed kind path name l
statement_of-Removed kind path name l = ap statement_of (sym (x.rolls-Removed kind path name l)) ∙ fold-roll-Stmt (Onto (Members ℕ)) (Onto (Clauses ℕ)) (Onto (Arms ℕ)) (Statement ℕ) (Onto (Cases ℕ)) (Class ℕ) (Function ℕ) member_step catch_step arm_step statement_step case_step class_step function_step _

pub member_of-Constants : (cs : List ClassConst) (l : ℕ) → member_of (m.Constants cs l) ≡ class_constants (map class_constant_of cs) l
member_of-Constants cs l = ap member_of (sym (m.rolls-Constants cs l)) ∙ fold-roll-Member (Onto (Members ℕ)) (Onto (Clauses ℕ)) (Onto (Arms ℕ)) (Statement ℕ) (Onto (Cases ℕ)) (Class ℕ) (Function ℕ) member_step catch_step arm_step statement_step case_step class_step function_step _

pub member_of-Properties : (mods : Modifiers) (ps : List PropertyDecl) (l : ℕ) → member_of (m.Properties mods ps l) ≡ properties mods (map property_of ps) l
member_of-Properties mods ps l = ap member_of (sym (m.rolls-Properties mods ps l)) ∙ fold-roll-Member (Onto (Members ℕ)) (Onto (Clauses ℕ)) (Onto (Arms ℕ)) (Statement ℕ) (Onto (Cases ℕ)) (Class ℕ) (Function ℕ) member_step catch_step arm_step statement_step case_step class_step function_step _

pub member_of-Method : (mods : Modifiers) (f : FunDecl) (l : ℕ) → member_of (m.Method mods f l) ≡ method mods (function_of f) l
member_of-Method mods f l = ap member_of (sym (m.rolls-Method mods f l)) ∙ fold-roll-Member (Onto (Members ℕ)) (Onto (Clauses ℕ)) (Onto (Arms ℕ)) (Statement ℕ) (Onto (Cases ℕ)) (Class ℕ) (Function ℕ) member_step catch_step arm_step statement_step case_step class_step function_step _

pub member_of-Bodiless : (mods : Modifiers) (s : Signature) (l : ℕ) → member_of (m.Bodiless mods s l) ≡ bodiless mods (head_of s) l
member_of-Bodiless mods s l = ap member_of (sym (m.rolls-Bodiless mods s l)) ∙ fold-roll-Member (Onto (Members ℕ)) (Onto (Clauses ℕ)) (Onto (Arms ℕ)) (Statement ℕ) (Onto (Cases ℕ)) (Class ℕ) (Function ℕ) member_step catch_step arm_step statement_step case_step class_step function_step _

pub arm_of-Arm : (e : Expr) (ss : List Stmt) → arm_of (a.Arm e ss) ≡ arm (expression_of e) (statements_of ss)
arm_of-Arm e ss = ap arm_of (sym (a.rolls-Arm e ss)) ∙ fold-roll-IfArm (Onto (Members ℕ)) (Onto (Clauses ℕ)) (Onto (Arms ℕ)) (Statement ℕ) (Onto (Cases ℕ)) (Class ℕ) (Function ℕ) member_step catch_step arm_step statement_step case_step class_step function_step _ ∙ ap (λ h. arm (expression_of e) h) (seen_statements statement_of ss)

pub case_of-Case : (e : Expr) (ss : List Stmt) → case_of (w.Case e ss) ≡ case (expression_of e) (statements_of ss)
case_of-Case e ss = ap case_of (sym (w.rolls-Case e ss)) ∙ fold-roll-SwitchArm (Onto (Members ℕ)) (Onto (Clauses ℕ)) (Onto (Arms ℕ)) (Statement ℕ) (Onto (Cases ℕ)) (Class ℕ) (Function ℕ) member_step catch_step arm_step statement_step case_step class_step function_step _ ∙ ap (λ h. case (expression_of e) h) (seen_statements statement_of ss)

pub case_of-Default : (ss : List Stmt) → case_of (w.Default ss) ≡ default_case (statements_of ss)
case_of-Default ss = ap case_of (sym (w.rolls-Default ss)) ∙ fold-roll-SwitchArm (Onto (Members ℕ)) (Onto (Clauses ℕ)) (Onto (Arms ℕ)) (Statement ℕ) (Onto (Cases ℕ)) (Class ℕ) (Function ℕ) member_step catch_step arm_step statement_step case_step class_step function_step _ ∙ ap (λ h. default_case h) (seen_statements statement_of ss)

pub catch_of-Clause : (names : List ClassName) (v : ℕ) (ss : List Stmt) → catch_of (c.Clause names v ss) ≡ clause names v (statements_of ss)
catch_of-Clause names v ss = ap catch_of (sym (c.rolls-Clause names v ss)) ∙ fold-roll-Catch (Onto (Members ℕ)) (Onto (Clauses ℕ)) (Onto (Arms ℕ)) (Statement ℕ) (Onto (Cases ℕ)) (Class ℕ) (Function ℕ) member_step catch_step arm_step statement_step case_step class_step function_step _ ∙ ap (λ h. clause names v h) (seen_statements statement_of ss)

-- a function, by the fields of its declaration
pub function_of-out : (f : FunDecl) → function_of f ≡ with_body (record { name = (out-FunDecl f).name; parameters = map parameter_of (out-FunDecl f).params; gives = (out-FunDecl f).«result»; line = (out-FunDecl f).line }) (statements_of (out-FunDecl f).body) (out-FunDecl f).body_span
function_of-out f = fold_out-FunDecl (Onto (Members ℕ)) (Onto (Clauses ℕ)) (Onto (Arms ℕ)) (Statement ℕ) (Onto (Cases ℕ)) (Class ℕ) (Function ℕ) member_step catch_step arm_step statement_step case_step class_step function_step f ∙ ap (λ h. with_body (record { name = (out-FunDecl f).name; parameters = map parameter_of (out-FunDecl f).params; gives = (out-FunDecl f).«result»; line = (out-FunDecl f).line }) h (out-FunDecl f).body_span) (seen_statements statement_of (out-FunDecl f).body)

-- a class, by the fields of its declaration
pub class_of-out : (c : ClassDecl) → class_of c ≡ with_members (out-ClassDecl c).kind (out-ClassDecl c).name (out-ClassDecl c).parent (out-ClassDecl c).interfaces (members_of (out-ClassDecl c).members) (out-ClassDecl c).line
class_of-out c = fold_out-ClassDecl (Onto (Members ℕ)) (Onto (Clauses ℕ)) (Onto (Arms ℕ)) (Statement ℕ) (Onto (Cases ℕ)) (Class ℕ) (Function ℕ) member_step catch_step arm_step statement_step case_step class_step function_step c ∙ ap (λ h. with_members (out-ClassDecl c).kind (out-ClassDecl c).name (out-ClassDecl c).parent (out-ClassDecl c).interfaces h (out-ClassDecl c).line) (seen_in_front member_of no_members (out-ClassDecl c).members)

-- all of them
pub ruleset statements = (statement_of-Inline, statement_of-Echo, statement_of-Expr, statement_of-Empty, statement_of-Block, statement_of-If, statement_of-While, statement_of-Do, statement_of-For, statement_of-Foreach, statement_of-Switch, statement_of-Break, statement_of-Continue, statement_of-Return, statement_of-Global, statement_of-Static, statement_of-Unset, statement_of-Throw, statement_of-Try, statement_of-Function, statement_of-Class, statement_of-Const, statement_of-Removed, member_of-Constants, member_of-Properties, member_of-Method, member_of-Bodiless, arm_of-Arm, case_of-Case, case_of-Default, catch_of-Clause, function_of-out, class_of-out)
