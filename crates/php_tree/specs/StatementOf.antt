-- What plain data a statement of the code stands for.
use Rattle.std.specs.Prelude.{ℕ, List, [], ◌∷◌, Option, map}
use Rattle.php_tree.specs.declared.name.ConstName.{ConstName}
use Rattle.php_tree.specs.declared.name.MemberName.{MemberName}
use Rattle.php_tree.specs.declared.stmt.StaticVar.{StaticVar}
use Rattle.php_tree.specs.declared.stmt.ConstDecl.{ConstDecl}
use Rattle.php_tree.specs.declared.decl.Param.{Param}
use Rattle.php_tree.specs.declared.decl.Signature.{Signature}
use Rattle.php_tree.specs.declared.decl.PropertyDecl.{PropertyDecl}
use Rattle.php_tree.specs.declared.decl.ClassConst.{ClassConst}
use Rattle.php_tree.specs.declared.stmt.Stmt.{Stmt, fold-Stmt}
use Rattle.php_tree.specs.declared.stmt.IfArm.{IfArm, fold-IfArm}
use Rattle.php_tree.specs.declared.stmt.SwitchArm.{SwitchArm, fold-SwitchArm}
use Rattle.php_tree.specs.declared.stmt.Catch.{Catch, fold-Catch}
use Rattle.php_tree.specs.declared.decl.Member.{Member, fold-Member}
use Rattle.php_tree.specs.declared.decl.FunDecl.{FunDecl, fold-FunDecl}
use Rattle.php_tree.specs.declared.decl.ClassDecl.{ClassDecl, fold-ClassDecl}
use Rattle.php_tree.specs.declared.decl.Member.TheOpen.{Stmt-F, IfArm-F, SwitchArm-F, Catch-F, Member-F, FunDecl-F, ClassDecl-F}
use Rattle.php_tree.specs.Expressions.{Expression}
use Rattle.php_tree.specs.ExpressionOf.{expression_of, expressions_of, expression_or_none}
use Rattle.php_tree.specs.Statements.{Parameter, Head, Statement, inline, echo, evaluate, nothing, block, conditional, while_loop, do_loop, for_loop, foreach, switch, break, continue, return, global, static_vars, unset, throw, try, function, class, constants, removed, Statements, no_more, statement, Arms, no_arms, arm, Cases, no_cases, case, default_case, Clauses, no_clauses, clause, Function, with_body, Class, with_members, Members, no_members, class_constants, properties, method, bodiless}

-- ---- what holds no statement

abbrev pub parameter_of : Param → Parameter ℕ
parameter_of p = record { hint = p.hint; by_reference = p.by_reference; variable = p.variable; default = expression_or_none p.default; line = p.line }

abbrev pub head_of : Signature → Head ℕ
head_of s = record { name = s.name; parameters = map parameter_of s.params; gives = s.«result»; line = s.line }

abbrev pub static_of : StaticVar → ℕ × Option (Expression ℕ)
static_of s = (s.variable, expression_or_none s.default)

abbrev pub constant_of : ConstDecl → ConstName × Expression ℕ
constant_of c = (c.name, expression_of c.value)

abbrev pub class_constant_of : ClassConst → MemberName × Expression ℕ
class_constant_of c = (c.name, expression_of c.value)

abbrev pub property_of : PropertyDecl → MemberName × Option (Expression ℕ)
property_of p = (p.name, expression_or_none p.default)

-- ---- lists

-- each element put in front of what the ones after it make
abbrev pub in_front : {A L : Type 0} → (A → L → L) → L → List A → L
in_front f end [] = end
in_front f end (a ∷ rest) = f a (in_front f end rest)

abbrev pub map_statements : {A : Type 0} → (A → Statement ℕ) → List A → Statements ℕ
map_statements f [] = no_more
map_statements f (a ∷ rest) = statement (f a) (map_statements f rest)

-- ---- one layer of each type, whose children are plain data already; an arm, a clause or a member puts itself in front

abbrev pub Onto : Type 0 → Type 0
Onto L = L → L

abbrev same : {A : Type 0} → A → A
same a = a

abbrev statements_in : List (Statement ℕ) → Statements ℕ
statements_in = map_statements same

abbrev pub member_step : Member-F (Onto (Members ℕ)) (Onto (Clauses ℕ)) (Onto (Arms ℕ)) (Statement ℕ) (Onto (Cases ℕ)) (Class ℕ) (Function ℕ) → Onto (Members ℕ)
member_step (Member-F.Constants cs l) = class_constants (map class_constant_of cs) l
member_step (Member-F.Properties mods ps l) = properties mods (map property_of ps) l
member_step (Member-F.Method mods f l) = method mods f l
member_step (Member-F.Bodiless mods s l) = bodiless mods (head_of s) l

abbrev pub catch_step : Catch-F (Onto (Members ℕ)) (Onto (Clauses ℕ)) (Onto (Arms ℕ)) (Statement ℕ) (Onto (Cases ℕ)) (Class ℕ) (Function ℕ) → Onto (Clauses ℕ)
catch_step (Catch-F.Clause names v ss) = clause names v (statements_in ss)

abbrev pub arm_step : IfArm-F (Onto (Members ℕ)) (Onto (Clauses ℕ)) (Onto (Arms ℕ)) (Statement ℕ) (Onto (Cases ℕ)) (Class ℕ) (Function ℕ) → Onto (Arms ℕ)
arm_step (IfArm-F.Arm e ss) = arm (expression_of e) (statements_in ss)

abbrev pub case_step : SwitchArm-F (Onto (Members ℕ)) (Onto (Clauses ℕ)) (Onto (Arms ℕ)) (Statement ℕ) (Onto (Cases ℕ)) (Class ℕ) (Function ℕ) → Onto (Cases ℕ)
case_step (SwitchArm-F.Case e ss) = case (expression_of e) (statements_in ss)
case_step (SwitchArm-F.Default ss) = default_case (statements_in ss)

abbrev pub class_step : ClassDecl-F (Onto (Members ℕ)) (Onto (Clauses ℕ)) (Onto (Arms ℕ)) (Statement ℕ) (Onto (Cases ℕ)) (Class ℕ) (Function ℕ) → Class ℕ
class_step c = with_members c.kind c.name c.parent c.interfaces (in_front same no_members c.members) c.line

abbrev pub function_step : FunDecl-F (Onto (Members ℕ)) (Onto (Clauses ℕ)) (Onto (Arms ℕ)) (Statement ℕ) (Onto (Cases ℕ)) (Class ℕ) (Function ℕ) → Function ℕ
function_step f = with_body (record { name = f.name; parameters = map parameter_of f.params; gives = f.«result»; line = f.line }) (statements_in f.body) f.body_span

abbrev pub statement_step : Stmt-F (Onto (Members ℕ)) (Onto (Clauses ℕ)) (Onto (Arms ℕ)) (Statement ℕ) (Onto (Cases ℕ)) (Class ℕ) (Function ℕ) → Statement ℕ
statement_step (Stmt-F.Inline t l) = inline t l
statement_step (Stmt-F.Echo es l) = echo (expressions_of es) l
statement_step (Stmt-F.Expr e l) = evaluate (expression_of e) l
statement_step (Stmt-F.Empty l) = nothing l
statement_step (Stmt-F.Block ss l) = block (statements_in ss) l
statement_step (Stmt-F.If arms ss l) = conditional (in_front same no_arms arms) (statements_in ss) l
statement_step (Stmt-F.While e ss l) = while_loop (expression_of e) (statements_in ss) l
statement_step (Stmt-F.Do ss e l) = do_loop (statements_in ss) (expression_of e) l
statement_step (Stmt-F.For a b c ss l) = for_loop (expressions_of a) (expressions_of b) (expressions_of c) (statements_in ss) l
statement_step (Stmt-F.Foreach e k v ss l) = foreach (expression_of e) k v (statements_in ss) l
statement_step (Stmt-F.Switch e arms l) = switch (expression_of e) (in_front same no_cases arms) l
statement_step (Stmt-F.Break n l) = break n l
statement_step (Stmt-F.Continue n l) = continue n l
statement_step (Stmt-F.Return e l) = return (expression_or_none e) l
statement_step (Stmt-F.Global vs l) = global vs l
statement_step (Stmt-F.Static vs l) = static_vars (map static_of vs) l
statement_step (Stmt-F.Unset es l) = unset (expressions_of es) l
statement_step (Stmt-F.Throw e l) = throw (expression_of e) l
statement_step (Stmt-F.Try ss cs l) = try (statements_in ss) (in_front same no_clauses cs) l
statement_step (Stmt-F.Function f l) = function f l
statement_step (Stmt-F.Class c l) = class c l
statement_step (Stmt-F.Const cs l) = constants (map constant_of cs) l
statement_step (Stmt-F.Removed kind path name l) = removed kind path name l

-- ---- whole values

abbrev pub member_of : Member → Onto (Members ℕ)
member_of = fold-Member _ _ _ _ _ _ _ member_step catch_step arm_step statement_step case_step class_step function_step

abbrev pub catch_of : Catch → Onto (Clauses ℕ)
catch_of = fold-Catch _ _ _ _ _ _ _ member_step catch_step arm_step statement_step case_step class_step function_step

abbrev pub arm_of : IfArm → Onto (Arms ℕ)
arm_of = fold-IfArm _ _ _ _ _ _ _ member_step catch_step arm_step statement_step case_step class_step function_step

abbrev pub case_of : SwitchArm → Onto (Cases ℕ)
case_of = fold-SwitchArm _ _ _ _ _ _ _ member_step catch_step arm_step statement_step case_step class_step function_step

abbrev pub class_of : ClassDecl → Class ℕ
class_of = fold-ClassDecl _ _ _ _ _ _ _ member_step catch_step arm_step statement_step case_step class_step function_step

abbrev pub function_of : FunDecl → Function ℕ
function_of = fold-FunDecl _ _ _ _ _ _ _ member_step catch_step arm_step statement_step case_step class_step function_step

-- the statement, with its variables by number
abbrev pub statement_of : Stmt → Statement ℕ
statement_of = fold-Stmt _ _ _ _ _ _ _ member_step catch_step arm_step statement_step case_step class_step function_step

abbrev pub statements_of : List Stmt → Statements ℕ
statements_of = map_statements statement_of

abbrev pub arms_of : List IfArm → Arms ℕ
arms_of = in_front arm_of no_arms

abbrev pub cases_of : List SwitchArm → Cases ℕ
cases_of = in_front case_of no_cases

abbrev pub clauses_of : List Catch → Clauses ℕ
clauses_of = in_front catch_of no_clauses

abbrev pub members_of : List Member → Members ℕ
members_of = in_front member_of no_members
