-- What the static rules look at, in text order: the names that a file declares, and the jumps that leave more loops than there are.
use Rattle.std.specs.Prelude.{◌≡◌, ℕ, ℤ, pos, ◌+◌, Bool, ◌&&◌, int_le, List, [], ◌∷◌, ◌++◌, map, Option, Some, None, if◌then◌else◌}
use Rattle.std.specs.Borrow.{Bor}
use Rattle.php_tree.specs.Expressions.{Expression}
use Rattle.php_tree.specs.declared.name.MemberName.{MemberName}
use Rattle.php_tree.specs.Statements as s
use Rattle.php_tree.specs.Statements.{Parameter, Head, Statement, Statements, Arms, Cases, Clauses, Function, Class, Members}
use Rattle.php_tree.specs.declared.stmt.Stmt.{Stmt}
use Rattle.php_tree.specs.declared.stmt.IfArm.{IfArm}
use Rattle.php_tree.specs.declared.stmt.Catch.{Catch}
use Rattle.php_tree.specs.declared.stmt.SwitchArm.{SwitchArm}
use Rattle.php_tree.specs.declared.decl.Member.{Member}
use Rattle.php_tree.specs.declared.decl.FunDecl.{FunDecl}
use Rattle.php_tree.specs.declared.decl.ClassDecl.{ClassDecl}
use Rattle.php_tree.specs.declared.decl.Member.TheOpen.{IfArm-F, Catch-F}
use Rattle.app_load.specs.declared.finding.Sort.{Sort}
use Rattle.app_load.specs.declared.finding.Sort.TheVariants as sort
use Rattle.app_load.specs.declared.finding.Name as code
use Rattle.app_load.specs.declared.finding.Finding as found
use Rattle.app_load.specs.declared.finding.Finding.TheVariants as f

-- A name that is declared: what of, the class and the function in which it stands, empty where in none, and its line.
pub record Name : Type 0 where
  pub sort : Sort
  pub class : List ℕ
  pub function : List ℕ
  pub word : List ℕ
  pub line : ℕ

pub data Finding : Type 0 where
  declares : Name → Finding
  -- a jump, on this line, by 0 or by more than the loops and switches around it
  leaves : ℕ → Finding

-- ---- what the code's values stand for

abbrev pub name_of : code.Name → Name
name_of n = record { sort = n.sort; class = n.class.now; function = n.function.now; word = n.word.now; line = n.line }

abbrev pub finding_of : found.Finding → Finding
finding_of (f.Declares n) = declares (name_of n)
finding_of (f.Leaves l) = leaves l

abbrev pub findings_of : List found.Finding → List Finding
findings_of fs = map finding_of fs

-- ---- an arm of an `if`, and a clause of a `try`

abbrev pub arm_body : IfArm-F Member Catch IfArm Stmt SwitchArm ClassDecl FunDecl → List Stmt
arm_body (IfArm-F.Arm e ss) = ss

abbrev pub clause_body : Catch-F Member Catch IfArm Stmt SwitchArm ClassDecl FunDecl → List Stmt
clause_body (Catch-F.Clause names v ss) = ss

-- ---- a jump

-- a jump out of 1 to as many loops and switches as there are around it
abbrev pub is_within : ℕ → ℤ → Bool
is_within depth n = int_le (pos 1) n && int_le n (pos depth)

abbrev pub jump : ℕ → ℤ → ℕ → List Finding
jump depth n l = if is_within depth n then [] else leaves l ∷ []

-- ---- names

abbrev pub named : Sort → List ℕ → List ℕ → List ℕ → ℕ → Finding
named sort class function word line = declares (record { sort = sort; class = class; function = function; word = word; line = line })

abbrev pub parameter : {V : Type 0} → (V → List ℕ) → List ℕ → List ℕ → Parameter V → Finding
parameter text class function p = named sort.Parameter class function (text p.variable) p.line

-- a function or method, and its parameters
abbrev pub head : {V : Type 0} → (V → List ℕ) → Sort → List ℕ → Head V → List Finding
head text sort class h = named sort class [] h.name.text h.name.line ∷ map (parameter text class h.name.text) h.parameters

abbrev pub constant : {V : Type 0} → List ℕ → MemberName × Expression V → Finding
constant class c = named sort.Constant class [] c.0.text c.0.line

abbrev pub property : {V : Type 0} → List ℕ → MemberName × Option (Expression V) → Finding
property class p = named sort.Property class [] p.0.text p.0.line

-- ---- the findings of a tree, where `text` tells a variable's name and so many loops and switches are around

abbrev mutual
  pub findings : {V : Type 0} → (V → List ℕ) → ℕ → Statement V → List Finding
  findings t n (s.block ss l) = findings_in t n ss
  findings t n (s.conditional arms ss l) = arms_findings t n arms ++ findings_in t n ss
  findings t n (s.while_loop e ss l) = findings_in t (n + 1) ss
  findings t n (s.do_loop ss e l) = findings_in t (n + 1) ss
  findings t n (s.for_loop a b c ss l) = findings_in t (n + 1) ss
  findings t n (s.foreach e k v ss l) = findings_in t (n + 1) ss
  findings t n (s.switch e arms l) = cases_findings t (n + 1) arms
  findings t n (s.break z l) = jump n z l
  findings t n (s.continue z l) = jump n z l
  findings t n (s.try ss cs l) = findings_in t n ss ++ clauses_findings t n cs
  findings t n (s.function g l) = function_findings t sort.Function [] g
  findings t n (s.class c l) = class_findings t c
  findings t n _ = []

  pub findings_in : {V : Type 0} → (V → List ℕ) → ℕ → Statements V → List Finding
  findings_in t n s.no_more = []
  findings_in t n (s.statement x xs) = findings t n x ++ findings_in t n xs

  pub arms_findings : {V : Type 0} → (V → List ℕ) → ℕ → Arms V → List Finding
  arms_findings t n s.no_arms = []
  arms_findings t n (s.arm e ss arms) = findings_in t n ss ++ arms_findings t n arms

  pub cases_findings : {V : Type 0} → (V → List ℕ) → ℕ → Cases V → List Finding
  cases_findings t n s.no_cases = []
  cases_findings t n (s.case e ss arms) = findings_in t n ss ++ cases_findings t n arms
  cases_findings t n (s.default_case ss arms) = findings_in t n ss ++ cases_findings t n arms

  pub clauses_findings : {V : Type 0} → (V → List ℕ) → ℕ → Clauses V → List Finding
  clauses_findings t n s.no_clauses = []
  clauses_findings t n (s.clause ns v ss cs) = findings_in t n ss ++ clauses_findings t n cs

  -- no loop around a function goes on in its body
  pub function_findings : {V : Type 0} → (V → List ℕ) → Sort → List ℕ → Function V → List Finding
  function_findings t sort class (s.with_body h ss at) = head t sort class h ++ findings_in t 0 ss

  pub class_findings : {V : Type 0} → (V → List ℕ) → Class V → List Finding
  class_findings t (s.with_members k n p is ms l) = named sort.Class [] [] n.text n.line ∷ members_findings t n.text ms

  pub members_findings : {V : Type 0} → (V → List ℕ) → List ℕ → Members V → List Finding
  members_findings t class s.no_members = []
  members_findings t class (s.class_constants cs l ms) = map (constant class) cs ++ members_findings t class ms
  members_findings t class (s.properties mods ps l ms) = map (property class) ps ++ members_findings t class ms
  members_findings t class (s.method mods g l ms) = function_findings t sort.Method class g ++ members_findings t class ms
  members_findings t class (s.bodiless mods h l ms) = head t sort.Method class h ++ members_findings t class ms

-- more findings stand behind those that there were
abbrev pub Adds : List found.Finding → List found.Finding → List Finding → Type 0
Adds old new more = findings_of new ≡ findings_of old ++ more
