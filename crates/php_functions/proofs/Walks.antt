-- Functions that stand one behind the other.
use Rattle.std.proofs.Common.{◌≡◌, ℕ, ◌+◌, length, length-append, arith, List, [], ◌∷◌, ◌++◌, append_assoc, sym, ap, ◌∙◌}
use Rattle.std.specs.Str.{str_to_ascii_lowercase}
use Rattle.php_tree.specs.declared.name.ClassName.{ClassName}
use Rattle.php_tree.specs.declared.expr.Expr.{Expr}
use Rattle.php_tree.specs.declared.stmt.Stmt.{Stmt}
use Rattle.php_tree.specs.declared.stmt.IfArm.{IfArm, out-IfArm, roll-IfArm, roll-out-IfArm}
use Rattle.php_tree.specs.declared.stmt.Catch.{Catch, out-Catch, roll-Catch, roll-out-Catch}
use Rattle.php_tree.specs.declared.stmt.SwitchArm.{SwitchArm}
use Rattle.php_tree.specs.declared.decl.Member.{Member}
use Rattle.php_tree.specs.declared.decl.FunDecl.{FunDecl, out-FunDecl}
use Rattle.php_tree.specs.declared.decl.Member.TheOpen.{IfArm-F, Catch-F}
use Rattle.php_tree.specs.declared.stmt.IfArm.TheVariants as a
use Rattle.php_tree.specs.declared.stmt.SwitchArm.TheVariants as w
use Rattle.php_tree.specs.declared.stmt.Catch.TheVariants as c
use Rattle.php_tree.specs.declared.decl.ClassDecl.{ClassDecl, out-ClassDecl}
use Rattle.php_tree.specs.Statements.{Arms, Cases, Clauses}
use Rattle.php_tree.specs.StatementOf.{arm_of, case_of, catch_of, class_of, members_of, statements_of, function_of}
use Rattle.php_tree.proofs.Statements.{arm_of-Arm, case_of-Case, case_of-Default, catch_of-Clause, class_of-out, function_of-out}
use Rattle.php_tree.specs.Functions.{class_prefix, spans_in, arms_spans, cases_spans, clauses_spans, class_spans, members_spans, function_spans, numbered}
use Rattle.php_tree.specs.declared.file.Span.{Span}
use Rattle.php_tree.specs.declared.file.FunSpan.{FunSpan}
use Rattle.php_functions.specs.Bodies.{arm_body, clause_body}

-- what was added, and then more
pub adds_twice : {A : Type 0} (a b c x y : List A) → b ≡ a ++ x → c ≡ b ++ y → c ≡ a ++ (x ++ y)
adds_twice a b c x y e f = f ∙ ap (λ z. z ++ y) e ∙ append_assoc a x y

-- what was added in front of the rest
pub in_front : {A : Type 0} (a b x r : List A) → b ≡ a ++ x → b ++ r ≡ a ++ (x ++ r)
in_front a b x r e = ap (λ z. z ++ r) e ∙ append_assoc a x r

-- a step of a loop
pub goes_on : {A : Type 0} (a b x r w : List A) → b ≡ a ++ x → a ++ (x ++ r) ≡ w → b ++ r ≡ w
goes_on a b x r w e f = in_front a b x r e ∙ f

-- ---- an element of a list in front of the others

arm_in_front : (e : Expr) (ss : List Stmt) (rest : Arms ℕ) → arms_spans (arm_of (a.Arm e ss) rest) ≡ spans_in (statements_of ss) ++ arms_spans rest
arm_in_front e ss rest = ap (λ f. arms_spans (f rest)) (arm_of-Arm e ss)

pub case_in_front : (e : Expr) (ss : List Stmt) (rest : Cases ℕ) → cases_spans (case_of (w.Case e ss) rest) ≡ spans_in (statements_of ss) ++ cases_spans rest
case_in_front e ss rest = ap (λ f. cases_spans (f rest)) (case_of-Case e ss)

pub default_in_front : (ss : List Stmt) (rest : Cases ℕ) → cases_spans (case_of (w.Default ss) rest) ≡ spans_in (statements_of ss) ++ cases_spans rest
default_in_front ss rest = ap (λ f. cases_spans (f rest)) (case_of-Default ss)

clause_in_front : (v : ℕ) (names : List ClassName) (ss : List Stmt) (rest : Clauses ℕ) → clauses_spans (catch_of (c.Clause names v ss) rest) ≡ spans_in (statements_of ss) ++ clauses_spans rest
clause_in_front v names ss rest = ap (λ f. clauses_spans (f rest)) (catch_of-Clause names v ss)

-- a class is its name and its members
pub class_opened : (d : ClassDecl) → class_spans (class_of d) ≡ members_spans (class_prefix (out-ClassDecl d).name.text) (members_of (out-ClassDecl d).members)
class_opened d = ap class_spans (class_of-out d)

-- a function is its name, its span and what stands in its body
pub function_opened : (before : List ℕ) (d : FunDecl) → function_spans before (function_of d) ≡ (before ++ str_to_ascii_lowercase (out-FunDecl d).name.text, (out-FunDecl d).body_span) ∷ spans_in (statements_of (out-FunDecl d).body)
function_opened before d = ap (function_spans before) (function_of-out d)

-- a function is noted, and then those inside it
pub function_noted : (old pushed new : List (List ℕ × Span)) (before name word : List ℕ) (d : FunDecl)
    → pushed ≡ old ++ (name, (out-FunDecl d).body_span) ∷ [] → name ≡ before ++ str_to_ascii_lowercase word → word ≡ (out-FunDecl d).name.text
    → (body : List Stmt) → body ≡ (out-FunDecl d).body → new ≡ pushed ++ spans_in (statements_of body) → new ≡ old ++ function_spans before (function_of d)
function_noted old pushed new before name word d p n w body b e =
    let entry : name ≡ before ++ str_to_ascii_lowercase (out-FunDecl d).name.text = n ∙ ap (λ x. before ++ str_to_ascii_lowercase x) w in
    let inside : spans_in (statements_of body) ≡ spans_in (statements_of (out-FunDecl d).body) = ap (λ x. spans_in (statements_of x)) b in
    adds_twice old pushed new ((name, (out-FunDecl d).body_span) ∷ []) (spans_in (statements_of body)) p e
    ∙ (ap (λ x. old ++ ((x, (out-FunDecl d).body_span) ∷ spans_in (statements_of body))) entry
    ∙ (ap (λ x. old ++ ((before ++ str_to_ascii_lowercase (out-FunDecl d).name.text, (out-FunDecl d).body_span) ∷ x)) inside
    ∙ ap (λ x. old ++ x) (sym (function_opened before d))))

-- ---- an element of one form alone

arm_rolled : (y : IfArm-F Member Catch IfArm Stmt SwitchArm ClassDecl FunDecl) (rest : Arms ℕ) → arms_spans (arm_of (roll-IfArm y) rest) ≡ spans_in (statements_of (arm_body y)) ++ arms_spans rest
arm_rolled (IfArm-F.Arm e ss) rest = ap (λ z. arms_spans (arm_of z rest)) (a.rolls-Arm e ss) ∙ arm_in_front e ss rest

pub arm_opened : (x : IfArm) (rest : Arms ℕ) → arms_spans (arm_of x rest) ≡ spans_in (statements_of (arm_body (out-IfArm x))) ++ arms_spans rest
arm_opened x rest = ap (λ z. arms_spans (arm_of z rest)) (sym (roll-out-IfArm x)) ∙ arm_rolled (out-IfArm x) rest

clause_rolled : (y : Catch-F Member Catch IfArm Stmt SwitchArm ClassDecl FunDecl) (rest : Clauses ℕ) → clauses_spans (catch_of (roll-Catch y) rest) ≡ spans_in (statements_of (clause_body y)) ++ clauses_spans rest
clause_rolled (Catch-F.Clause names v ss) rest = ap (λ z. clauses_spans (catch_of z rest)) (c.rolls-Clause names v ss) ∙ clause_in_front v names ss rest

pub clause_opened : (x : Catch) (rest : Clauses ℕ) → clauses_spans (catch_of x rest) ≡ spans_in (statements_of (clause_body (out-Catch x))) ++ clauses_spans rest
clause_opened x rest = ap (λ z. clauses_spans (catch_of z rest)) (sym (roll-out-Catch x)) ∙ clause_rolled (out-Catch x) rest

-- ---- numbers

pub numbered_more : (n : ℕ) (all : List (List ℕ × Span)) (name : List ℕ) (at : Span) → numbered n (all ++ (name, at) ∷ []) ≡ numbered n all ++ (record { ordinal = n + length all; name = name; span = at }) ∷ []
numbered_more n [] name at = ap (λ m. (record { ordinal = m; name = name; span = at }) ∷ []) (omega arith)
numbered_more n (x ∷ all) name at =
    ap (λ z. (record { ordinal = n; name = x.0; span = x.1 }) ∷ z) (numbered_more (n + 1) all name at ∙ ap (λ m. numbered (n + 1) all ++ (record { ordinal = m; name = name; span = at }) ∷ []) (omega arith))

-- one more is numbered
pub numbered_step : (all : List (List ℕ × Span)) (list new : List FunSpan) (count ordinal : ℕ) (name : List ℕ) (at : Span)
    → (list ≡ numbered 1 all) × (count ≡ length all) → ordinal ≡ count + 1 → new ≡ list ++ (record { ordinal = ordinal; name = name; span = at }) ∷ []
    → (new ≡ numbered 1 (all ++ (name, at) ∷ [])) × (ordinal ≡ length (all ++ (name, at) ∷ []))
numbered_step all list new count ordinal name at i o e =
    let n : ordinal ≡ 1 + length all = (let j = i.1 in omega arith) in
    let l = length-append all ((name, at) ∷ []) in (
      e ∙ (ap (λ z. z ++ (record { ordinal = ordinal; name = name; span = at }) ∷ []) i.0
          ∙ (ap (λ m. numbered 1 all ++ (record { ordinal = m; name = name; span = at }) ∷ []) n ∙ sym (numbered_more 1 all name at))),
      omega arith,
    )
