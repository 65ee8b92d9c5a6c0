-- Lists of what statements hold, as the lists of a tree.
use Rattle.std.proofs.Common.{◌≡◌, ℕ, List, [], ◌∷◌, map, refl, ap, ◌∙◌}
use Rattle.php_tree.specs.declared.name.ClassName.{ClassName}
use Rattle.php_tree.specs.declared.decl.Param.{Param}
use Rattle.php_tree.specs.declared.decl.ClassConst.{ClassConst}
use Rattle.php_tree.specs.declared.decl.PropertyDecl.{PropertyDecl}
use Rattle.php_tree.specs.declared.decl.Member.{Member}
use Rattle.php_tree.specs.declared.stmt.StaticVar.{StaticVar}
use Rattle.php_tree.specs.declared.stmt.ConstDecl.{ConstDecl}
use Rattle.php_tree.specs.declared.stmt.IfArm.{IfArm}
use Rattle.php_tree.specs.declared.stmt.SwitchArm.{SwitchArm}
use Rattle.php_tree.specs.declared.stmt.Catch.{Catch}
use Rattle.php_tree.specs.declared.stmt.Stmt.{Stmt}
use Rattle.php_tree.specs.Statements.{Arms, Cases, Clauses, Members, statement}
use Rattle.php_tree.specs.ExpressionOf.{expression_of, expression_or_none}
use Rattle.php_tree.specs.StatementOf.{parameter_of, static_of, constant_of, class_constant_of, property_of, member_of, members_of, arm_of, arms_of, case_of, cases_of, catch_of, clauses_of, statement_of, statements_of}
use Rattle.php_tree.specs.Renamed.{renamed, renamed_option, renamed_parameter, renamed_statics, renamed_constants, renamed_defaults, renamed_members, renamed_arms, renamed_cases, renamed_clauses, renamed_statement, renamed_statements}
use Rattle.php_renumber.proofs.Each.{Each}

abbrev pub IsMember : (ℕ → ℕ) → Member → Member → Type 0
IsMember f x y = (rest : Members ℕ) → member_of y (renamed_members f rest) ≡ renamed_members f (member_of x rest)

pub members_are : (f : ℕ → ℕ) (xs ys : List Member) → Each (IsMember f) xs ys → members_of ys ≡ renamed_members f (members_of xs)
members_are f [] [] each = refl
members_are f [] (y ∷ ys) each = absurd each
members_are f (x ∷ xs) [] each = absurd each
members_are f (x ∷ xs) (y ∷ ys) each = ap (member_of y) (members_are f xs ys each.1) ∙ each.0 (members_of xs)

abbrev pub IsArm : (ℕ → ℕ) → IfArm → IfArm → Type 0
IsArm f x y = (rest : Arms ℕ) → arm_of y (renamed_arms f rest) ≡ renamed_arms f (arm_of x rest)

pub arms_are : (f : ℕ → ℕ) (xs ys : List IfArm) → Each (IsArm f) xs ys → arms_of ys ≡ renamed_arms f (arms_of xs)
arms_are f [] [] each = refl
arms_are f [] (y ∷ ys) each = absurd each
arms_are f (x ∷ xs) [] each = absurd each
arms_are f (x ∷ xs) (y ∷ ys) each = ap (arm_of y) (arms_are f xs ys each.1) ∙ each.0 (arms_of xs)

abbrev pub IsCase : (ℕ → ℕ) → SwitchArm → SwitchArm → Type 0
IsCase f x y = (rest : Cases ℕ) → case_of y (renamed_cases f rest) ≡ renamed_cases f (case_of x rest)

pub cases_are : (f : ℕ → ℕ) (xs ys : List SwitchArm) → Each (IsCase f) xs ys → cases_of ys ≡ renamed_cases f (cases_of xs)
cases_are f [] [] each = refl
cases_are f [] (y ∷ ys) each = absurd each
cases_are f (x ∷ xs) [] each = absurd each
cases_are f (x ∷ xs) (y ∷ ys) each = ap (case_of y) (cases_are f xs ys each.1) ∙ each.0 (cases_of xs)

abbrev pub IsClause : (ℕ → ℕ) → Catch → Catch → Type 0
IsClause f x y = (rest : Clauses ℕ) → catch_of y (renamed_clauses f rest) ≡ renamed_clauses f (catch_of x rest)

pub clauses_are : (f : ℕ → ℕ) (xs ys : List Catch) → Each (IsClause f) xs ys → clauses_of ys ≡ renamed_clauses f (clauses_of xs)
clauses_are f [] [] each = refl
clauses_are f [] (y ∷ ys) each = absurd each
clauses_are f (x ∷ xs) [] each = absurd each
clauses_are f (x ∷ xs) (y ∷ ys) each = ap (catch_of y) (clauses_are f xs ys each.1) ∙ each.0 (clauses_of xs)

abbrev pub IsStmt : (ℕ → ℕ) → Stmt → Stmt → Type 0
IsStmt f x y = statement_of y ≡ renamed_statement f (statement_of x)

pub stmts_are : (f : ℕ → ℕ) (xs ys : List Stmt) → Each (IsStmt f) xs ys → statements_of ys ≡ renamed_statements f (statements_of xs)
stmts_are f [] [] each = refl
stmts_are f [] (y ∷ ys) each = absurd each
stmts_are f (x ∷ xs) [] each = absurd each
stmts_are f (x ∷ xs) (y ∷ ys) each = ap (λ h. statement h (statements_of ys)) each.0 ∙ ap (statement (renamed_statement f (statement_of x))) (stmts_are f xs ys each.1)

abbrev pub IsParam : (ℕ → ℕ) → Param → Param → Type 0
IsParam f x y = parameter_of y ≡ renamed_parameter f (parameter_of x)

pub params_are : (f : ℕ → ℕ) (xs ys : List Param) → Each (IsParam f) xs ys → map parameter_of ys ≡ map (renamed_parameter f) (map parameter_of xs)
params_are f [] [] each = refl
params_are f [] (y ∷ ys) each = absurd each
params_are f (x ∷ xs) [] each = absurd each
params_are f (x ∷ xs) (y ∷ ys) each = ap (λ h. h ∷ map parameter_of ys) each.0 ∙ ap (λ h. renamed_parameter f (parameter_of x) ∷ h) (params_are f xs ys each.1)

abbrev pub IsStatic : (ℕ → ℕ) → StaticVar → StaticVar → Type 0
IsStatic f x y = static_of y ≡ (f x.variable, renamed_option f (expression_or_none x.default))

pub statics_are : (f : ℕ → ℕ) (xs ys : List StaticVar) → Each (IsStatic f) xs ys → map static_of ys ≡ renamed_statics f (map static_of xs)
statics_are f [] [] each = refl
statics_are f [] (y ∷ ys) each = absurd each
statics_are f (x ∷ xs) [] each = absurd each
statics_are f (x ∷ xs) (y ∷ ys) each = ap (λ h. h ∷ map static_of ys) each.0 ∙ ap (λ h. (f x.variable, renamed_option f (expression_or_none x.default)) ∷ h) (statics_are f xs ys each.1)

abbrev pub IsConstant : (ℕ → ℕ) → ConstDecl → ConstDecl → Type 0
IsConstant f x y = constant_of y ≡ (x.name, renamed f (expression_of x.value))

pub constants_are : (f : ℕ → ℕ) (xs ys : List ConstDecl) → Each (IsConstant f) xs ys → map constant_of ys ≡ renamed_constants f (map constant_of xs)
constants_are f [] [] each = refl
constants_are f [] (y ∷ ys) each = absurd each
constants_are f (x ∷ xs) [] each = absurd each
constants_are f (x ∷ xs) (y ∷ ys) each = ap (λ h. h ∷ map constant_of ys) each.0 ∙ ap (λ h. (x.name, renamed f (expression_of x.value)) ∷ h) (constants_are f xs ys each.1)

abbrev pub IsClassConstant : (ℕ → ℕ) → ClassConst → ClassConst → Type 0
IsClassConstant f x y = class_constant_of y ≡ (x.name, renamed f (expression_of x.value))

pub class_constants_are : (f : ℕ → ℕ) (xs ys : List ClassConst) → Each (IsClassConstant f) xs ys → map class_constant_of ys ≡ renamed_constants f (map class_constant_of xs)
class_constants_are f [] [] each = refl
class_constants_are f [] (y ∷ ys) each = absurd each
class_constants_are f (x ∷ xs) [] each = absurd each
class_constants_are f (x ∷ xs) (y ∷ ys) each = ap (λ h. h ∷ map class_constant_of ys) each.0 ∙ ap (λ h. (x.name, renamed f (expression_of x.value)) ∷ h) (class_constants_are f xs ys each.1)

abbrev pub IsProperty : (ℕ → ℕ) → PropertyDecl → PropertyDecl → Type 0
IsProperty f x y = property_of y ≡ (x.name, renamed_option f (expression_or_none x.default))

pub properties_are : (f : ℕ → ℕ) (xs ys : List PropertyDecl) → Each (IsProperty f) xs ys → map property_of ys ≡ renamed_defaults f (map property_of xs)
properties_are f [] [] each = refl
properties_are f [] (y ∷ ys) each = absurd each
properties_are f (x ∷ xs) [] each = absurd each
properties_are f (x ∷ xs) (y ∷ ys) each = ap (λ h. h ∷ map property_of ys) each.0 ∙ ap (λ h. (x.name, renamed_option f (expression_or_none x.default)) ∷ h) (properties_are f xs ys each.1)

pub mapped : {A B : Type 0} (f : A → B) (xs : List A) (ys : List B) → Each (λ x y. y ≡ f x) xs ys → ys ≡ map f xs
mapped f [] [] each = refl
mapped f [] (y ∷ ys) each = absurd each
mapped f (x ∷ xs) [] each = absurd each
mapped f (x ∷ xs) (y ∷ ys) each = ap (λ h. h ∷ ys) each.0 ∙ ap (λ h. f x ∷ h) (mapped f xs ys each.1)

pub same : {A : Type 0} (xs ys : List A) → Each (λ x y. y ≡ x) xs ys → ys ≡ xs
same [] [] each = refl
same [] (y ∷ ys) each = absurd each
same (x ∷ xs) [] each = absurd each
same (x ∷ xs) (y ∷ ys) each = ap (λ h. h ∷ ys) each.0 ∙ ap (λ h. x ∷ h) (same xs ys each.1)
