-- Statements of the code by their parts, with the names of their variables, over plain values.
use Rattle.std.proofs.Common.{◌≡◌, ℕ, ℤ, List, map, Option, ap, ◌∙◌}
use Rattle.php_tree.specs.declared.decl.ClassDecl.{ClassDecl}
use Rattle.php_tree.specs.declared.expr.Expr.{Expr}
use Rattle.php_tree.specs.declared.stmt.Catch.{Catch}
use Rattle.php_tree.specs.declared.stmt.IfArm.{IfArm}
use Rattle.php_tree.specs.declared.stmt.Stmt.{Stmt}
use Rattle.php_tree.specs.declared.stmt.Stmt.TheVariants as x
use Rattle.php_tree.specs.Parts.{without_bodies, emptied_class, clauses_without_bodies}
use Rattle.php_tree.specs.Renamed.{renamed_statement, renamed_class, renamed_clauses, renamed_var}
use Rattle.php_tree.specs.Statements as s
use Rattle.php_tree.specs.StatementOf.{class_of, clauses_of}
use Rattle.php_tree.proofs.Statements as seen
use Rattle.php_world.specs.Naming.{Naming}
use Rattle.php_rest.specs.Named.{named, all_named, arms_named, block_named, stmt_named}

-- ---- each statement by its parts

pub stmt-Inline : (z : Stmt) (b : List ℕ) (l : ℕ) → z ≡ x.Inline b l → (t : Naming) → stmt_named t z ≡ s.inline b l
stmt-Inline z b l is t = ap (stmt_named t) is ∙ ap (λ y. without_bodies (renamed_statement t.name y)) (seen.statement_of-Inline b l)

pub stmt-Echo : (z : Stmt) (es : List Expr) (l : ℕ) → z ≡ x.Echo es l → (t : Naming) → stmt_named t z ≡ s.echo (all_named t es) l
stmt-Echo z es l is t = ap (stmt_named t) is ∙ ap (λ y. without_bodies (renamed_statement t.name y)) (seen.statement_of-Echo es l)

pub stmt-Expr : (z : Stmt) (e : Expr) (l : ℕ) → z ≡ x.Expr e l → (t : Naming) → stmt_named t z ≡ s.evaluate (named t e) l
stmt-Expr z e l is t = ap (stmt_named t) is ∙ ap (λ y. without_bodies (renamed_statement t.name y)) (seen.statement_of-Expr e l)

pub stmt-Empty : (z : Stmt) (l : ℕ) → z ≡ x.Empty l → (t : Naming) → stmt_named t z ≡ s.nothing l
stmt-Empty z l is t = ap (stmt_named t) is ∙ ap (λ y. without_bodies (renamed_statement t.name y)) (seen.statement_of-Empty l)

pub stmt-Block : (z : Stmt) (ss : List Stmt) (l : ℕ) → z ≡ x.Block ss l → (t : Naming) → stmt_named t z ≡ s.block (block_named t ss) l
stmt-Block z ss l is t = ap (stmt_named t) is ∙ ap (λ y. without_bodies (renamed_statement t.name y)) (seen.statement_of-Block ss l)

pub stmt-If : (z : Stmt) (xs : List IfArm) (ss : List Stmt) (l : ℕ) → z ≡ x.If xs ss l → (t : Naming) → stmt_named t z ≡ s.conditional (arms_named t xs) (block_named t ss) l
stmt-If z xs ss l is t = ap (stmt_named t) is ∙ ap (λ y. without_bodies (renamed_statement t.name y)) (seen.statement_of-If xs ss l)

pub stmt-While : (z : Stmt) (e : Expr) (ss : List Stmt) (l : ℕ) → z ≡ x.While e ss l → (t : Naming) → stmt_named t z ≡ s.while_loop (named t e) (block_named t ss) l
stmt-While z e ss l is t = ap (stmt_named t) is ∙ ap (λ y. without_bodies (renamed_statement t.name y)) (seen.statement_of-While e ss l)

pub stmt-Do : (z : Stmt) (ss : List Stmt) (e : Expr) (l : ℕ) → z ≡ x.Do ss e l → (t : Naming) → stmt_named t z ≡ s.do_loop (block_named t ss) (named t e) l
stmt-Do z ss e l is t = ap (stmt_named t) is ∙ ap (λ y. without_bodies (renamed_statement t.name y)) (seen.statement_of-Do ss e l)

pub stmt-For : (z : Stmt) (us vs ws : List Expr) (ss : List Stmt) (l : ℕ) → z ≡ x.For us vs ws ss l → (t : Naming) → stmt_named t z ≡ s.for_loop (all_named t us) (all_named t vs) (all_named t ws) (block_named t ss) l
stmt-For z us vs ws ss l is t = ap (stmt_named t) is ∙ ap (λ y. without_bodies (renamed_statement t.name y)) (seen.statement_of-For us vs ws ss l)

pub stmt-Foreach : (z : Stmt) (e : Expr) (key : Option ℕ) (v : ℕ) (ss : List Stmt) (l : ℕ) → z ≡ x.Foreach e key v ss l
    → (t : Naming) → stmt_named t z ≡ s.foreach (named t e) (renamed_var t.name key) (t.name v) (block_named t ss) l
stmt-Foreach z e key v ss l is t = ap (stmt_named t) is ∙ ap (λ y. without_bodies (renamed_statement t.name y)) (seen.statement_of-Foreach e key v ss l)

pub stmt-Break : (z : Stmt) (n : ℤ) (l : ℕ) → z ≡ x.Break n l → (t : Naming) → stmt_named t z ≡ s.break n l
stmt-Break z n l is t = ap (stmt_named t) is ∙ ap (λ y. without_bodies (renamed_statement t.name y)) (seen.statement_of-Break n l)

pub stmt-Continue : (z : Stmt) (n : ℤ) (l : ℕ) → z ≡ x.Continue n l → (t : Naming) → stmt_named t z ≡ s.continue n l
stmt-Continue z n l is t = ap (stmt_named t) is ∙ ap (λ y. without_bodies (renamed_statement t.name y)) (seen.statement_of-Continue n l)

pub stmt-Global : (z : Stmt) (vs : List ℕ) (l : ℕ) → z ≡ x.Global vs l → (t : Naming) → stmt_named t z ≡ s.global (map t.name vs) l
stmt-Global z vs l is t = ap (stmt_named t) is ∙ ap (λ y. without_bodies (renamed_statement t.name y)) (seen.statement_of-Global vs l)

pub stmt-Unset : (z : Stmt) (es : List Expr) (l : ℕ) → z ≡ x.Unset es l → (t : Naming) → stmt_named t z ≡ s.unset (all_named t es) l
stmt-Unset z es l is t = ap (stmt_named t) is ∙ ap (λ y. without_bodies (renamed_statement t.name y)) (seen.statement_of-Unset es l)

pub stmt-Throw : (z : Stmt) (e : Expr) (l : ℕ) → z ≡ x.Throw e l → (t : Naming) → stmt_named t z ≡ s.throw (named t e) l
stmt-Throw z e l is t = ap (stmt_named t) is ∙ ap (λ y. without_bodies (renamed_statement t.name y)) (seen.statement_of-Throw e l)

pub stmt-Try : (z : Stmt) (ss : List Stmt) (cs : List Catch) (l : ℕ) → z ≡ x.Try ss cs l
    → (t : Naming) → stmt_named t z ≡ s.try (block_named t ss) (clauses_without_bodies (renamed_clauses t.name (clauses_of cs))) l
stmt-Try z ss cs l is t = ap (stmt_named t) is ∙ ap (λ y. without_bodies (renamed_statement t.name y)) (seen.statement_of-Try ss cs l)

pub stmt-Class : (z : Stmt) (c : ClassDecl) (l : ℕ) → z ≡ x.Class c l → (t : Naming) → stmt_named t z ≡ s.class (emptied_class (renamed_class t.name (class_of c))) l
stmt-Class z c l is t = ap (stmt_named t) is ∙ ap (λ y. without_bodies (renamed_statement t.name y)) (seen.statement_of-Class c l)

pub stmt-Removed : (z : Stmt) (what path : List ℕ) (f : Option (List ℕ)) (l : ℕ) → z ≡ x.Removed what path f l → (t : Naming) → stmt_named t z ≡ s.removed what path f l
stmt-Removed z what path f l is t = ap (stmt_named t) is ∙ ap (λ y. without_bodies (renamed_statement t.name y)) (seen.statement_of-Removed what path f l)
