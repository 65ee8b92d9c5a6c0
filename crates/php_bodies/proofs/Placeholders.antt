-- The part that statements are.
use Rattle.std.proofs.Common.{◌≡◌, ℕ, zero, suc, ◌<◌, List, [], ◌∷◌, Bool, true, false, length, refl, sym, ap, subst, ◌∙◌, arith}
use Rattle.std.specs.declared.option.Option.TheVariants.{Some, None}
use Rattle.php_tree.specs.declared.stmt.Stmt.{Stmt}
use Rattle.php_tree.specs.Parts.{without_bodies}
use Rattle.php_tree.specs.Renamed.{renamed_statement}
use Rattle.php_tree.specs.StatementOf.{statement_of, statements_of}
use Rattle.php_tree.specs.Statements as s
use Rattle.php_tree.specs.Statements.{Statement, Statements}
use Rattle.app_load.specs.Files.{Tree}
use Rattle.app_load.specs.Parts.{Part, body, stub, part_of}
use Rattle.php_world.specs.Naming.{Naming}
use Rattle.php_rest.specs.Named.{block_named, stmt_named}
use Rattle.php_bodies.specs.Removed.{is_removed}

same_kind : {V W : Type 0} (f : V → W) (x : Statement V) → is_removed (without_bodies (renamed_statement f x)) ≡ is_removed x
same_kind f (s.removed what path name l) = refl
same_kind f (s.function (s.with_body h ss at) l) = refl
same_kind f (s.class (s.with_members k n p is ms l) j) = refl
same_kind f x = refl

a_stub : (x : Statement (List ℕ)) → is_removed x ≡ true → part_of (s.statement x s.no_more) ≡ stub
a_stub (s.removed what path name l) e = refl
a_stub x e = absurd cc

alone : (x : Statement (List ℕ)) → is_removed x ≡ false → part_of (s.statement x s.no_more) ≡ body (s.statement x s.no_more)
alone (s.removed what path name l) e = absurd cc
alone x e = refl

several : (x y : Statement (List ℕ)) (more : Statements (List ℕ)) → part_of (s.statement x (s.statement y more)) ≡ body (s.statement x (s.statement y more))
several (s.removed what path name l) y more = refl
several x y more = refl

pub no_statement : (t : Naming) (ss : List Stmt) → ss ≡ [] → part_of (block_named t ss) ≡ body (block_named t ss)
no_statement t ss e = ap (λ l. part_of (block_named t l)) e ∙ ap (λ l. body (block_named t l)) (sym e)

more_behind : (t : Naming) (x : Stmt) (more : List Stmt) → 0 < length more → part_of (block_named t (x ∷ more)) ≡ body (block_named t (x ∷ more))
more_behind t x [] some = absurd (omega arith)
more_behind t x (y ∷ more) some = several (stmt_named t x) (stmt_named t y) (block_named t more)

pub more_statements : (t : Naming) (ss : List Stmt) (x : Stmt) (more : List Stmt) → ss ≡ x ∷ more → 0 < length more → part_of (block_named t ss) ≡ body (block_named t ss)
more_statements t ss x more e some = ap (λ l. part_of (block_named t l)) e ∙ more_behind t x more some ∙ ap (λ l. body (block_named t l)) (sym e)

pub one_stub : (t : Naming) (ss : List Stmt) (x : Stmt) → ss ≡ x ∷ [] → is_removed (statement_of x) ≡ true → part_of (block_named t ss) ≡ stub
one_stub t ss x e r = ap (λ l. part_of (block_named t l)) e ∙ a_stub (stmt_named t x) (same_kind t.name (statement_of x) ∙ r)

pub one_body : (t : Naming) (ss : List Stmt) (x : Stmt) → ss ≡ x ∷ [] → is_removed (statement_of x) ≡ false → part_of (block_named t ss) ≡ body (block_named t ss)
one_body t ss x e r = ap (λ l. part_of (block_named t l)) e ∙ alone (stmt_named t x) (same_kind t.name (statement_of x) ∙ r) ∙ ap (λ l. body (block_named t l)) (sym e)
