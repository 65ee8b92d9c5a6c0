-- The statements of a file, over plain values.
use Rattle.std.proofs.Common.{◌≡◌, List, [], ◌∷◌, false, Option, Some, None, is_some, MatchOption, refl, sym, ap, ◌∙◌}
use Rattle.php_tree.specs.declared.decl.FunDecl.{FunDecl}
use Rattle.php_tree.specs.declared.stmt.Stmt.{Stmt}
use Rattle.php_tree.specs.Parts.{emptied, no_span}
use Rattle.php_tree.specs.Renamed.{renamed_function}
use Rattle.php_tree.specs.StatementOf.{function_of}
use Rattle.php_tree.specs.Statements as s
use Rattle.php_tree.specs.Statements.{Statement, Statements, Function}
use Rattle.php_tree.proofs.Statements.{function_of-out}
use Rattle.php_world.specs.Naming.{Naming}
use Rattle.php_meaning.specs.Course.{Signal, Gives, Normal, Returned, Thrown, Breaks, Continues, Then, then_do}
use Rattle.php_meaning.specs.Statements.{statement, file_statements, hoist}
use Rattle.php_meaning.specs.World.{World, Name}
use Rattle.php_rest.specs.Named.{block_named, head_named, stmt_named}
use Rattle.php_rest.specs.Rest.{rest}
use Rattle.php_rest.specs.Tails.{left_in}
use Rattle.php_rest.specs.declared.tail.Tail.{Tail}
use Rattle.php_rest.specs.declared.stmt_frame.StmtFrame.TheVariants as b
use Rattle.php_rest.specs.declared.frame.Frame.{Frame}
use Rattle.php_rest.specs.declared.frame.Frame.TheVariants.{OfStmt}
use Rattle.php_declarations.specs.Nodes.{is_function}

pub nothing_there : {A : Type 0} (o : Option A) (N : Type 0) (P : A → Type 0) → false ≡ is_some o → MatchOption o N P → N
nothing_there None N P e m = m
nothing_there (Some a) N P e m = absurd cc

-- a function without its body
pub emptied_node : (t : Naming) (d : FunDecl) → emptied (renamed_function t.name (function_of d)) ≡ s.with_body (head_named t d) s.no_more no_span
emptied_node t d = ap (λ g. emptied (renamed_function t.name g)) (function_of-out d)

-- nothing is done behind the last statement
pub done : (k : Then) (v : Signal) (w : World) → then_do (file_statements s.no_more) k v w ≡ k v w
done k (Gives d) w = refl
done k Normal w = refl
done k (Returned d) w = refl
done k (Thrown n) w = refl
done k (Breaks n) w = refl
done k (Continues n) w = refl

-- a statement that is no function is run, and those behind it follow
pub other : (x : Statement Name) (xs : Statements Name) → is_function x ≡ false → (w : World) (k : Then) → statement x w (then_do (file_statements xs) k) ≡ file_statements (s.statement x xs) w k
other (s.inline t l) xs plain w k = refl
other (s.echo es l) xs plain w k = refl
other (s.evaluate e l) xs plain w k = refl
other (s.nothing l) xs plain w k = refl
other (s.block ss l) xs plain w k = refl
other (s.conditional a ss l) xs plain w k = refl
other (s.while_loop e ss l) xs plain w k = refl
other (s.do_loop ss e l) xs plain w k = refl
other (s.for_loop a e c ss l) xs plain w k = refl
other (s.foreach e i v ss l) xs plain w k = refl
other (s.switch e cs l) xs plain w k = refl
other (s.break n l) xs plain w k = refl
other (s.continue n l) xs plain w k = refl
other (s.return e l) xs plain w k = refl
other (s.global vs l) xs plain w k = refl
other (s.static_vars vs l) xs plain w k = refl
other (s.unset es l) xs plain w k = refl
other (s.throw e l) xs plain w k = refl
other (s.try ss cs l) xs plain w k = refl
other (s.function f l) xs plain w k = absurd cc
other (s.class c l) xs plain w k = refl
other (s.constants cs l) xs plain w k = refl
other (s.removed a p n l) xs plain w k = refl

-- nor does it declare anything at the file's entry
pub passed_by : (path : Name) (x : Statement Name) (xs : Statements Name) (w : World) → is_function x ≡ false → hoist path xs w ≡ hoist path (s.statement x xs) w
passed_by path (s.inline t l) xs w plain = refl
passed_by path (s.echo es l) xs w plain = refl
passed_by path (s.evaluate e l) xs w plain = refl
passed_by path (s.nothing l) xs w plain = refl
passed_by path (s.block ss l) xs w plain = refl
passed_by path (s.conditional a ss l) xs w plain = refl
passed_by path (s.while_loop e ss l) xs w plain = refl
passed_by path (s.do_loop ss e l) xs w plain = refl
passed_by path (s.for_loop a e c ss l) xs w plain = refl
passed_by path (s.foreach e i v ss l) xs w plain = refl
passed_by path (s.switch e cs l) xs w plain = refl
passed_by path (s.break n l) xs w plain = refl
passed_by path (s.continue n l) xs w plain = refl
passed_by path (s.return e l) xs w plain = refl
passed_by path (s.global vs l) xs w plain = refl
passed_by path (s.static_vars vs l) xs w plain = refl
passed_by path (s.unset es l) xs w plain = refl
passed_by path (s.throw e l) xs w plain = refl
passed_by path (s.try ss cs l) xs w plain = refl
passed_by path (s.function f l) xs w plain = absurd cc
passed_by path (s.class c l) xs w plain = refl
passed_by path (s.constants cs l) xs w plain = refl
passed_by path (s.removed a p n l) xs w plain = refl

-- the first statement of a file, under a frame with those behind it
pub first_of : (all : List Stmt) (x : Stmt) (more : Tail Stmt) (fs gs : List Frame) → all ≡ x ∷ left_in more → ((t : Naming) → is_function (stmt_named t x) ≡ false) → gs ≡ OfStmt (b.ThenOfFile more) ∷ fs
    → (t : Naming) (w : World) (k : Then) → statement (stmt_named t x) w (rest t gs k) ≡ file_statements (block_named t all) w (rest t fs k)
first_of all x more fs gs list plain push t w k =
    ap (λ z. statement (stmt_named t x) w (rest t z k)) push
    ∙ other (stmt_named t x) (block_named t (left_in more)) (plain t) w (rest t fs k)
    ∙ ap (λ l. file_statements (block_named t l) w (rest t fs k)) (sym list)

-- and the last one, for which nothing waits
pub last_of : (all : List Stmt) (x : Stmt) (more : Tail Stmt) → all ≡ x ∷ left_in more → left_in more ≡ [] → ((t : Naming) → is_function (stmt_named t x) ≡ false)
    → (t : Naming) (w : World) (k : Then) → statement (stmt_named t x) w k ≡ file_statements (block_named t all) w k
last_of all x more list none plain t w k =
    let ends : then_do (file_statements s.no_more) k ≡ k = λ i v u. done k v u i in
    ap (statement (stmt_named t x) w) (sym ends)
    ∙ other (stmt_named t x) s.no_more (plain t) w k
    ∙ ap (λ l. file_statements (s.statement (stmt_named t x) (block_named t l)) w k) (sym none)
    ∙ ap (λ l. file_statements (block_named t l) w k) (sym list)
