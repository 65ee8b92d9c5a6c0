-- Which trees are plain pages does not depend on how variables are told.
use Rattle.std.proofs.Common.{◌≡◌, ◌&&◌, List, ◌∷◌, refl, sym, ap, ◌∙◌, Some, None, if◌then◌else◌}
use Rattle.php_frames.specs.Statements as page
use Rattle.php_tree.specs.Expressions as e
use Rattle.php_tree.specs.Expressions.{Expression, Expressions}
use Rattle.php_tree.specs.Statements as s
use Rattle.php_tree.specs.Statements.{Statement, Statements}
use Rattle.php_tree.specs.declared.file.FileTree.{FileTree}
use Rattle.php_tree.specs.declared.stmt.Stmt.{Stmt}
use Rattle.php_tree.specs.StatementOf.{statements_of}
use Rattle.app_load.specs.Files.{tree_of}
use Rattle.php_tree.specs.Renamed.{name_at, renamed, renamed_all, renamed_statement, renamed_statements}
use Rattle.plain_page.specs.Pages.{is_text, are_texts, text_of, texts_of, is_plain, are_plain, shown, shown_all, page_of}

same_kind : {V W : Type 0} (f : V → W) (x : Expression V) → is_text (renamed f x) ≡ is_text x
same_kind f (e.int z l) = refl
same_kind f (e.text t l) = refl
same_kind f (e.quote ps l) = refl
same_kind f (e.var v l) = refl
same_kind f (e.constant n l) = refl
same_kind f (e.array es l) = refl
same_kind f (e.paren x l) = refl
same_kind f (e.isset es l) = refl
same_kind f (e.is_empty x l) = refl
same_kind f (e.exit l) = refl
same_kind f (e.exit_with x l) = refl
same_kind f (e.new n es l) = refl
same_kind f (e.new_var v es l) = refl
same_kind f (e.call n es l) = refl
same_kind f (e.call_var v es l) = refl
same_kind f (e.class_constant n m l) = refl
same_kind f (e.static_call n m es l) = refl
same_kind f (e.static_property n m l) = refl
same_kind f (e.class_text n l) = refl
same_kind f (e.post x es l) = refl
same_kind f (e.chain x es l) = refl
same_kind f (e.print x l) = refl
same_kind f (e.assign x op d l) = refl
same_kind f (e.assign_reference v w l) = refl
same_kind f (e.choice x es l) = refl
same_kind f (e.coalesce x d l) = refl
same_kind f (e.compare x op d l) = refl
same_kind f (e.unary op x l) = refl
same_kind f (e.instance_of x n l) = refl
same_kind f (e.instance_of_var x v l) = refl
same_kind f (e.step op x l) = refl
same_kind f (e.cloned x l) = refl
same_kind f (e.included k x l) = refl

same_text : {V W : Type 0} (f : V → W) (x : Expression V) → text_of (renamed f x) ≡ text_of x
same_text f (e.int z l) = refl
same_text f (e.text t l) = refl
same_text f (e.quote ps l) = refl
same_text f (e.var v l) = refl
same_text f (e.constant n l) = refl
same_text f (e.array es l) = refl
same_text f (e.paren x l) = refl
same_text f (e.isset es l) = refl
same_text f (e.is_empty x l) = refl
same_text f (e.exit l) = refl
same_text f (e.exit_with x l) = refl
same_text f (e.new n es l) = refl
same_text f (e.new_var v es l) = refl
same_text f (e.call n es l) = refl
same_text f (e.call_var v es l) = refl
same_text f (e.class_constant n m l) = refl
same_text f (e.static_call n m es l) = refl
same_text f (e.static_property n m l) = refl
same_text f (e.class_text n l) = refl
same_text f (e.post x es l) = refl
same_text f (e.chain x es l) = refl
same_text f (e.print x l) = refl
same_text f (e.assign x op d l) = refl
same_text f (e.assign_reference v w l) = refl
same_text f (e.choice x es l) = refl
same_text f (e.coalesce x d l) = refl
same_text f (e.compare x op d l) = refl
same_text f (e.unary op x l) = refl
same_text f (e.instance_of x n l) = refl
same_text f (e.instance_of_var x v l) = refl
same_text f (e.step op x l) = refl
same_text f (e.cloned x l) = refl
same_text f (e.included k x l) = refl

same_kinds : {V W : Type 0} (f : V → W) (xs : Expressions V) → are_texts (renamed_all f xs) ≡ are_texts xs
same_kinds f e.no_more = refl
same_kinds f (e.expression x xs) = ap (λ b. b && are_texts (renamed_all f xs)) (same_kind f x) ∙ ap (λ b. is_text x && b) (same_kinds f xs)

same_texts : {V W : Type 0} (f : V → W) (xs : Expressions V) → texts_of (renamed_all f xs) ≡ texts_of xs
same_texts f e.no_more = refl
same_texts f (e.expression x xs) = ap (λ t. t ∷ texts_of (renamed_all f xs)) (same_text f x) ∙ ap (λ ts. text_of x ∷ ts) (same_texts f xs)

plain_too : {V W : Type 0} (f : V → W) (x : Statement V) → is_plain (renamed_statement f x) ≡ is_plain x
plain_too f (s.inline t l) = refl
plain_too f (s.echo es l) = same_kinds f es
plain_too f (s.evaluate x l) = refl
plain_too f (s.nothing l) = refl
plain_too f (s.block ss l) = refl
plain_too f (s.conditional arms ss l) = refl
plain_too f (s.while_loop x ss l) = refl
plain_too f (s.do_loop ss x l) = refl
plain_too f (s.for_loop a b c ss l) = refl
plain_too f (s.foreach x k v ss l) = refl
plain_too f (s.switch x arms l) = refl
plain_too f (s.break n l) = refl
plain_too f (s.continue n l) = refl
plain_too f (s.return x l) = refl
plain_too f (s.global vs l) = refl
plain_too f (s.static_vars vs l) = refl
plain_too f (s.unset es l) = refl
plain_too f (s.throw x l) = refl
plain_too f (s.try ss cs l) = refl
plain_too f (s.function g l) = refl
plain_too f (s.class c l) = refl
plain_too f (s.constants cs l) = refl
plain_too f (s.removed k p n l) = refl

shown_so : {V W : Type 0} (f : V → W) (x : Statement V) → shown (renamed_statement f x) ≡ shown x
shown_so f (s.inline t l) = refl
shown_so f (s.echo es l) = ap page.Echo (same_texts f es)
shown_so f (s.evaluate x l) = refl
shown_so f (s.nothing l) = refl
shown_so f (s.block ss l) = refl
shown_so f (s.conditional arms ss l) = refl
shown_so f (s.while_loop x ss l) = refl
shown_so f (s.do_loop ss x l) = refl
shown_so f (s.for_loop a b c ss l) = refl
shown_so f (s.foreach x k v ss l) = refl
shown_so f (s.switch x arms l) = refl
shown_so f (s.break n l) = refl
shown_so f (s.continue n l) = refl
shown_so f (s.return x l) = refl
shown_so f (s.global vs l) = refl
shown_so f (s.static_vars vs l) = refl
shown_so f (s.unset es l) = refl
shown_so f (s.throw x l) = refl
shown_so f (s.try ss cs l) = refl
shown_so f (s.function g l) = refl
shown_so f (s.class c l) = refl
shown_so f (s.constants cs l) = refl
shown_so f (s.removed k p n l) = refl

all_plain_too : {V W : Type 0} (f : V → W) (xs : Statements V) → are_plain (renamed_statements f xs) ≡ are_plain xs
all_plain_too f s.no_more = refl
all_plain_too f (s.statement x xs) = ap (λ b. b && are_plain (renamed_statements f xs)) (plain_too f x) ∙ ap (λ b. is_plain x && b) (all_plain_too f xs)

all_shown_so : {V W : Type 0} (f : V → W) (xs : Statements V) → shown_all (renamed_statements f xs) ≡ shown_all xs
all_shown_so f s.no_more = refl
all_shown_so f (s.statement x xs) = ap (λ t. t ∷ shown_all (renamed_statements f xs)) (shown_so f x) ∙ ap (λ ts. shown x ∷ ts) (all_shown_so f xs)

same_page : {V W : Type 0} (f : V → W) (xs : Statements V) → page_of (renamed_statements f xs) ≡ page_of xs
same_page f xs =
    ap (λ b. if b then Some (shown_all (renamed_statements f xs)) else None) (all_plain_too f xs)
    ∙ ap (λ ts. if are_plain xs then Some ts else None) (all_shown_so f xs)

pub page_of_tree : (t : FileTree) (ss : List Stmt) → ss ≡ t.stmts → page_of (tree_of t) ≡ page_of (statements_of ss)
page_of_tree t ss e = same_page (name_at t.variables) (statements_of t.stmts) ∙ ap (λ xs. page_of (statements_of xs)) (sym e)
