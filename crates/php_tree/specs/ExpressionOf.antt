-- What plain data an expression of the code stands for.
use Rattle.std.specs.Prelude.{ℕ, List, [], ◌∷◌, Option, Some, None}
use Rattle.php_tree.specs.declared.expr.ChainOp.{ChainOp}
use Rattle.php_tree.specs.declared.expr.QuoteKey.{QuoteKey}
use Rattle.php_tree.specs.declared.expr.QuoteKey.TheVariants as k
use Rattle.php_tree.specs.declared.expr.QuotePart.{QuotePart}
use Rattle.php_tree.specs.declared.expr.QuotePart.TheVariants as q
use Rattle.php_tree.specs.declared.expr.Item.{Item}
use Rattle.php_tree.specs.declared.expr.Item.TheVariants as i
use Rattle.php_tree.specs.declared.expr.Branch.{Branch}
use Rattle.php_tree.specs.declared.expr.Branch.TheVariants as b
use Rattle.php_tree.specs.declared.expr.Access.{Access}
use Rattle.php_tree.specs.declared.expr.Access.TheVariants as a
use Rattle.php_tree.specs.declared.expr.Expr.{Expr, fold-Expr}
use Rattle.php_tree.specs.declared.expr.Expr.TheOpen.{Expr-F}
use Rattle.php_tree.specs.Expressions.{Key, key_int, key_text, key_var, Expression, int, text, quote, var, constant, array, paren, isset, is_empty, exit, exit_with, new, new_var, call, call_var, class_constant, static_call, static_property, class_text, post, chain, print, assign, assign_reference, choice, coalesce, compare, unary, instance_of, instance_of_var, step, cloned, included, Expressions, no_more, expression, QuoteParts, no_parts, part_bytes, part_var, part_index, part_property, part_embedded, ArrayItems, no_items, item, pair, Accesses, no_accesses, index, append, property, method, Links, no_links, link, Branches, no_branches, full, short}

abbrev pub key_of : QuoteKey → Key ℕ
key_of (k.Int z) = key_int z
key_of (k.Text t) = key_text t
key_of (k.Var v) = key_var v

-- ---- lists, where `f` says what an element stands for

abbrev pub map_expressions : {E V : Type 0} → (E → Expression V) → List E → Expressions V
map_expressions f [] = no_more
map_expressions f (e ∷ es) = expression (f e) (map_expressions f es)

abbrev pub map_parts : {E : Type 0} → (E → Expression ℕ) → List (QuotePart E) → QuoteParts ℕ
map_parts f [] = no_parts
map_parts f (q.Bytes t ∷ ps) = part_bytes t (map_parts f ps)
map_parts f (q.Var v ∷ ps) = part_var v (map_parts f ps)
map_parts f (q.Index v key ∷ ps) = part_index v (key_of key) (map_parts f ps)
map_parts f (q.Property v name ∷ ps) = part_property v name (map_parts f ps)
map_parts f (q.Embedded e ∷ ps) = part_embedded (f e) (map_parts f ps)

abbrev pub map_items : {E V : Type 0} → (E → Expression V) → List (Item E) → ArrayItems V
map_items f [] = no_items
map_items f (i.Value e ∷ es) = item (f e) (map_items f es)
map_items f (i.Pair d e ∷ es) = pair (f d) (f e) (map_items f es)

abbrev pub map_accesses : {E V : Type 0} → (E → Expression V) → List (Access E) → Accesses V
map_accesses f [] = no_accesses
map_accesses f (a.Index e ∷ es) = index (f e) (map_accesses f es)
map_accesses f (a.Append ∷ es) = append (map_accesses f es)
map_accesses f (a.Property name ∷ es) = property name (map_accesses f es)
map_accesses f (a.Method name args ∷ es) = method name (map_expressions f args) (map_accesses f es)

abbrev pub map_links : {E V : Type 0} → (E → Expression V) → List (ChainOp × E) → Links V
map_links f [] = no_links
map_links f ((op, e) ∷ es) = link op (f e) (map_links f es)

abbrev pub map_branches : {E V : Type 0} → (E → Expression V) → List (Branch E) → Branches V
map_branches f [] = no_branches
map_branches f (b.Full d e ∷ es) = full (f d) (f e) (map_branches f es)
map_branches f (b.Short e ∷ es) = short (f e) (map_branches f es)

-- ---- an expression

abbrev same : Expression ℕ → Expression ℕ
same e = e

-- one layer, whose children are plain data already
abbrev pub expression_step : Expr-F (Expression ℕ) → Expression ℕ
expression_step (Expr-F.Int z l) = int z l
expression_step (Expr-F.Text t l) = text t l
expression_step (Expr-F.Quote ps l) = quote (map_parts same ps) l
expression_step (Expr-F.Var v l) = var v l
expression_step (Expr-F.Constant name l) = constant name l
expression_step (Expr-F.Array es l) = array (map_items same es) l
expression_step (Expr-F.Paren e l) = paren e l
expression_step (Expr-F.Isset es l) = isset (map_expressions same es) l
expression_step (Expr-F.Empty e l) = is_empty e l
expression_step (Expr-F.Exit l) = exit l
expression_step (Expr-F.ExitWith e l) = exit_with e l
expression_step (Expr-F.New name es l) = new name (map_expressions same es) l
expression_step (Expr-F.NewVar v es l) = new_var v (map_expressions same es) l
expression_step (Expr-F.Call name es l) = call name (map_expressions same es) l
expression_step (Expr-F.CallVar v es l) = call_var v (map_expressions same es) l
expression_step (Expr-F.ClassConstant name member l) = class_constant name member l
expression_step (Expr-F.StaticCall name member es l) = static_call name member (map_expressions same es) l
expression_step (Expr-F.StaticProperty name member l) = static_property name member l
expression_step (Expr-F.ClassText name l) = class_text name l
expression_step (Expr-F.Post e es l) = post e (map_accesses same es) l
expression_step (Expr-F.Chain e es l) = chain e (map_links same es) l
expression_step (Expr-F.Print e l) = print e l
expression_step (Expr-F.Assign e op d l) = assign e op d l
expression_step (Expr-F.AssignReference v w l) = assign_reference v w l
expression_step (Expr-F.Choice e es l) = choice e (map_branches same es) l
expression_step (Expr-F.Coalesce e d l) = coalesce e d l
expression_step (Expr-F.Compare e op d l) = compare e op d l
expression_step (Expr-F.Unary op e l) = unary op e l
expression_step (Expr-F.InstanceOf e name l) = instance_of e name l
expression_step (Expr-F.InstanceOfVar e v l) = instance_of_var e v l
expression_step (Expr-F.Step op e l) = step op e l
expression_step (Expr-F.Clone e l) = cloned e l
expression_step (Expr-F.Include kind e l) = included kind e l

-- the expression, with its variables by number
abbrev pub expression_of : Expr → Expression ℕ
expression_of = fold-Expr (Expression ℕ) expression_step

abbrev pub expressions_of : List Expr → Expressions ℕ
expressions_of = map_expressions expression_of

abbrev pub parts_of : List (QuotePart Expr) → QuoteParts ℕ
parts_of = map_parts expression_of

abbrev pub items_of : List (Item Expr) → ArrayItems ℕ
items_of = map_items expression_of

abbrev pub accesses_of : List (Access Expr) → Accesses ℕ
accesses_of = map_accesses expression_of

abbrev pub links_of : List (ChainOp × Expr) → Links ℕ
links_of = map_links expression_of

abbrev pub branches_of : List (Branch Expr) → Branches ℕ
branches_of = map_branches expression_of

-- an expression that may be absent
abbrev pub expression_or_none : Option Expr → Option (Expression ℕ)
expression_or_none (Some e) = Some (expression_of e)
expression_or_none None = None
