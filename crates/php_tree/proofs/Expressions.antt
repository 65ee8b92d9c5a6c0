-- What each variant of an expression stands for, as equations that proofs may cite. The first part says that the elements
-- of a list may be seen as plain data one at a time.
use Rattle.std.proofs.Common.{◌≡◌, ℕ, ℤ, List, [], ◌∷◌, refl, ap, sym, ◌∙◌, map}
use Rattle.php_tree.specs.declared.name.FunName.{FunName}
use Rattle.php_tree.specs.declared.name.ConstName.{ConstName}
use Rattle.php_tree.specs.declared.name.ClassName.{ClassName}
use Rattle.php_tree.specs.declared.name.MemberName.{MemberName}
use Rattle.php_tree.specs.declared.expr.ChainOp.{ChainOp}
use Rattle.php_tree.specs.declared.expr.CompareOp.{CompareOp}
use Rattle.php_tree.specs.declared.expr.AssignOp.{AssignOp}
use Rattle.php_tree.specs.declared.expr.UnaryOp.{UnaryOp}
use Rattle.php_tree.specs.declared.expr.StepOp.{StepOp}
use Rattle.php_tree.specs.declared.expr.IncludeKind.{IncludeKind}
use Rattle.php_tree.specs.declared.expr.QuotePart.{QuotePart}
use Rattle.php_tree.specs.declared.expr.QuotePart.TheVariants as q
use Rattle.php_tree.specs.declared.expr.Item.{Item}
use Rattle.php_tree.specs.declared.expr.Item.TheVariants as i
use Rattle.php_tree.specs.declared.expr.Branch.{Branch}
use Rattle.php_tree.specs.declared.expr.Branch.TheVariants as b
use Rattle.php_tree.specs.declared.expr.Access.{Access}
use Rattle.php_tree.specs.declared.expr.Access.TheVariants as a
use Rattle.php_tree.specs.declared.expr.Expr.{Expr, fold-roll-Expr}
use Rattle.php_tree.specs.declared.expr.Expr.TheVariants as x
use Rattle.php_tree.specs.Expressions.{Expression, int, text, quote, var, constant, array, paren, isset, is_empty, exit, exit_with, new, new_var, call, call_var, class_constant, static_call, static_property, class_text, post, chain, print, assign, assign_reference, choice, coalesce, compare, unary, instance_of, instance_of_var, step, cloned, included, expression, part_bytes, part_var, part_index, part_property, part_embedded, item, pair, index, append, property, method, link, full, short}
use Rattle.php_tree.specs.ExpressionOf.{key_of, map_expressions, map_parts, map_items, map_accesses, map_links, map_branches, expression_step, expression_of, expressions_of, parts_of, items_of, accesses_of, links_of, branches_of}

-- ---- a list may be seen element by element, or after its elements

seen_expressions : {E : Type 0} → (f : E → Expression ℕ) (es : List E) → map_expressions (λ e. e) (map f es) ≡ map_expressions f es
seen_expressions f [] = refl
seen_expressions f (e ∷ es) = ap (expression (f e)) (seen_expressions f es)

seen_parts : (f : Expr → Expression ℕ) (g : QuotePart Expr → QuotePart (Expression ℕ))
    → ((t : _) → g (q.Bytes t) ≡ q.Bytes t) → ((v : _) → g (q.Var v) ≡ q.Var v) → ((v k : _) → g (q.Index v k) ≡ q.Index v k)
    → ((v n : _) → g (q.Property v n) ≡ q.Property v n) → ((e : _) → g (q.Embedded e) ≡ q.Embedded (f e))
    → (ps : List (QuotePart Expr)) → map_parts (λ e. e) (map g ps) ≡ map_parts f ps
seen_parts f g b v x p e [] = refl
seen_parts f g b v x p e (q.Bytes t ∷ ps) = ap (λ h. map_parts (λ e. e) (h ∷ map g ps)) (b t) ∙ ap (part_bytes t) (seen_parts f g b v x p e ps)
seen_parts f g b v x p e (q.Var w ∷ ps) = ap (λ h. map_parts (λ e. e) (h ∷ map g ps)) (v w) ∙ ap (part_var w) (seen_parts f g b v x p e ps)
seen_parts f g b v x p e (q.Index w k ∷ ps) = ap (λ h. map_parts (λ e. e) (h ∷ map g ps)) (x w k) ∙ ap (part_index w (key_of k)) (seen_parts f g b v x p e ps)
seen_parts f g b v x p e (q.Property w n ∷ ps) = ap (λ h. map_parts (λ e. e) (h ∷ map g ps)) (p w n) ∙ ap (part_property w n) (seen_parts f g b v x p e ps)
seen_parts f g b v x p e (q.Embedded d ∷ ps) = ap (λ h. map_parts (λ e. e) (h ∷ map g ps)) (e d) ∙ ap (part_embedded (f d)) (seen_parts f g b v x p e ps)

seen_items : (f : Expr → Expression ℕ) (g : Item Expr → Item (Expression ℕ)) → ((e : _) → g (i.Value e) ≡ i.Value (f e)) → ((d e : _) → g (i.Pair d e) ≡ i.Pair (f d) (f e))
    → (es : List (Item Expr)) → map_items (λ e. e) (map g es) ≡ map_items f es
seen_items f g v p [] = refl
seen_items f g v p (i.Value e ∷ es) = ap (λ h. map_items (λ e. e) (h ∷ map g es)) (v e) ∙ ap (item (f e)) (seen_items f g v p es)
seen_items f g v p (i.Pair d e ∷ es) = ap (λ h. map_items (λ e. e) (h ∷ map g es)) (p d e) ∙ ap (pair (f d) (f e)) (seen_items f g v p es)

seen_accesses : (f : Expr → Expression ℕ) (g : Access Expr → Access (Expression ℕ)) → ((e : _) → g (a.Index e) ≡ a.Index (f e)) → (g a.Append ≡ a.Append)
    → ((n : _) → g (a.Property n) ≡ a.Property n) → ((n es : _) → g (a.Method n es) ≡ a.Method n (map f es))
    → (es : List (Access Expr)) → map_accesses (λ e. e) (map g es) ≡ map_accesses f es
seen_accesses f g x w p m [] = refl
seen_accesses f g x w p m (a.Index e ∷ es) = ap (λ h. map_accesses (λ e. e) (h ∷ map g es)) (x e) ∙ ap (index (f e)) (seen_accesses f g x w p m es)
seen_accesses f g x w p m (a.Append ∷ es) = ap (λ h. map_accesses (λ e. e) (h ∷ map g es)) w ∙ ap append (seen_accesses f g x w p m es)
seen_accesses f g x w p m (a.Property n ∷ es) = ap (λ h. map_accesses (λ e. e) (h ∷ map g es)) (p n) ∙ ap (property n) (seen_accesses f g x w p m es)
seen_accesses f g x w p m (a.Method n us ∷ es) =
    ap (λ h. map_accesses (λ e. e) (h ∷ map g es)) (m n us) ∙ ap (λ h. method n h (map_accesses (λ e. e) (map g es))) (seen_expressions f us) ∙ ap (method n (map_expressions f us)) (seen_accesses f g x w p m es)

seen_links : (f : Expr → Expression ℕ) (g : ChainOp × Expr → ChainOp × Expression ℕ) → ((op e : _) → g (op, e) ≡ (op, f e))
    → (es : List (ChainOp × Expr)) → map_links (λ e. e) (map g es) ≡ map_links f es
seen_links f g p [] = refl
seen_links f g p ((op, e) ∷ es) = ap (λ h. map_links (λ e. e) (h ∷ map g es)) (p op e) ∙ ap (link op (f e)) (seen_links f g p es)

seen_branches : (f : Expr → Expression ℕ) (g : Branch Expr → Branch (Expression ℕ)) → ((d e : _) → g (b.Full d e) ≡ b.Full (f d) (f e)) → ((e : _) → g (b.Short e) ≡ b.Short (f e))
    → (es : List (Branch Expr)) → map_branches (λ e. e) (map g es) ≡ map_branches f es
seen_branches f g u s [] = refl
seen_branches f g u s (b.Full d e ∷ es) = ap (λ h. map_branches (λ e. e) (h ∷ map g es)) (u d e) ∙ ap (full (f d) (f e)) (seen_branches f g u s es)
seen_branches f g u s (b.Short e ∷ es) = ap (λ h. map_branches (λ e. e) (h ∷ map g es)) (s e) ∙ ap (short (f e)) (seen_branches f g u s es)

-- ---- the variants

pub expression_of-Int : (z : ℤ) (l : ℕ) → expression_of (x.Int z l) ≡ int z l
expression_of-Int z l = ap expression_of (sym (x.rolls-Int z l)) ∙ fold-roll-Expr (Expression ℕ) expression_step _

pub expression_of-Text : (t : List ℕ) (l : ℕ) → expression_of (x.Text t l) ≡ text t l
expression_of-Text t l = ap expression_of (sym (x.rolls-Text t l)) ∙ fold-roll-Expr (Expression ℕ) expression_step _

pub expression_of-Quote : (ps : List (QuotePart Expr)) (l : ℕ) → expression_of (x.Quote ps l) ≡ quote (parts_of ps) l
expression_of-Quote ps l = ap expression_of (sym (x.rolls-Quote ps l)) ∙ fold-roll-Expr (Expression ℕ) expression_step _ ∙ ap (λ h. quote h l) (seen_parts expression_of _ (λ t. refl) (λ v. refl) (λ v k. refl) (λ v n. refl) (λ e. refl) ps)

pub expression_of-Var : (v : ℕ) (l : ℕ) → expression_of (x.Var v l) ≡ var v l
expression_of-Var v l = ap expression_of (sym (x.rolls-Var v l)) ∙ fold-roll-Expr (Expression ℕ) expression_step _

pub expression_of-Constant : (name : ConstName) (l : ℕ) → expression_of (x.Constant name l) ≡ constant name l
expression_of-Constant name l = ap expression_of (sym (x.rolls-Constant name l)) ∙ fold-roll-Expr (Expression ℕ) expression_step _

pub expression_of-Array : (es : List (Item Expr)) (l : ℕ) → expression_of (x.Array es l) ≡ array (items_of es) l
expression_of-Array es l = ap expression_of (sym (x.rolls-Array es l)) ∙ fold-roll-Expr (Expression ℕ) expression_step _ ∙ ap (λ h. array h l) (seen_items expression_of _ (λ e. refl) (λ d e. refl) es)

pub expression_of-Paren : (e : Expr) (l : ℕ) → expression_of (x.Paren e l) ≡ paren (expression_of e) l
expression_of-Paren e l = ap expression_of (sym (x.rolls-Paren e l)) ∙ fold-roll-Expr (Expression ℕ) expression_step _

pub expression_of-Isset : (es : List Expr) (l : ℕ) → expression_of (x.Isset es l) ≡ isset (expressions_of es) l
expression_of-Isset es l = ap expression_of (sym (x.rolls-Isset es l)) ∙ fold-roll-Expr (Expression ℕ) expression_step _ ∙ ap (λ h. isset h l) (seen_expressions expression_of es)

pub expression_of-Empty : (e : Expr) (l : ℕ) → expression_of (x.Empty e l) ≡ is_empty (expression_of e) l
expression_of-Empty e l = ap expression_of (sym (x.rolls-Empty e l)) ∙ fold-roll-Expr (Expression ℕ) expression_step _

pub expression_of-Exit : (l : ℕ) → expression_of (x.Exit l) ≡ exit l
expression_of-Exit l = ap expression_of (sym (x.rolls-Exit l)) ∙ fold-roll-Expr (Expression ℕ) expression_step _

pub expression_of-ExitWith : (e : Expr) (l : ℕ) → expression_of (x.ExitWith e l) ≡ exit_with (expression_of e) l
expression_of-ExitWith e l = ap expression_of (sym (x.rolls-ExitWith e l)) ∙ fold-roll-Expr (Expression ℕ) expression_step _

pub expression_of-New : (name : ClassName) (es : List Expr) (l : ℕ) → expression_of (x.New name es l) ≡ new name (expressions_of es) l
expression_of-New name es l = ap expression_of (sym (x.rolls-New name es l)) ∙ fold-roll-Expr (Expression ℕ) expression_step _ ∙ ap (λ h. new name h l) (seen_expressions expression_of es)

pub expression_of-NewVar : (v : ℕ) (es : List Expr) (l : ℕ) → expression_of (x.NewVar v es l) ≡ new_var v (expressions_of es) l
expression_of-NewVar v es l = ap expression_of (sym (x.rolls-NewVar v es l)) ∙ fold-roll-Expr (Expression ℕ) expression_step _ ∙ ap (λ h. new_var v h l) (seen_expressions expression_of es)

pub expression_of-Call : (name : FunName) (es : List Expr) (l : ℕ) → expression_of (x.Call name es l) ≡ call name (expressions_of es) l
expression_of-Call name es l = ap expression_of (sym (x.rolls-Call name es l)) ∙ fold-roll-Expr (Expression ℕ) expression_step _ ∙ ap (λ h. call name h l) (seen_expressions expression_of es)

pub expression_of-CallVar : (v : ℕ) (es : List Expr) (l : ℕ) → expression_of (x.CallVar v es l) ≡ call_var v (expressions_of es) l
expression_of-CallVar v es l = ap expression_of (sym (x.rolls-CallVar v es l)) ∙ fold-roll-Expr (Expression ℕ) expression_step _ ∙ ap (λ h. call_var v h l) (seen_expressions expression_of es)

pub expression_of-ClassConstant : (name : ClassName) (member : MemberName) (l : ℕ) → expression_of (x.ClassConstant name member l) ≡ class_constant name member l
expression_of-ClassConstant name member l = ap expression_of (sym (x.rolls-ClassConstant name member l)) ∙ fold-roll-Expr (Expression ℕ) expression_step _

pub expression_of-StaticCall : (name : ClassName) (member : MemberName) (es : List Expr) (l : ℕ) → expression_of (x.StaticCall name member es l) ≡ static_call name member (expressions_of es) l
expression_of-StaticCall name member es l = ap expression_of (sym (x.rolls-StaticCall name member es l)) ∙ fold-roll-Expr (Expression ℕ) expression_step _ ∙ ap (λ h. static_call name member h l) (seen_expressions expression_of es)

pub expression_of-StaticProperty : (name : ClassName) (member : MemberName) (l : ℕ) → expression_of (x.StaticProperty name member l) ≡ static_property name member l
expression_of-StaticProperty name member l = ap expression_of (sym (x.rolls-StaticProperty name member l)) ∙ fold-roll-Expr (Expression ℕ) expression_step _

pub expression_of-ClassText : (name : ClassName) (l : ℕ) → expression_of (x.ClassText name l) ≡ class_text name l
expression_of-ClassText name l = ap expression_of (sym (x.rolls-ClassText name l)) ∙ fold-roll-Expr (Expression ℕ) expression_step _

pub expression_of-Post : (e : Expr) (es : List (Access Expr)) (l : ℕ) → expression_of (x.Post e es l) ≡ post (expression_of e) (accesses_of es) l
expression_of-Post e es l = ap expression_of (sym (x.rolls-Post e es l)) ∙ fold-roll-Expr (Expression ℕ) expression_step _ ∙ ap (λ h. post (expression_of e) h l) (seen_accesses expression_of _ (λ e. refl) refl (λ n. refl) (λ n es. refl) es)

pub expression_of-Chain : (e : Expr) (es : List (ChainOp × Expr)) (l : ℕ) → expression_of (x.Chain e es l) ≡ chain (expression_of e) (links_of es) l
expression_of-Chain e es l = ap expression_of (sym (x.rolls-Chain e es l)) ∙ fold-roll-Expr (Expression ℕ) expression_step _ ∙ ap (λ h. chain (expression_of e) h l) (seen_links expression_of _ (λ op e. refl) es)

pub expression_of-Print : (e : Expr) (l : ℕ) → expression_of (x.Print e l) ≡ print (expression_of e) l
expression_of-Print e l = ap expression_of (sym (x.rolls-Print e l)) ∙ fold-roll-Expr (Expression ℕ) expression_step _

pub expression_of-Assign : (e : Expr) (op : AssignOp) (d : Expr) (l : ℕ) → expression_of (x.Assign e op d l) ≡ assign (expression_of e) op (expression_of d) l
expression_of-Assign e op d l = ap expression_of (sym (x.rolls-Assign e op d l)) ∙ fold-roll-Expr (Expression ℕ) expression_step _

pub expression_of-AssignReference : (v : ℕ) (w : ℕ) (l : ℕ) → expression_of (x.AssignReference v w l) ≡ assign_reference v w l
expression_of-AssignReference v w l = ap expression_of (sym (x.rolls-AssignReference v w l)) ∙ fold-roll-Expr (Expression ℕ) expression_step _

pub expression_of-Choice : (e : Expr) (es : List (Branch Expr)) (l : ℕ) → expression_of (x.Choice e es l) ≡ choice (expression_of e) (branches_of es) l
expression_of-Choice e es l = ap expression_of (sym (x.rolls-Choice e es l)) ∙ fold-roll-Expr (Expression ℕ) expression_step _ ∙ ap (λ h. choice (expression_of e) h l) (seen_branches expression_of _ (λ d e. refl) (λ e. refl) es)

pub expression_of-Coalesce : (e : Expr) (d : Expr) (l : ℕ) → expression_of (x.Coalesce e d l) ≡ coalesce (expression_of e) (expression_of d) l
expression_of-Coalesce e d l = ap expression_of (sym (x.rolls-Coalesce e d l)) ∙ fold-roll-Expr (Expression ℕ) expression_step _

pub expression_of-Compare : (e : Expr) (op : CompareOp) (d : Expr) (l : ℕ) → expression_of (x.Compare e op d l) ≡ compare (expression_of e) op (expression_of d) l
expression_of-Compare e op d l = ap expression_of (sym (x.rolls-Compare e op d l)) ∙ fold-roll-Expr (Expression ℕ) expression_step _

pub expression_of-Unary : (op : UnaryOp) (e : Expr) (l : ℕ) → expression_of (x.Unary op e l) ≡ unary op (expression_of e) l
expression_of-Unary op e l = ap expression_of (sym (x.rolls-Unary op e l)) ∙ fold-roll-Expr (Expression ℕ) expression_step _

pub expression_of-InstanceOf : (e : Expr) (name : ClassName) (l : ℕ) → expression_of (x.InstanceOf e name l) ≡ instance_of (expression_of e) name l
expression_of-InstanceOf e name l = ap expression_of (sym (x.rolls-InstanceOf e name l)) ∙ fold-roll-Expr (Expression ℕ) expression_step _

pub expression_of-InstanceOfVar : (e : Expr) (v : ℕ) (l : ℕ) → expression_of (x.InstanceOfVar e v l) ≡ instance_of_var (expression_of e) v l
expression_of-InstanceOfVar e v l = ap expression_of (sym (x.rolls-InstanceOfVar e v l)) ∙ fold-roll-Expr (Expression ℕ) expression_step _

pub expression_of-Step : (op : StepOp) (e : Expr) (l : ℕ) → expression_of (x.Step op e l) ≡ step op (expression_of e) l
expression_of-Step op e l = ap expression_of (sym (x.rolls-Step op e l)) ∙ fold-roll-Expr (Expression ℕ) expression_step _

pub expression_of-Clone : (e : Expr) (l : ℕ) → expression_of (x.Clone e l) ≡ cloned (expression_of e) l
expression_of-Clone e l = ap expression_of (sym (x.rolls-Clone e l)) ∙ fold-roll-Expr (Expression ℕ) expression_step _

pub expression_of-Include : (kind : IncludeKind) (e : Expr) (l : ℕ) → expression_of (x.Include kind e l) ≡ included kind (expression_of e) l
expression_of-Include kind e l = ap expression_of (sym (x.rolls-Include kind e l)) ∙ fold-roll-Expr (Expression ℕ) expression_step _

-- all of them
pub ruleset expressions = (expression_of-Int, expression_of-Text, expression_of-Quote, expression_of-Var, expression_of-Constant, expression_of-Array, expression_of-Paren, expression_of-Isset, expression_of-Empty, expression_of-Exit, expression_of-ExitWith, expression_of-New, expression_of-NewVar, expression_of-Call, expression_of-CallVar, expression_of-ClassConstant, expression_of-StaticCall, expression_of-StaticProperty, expression_of-ClassText, expression_of-Post, expression_of-Chain, expression_of-Print, expression_of-Assign, expression_of-AssignReference, expression_of-Choice, expression_of-Coalesce, expression_of-Compare, expression_of-Unary, expression_of-InstanceOf, expression_of-InstanceOfVar, expression_of-Step, expression_of-Clone, expression_of-Include)
