-- The parts of a constant expression are less high than the whole.
use Rattle.std.proofs.Common.{◌≡◌, ℕ, zero, suc, ◌+◌, ◌<◌, ◌≤◌, max, List, [], ◌∷◌, length, get_or, ap, ◌∙◌, arith}
use Rattle.php_tree.specs.Height.{height, items_height, links_height, branches_height}
use Rattle.php_tree.specs.ExpressionOf.{expression_of, items_of, links_of, branches_of}
use Rattle.php_tree.specs.declared.expr.Branch.{Branch}
use Rattle.php_tree.specs.declared.expr.Branch.TheVariants as b
use Rattle.php_tree.specs.declared.expr.ChainOp.{ChainOp}
use Rattle.php_tree.specs.declared.expr.UnaryOp.{UnaryOp}
use Rattle.php_tree.specs.declared.expr.Item.{Item}
use Rattle.php_tree.specs.declared.expr.Item.TheVariants as it
use Rattle.php_tree.specs.declared.expr.Expr.{Expr}
use Rattle.php_tree.specs.declared.expr.Expr.TheVariants as x
use Rattle.php_tree.proofs.Expressions as seen

pub height-Array : (z : Expr) (es : List (Item Expr)) (l : ℕ) → z ≡ x.Array es l → height (expression_of z) ≡ items_height (items_of es) + 1
height-Array z es l is = ap (λ y. height (expression_of y)) is ∙ ap height (seen.expression_of-Array es l)

pub height-Chain : (z e : Expr) (es : List (ChainOp × Expr)) (l : ℕ) → z ≡ x.Chain e es l → height (expression_of z) ≡ max (height (expression_of e)) (links_height (links_of es)) + 1
height-Chain z e es l is = ap (λ y. height (expression_of y)) is ∙ ap height (seen.expression_of-Chain e es l)

pub height-Choice : (z e : Expr) (es : List (Branch Expr)) (l : ℕ) → z ≡ x.Choice e es l → height (expression_of z) ≡ max (height (expression_of e)) (branches_height (branches_of es)) + 1
height-Choice z e es l is = ap (λ y. height (expression_of y)) is ∙ ap height (seen.expression_of-Choice e es l)

pub height-Unary : (z e : Expr) (op : UnaryOp) (l : ℕ) → z ≡ x.Unary op e l → height (expression_of z) ≡ height (expression_of e) + 1
height-Unary z e op l is = ap (λ y. height (expression_of y)) is ∙ ap height (seen.expression_of-Unary op e l)

-- what stands behind the first operand is less high
pub links-below : (z e : Expr) (es es' : List (ChainOp × Expr)) (l : ℕ) → z ≡ x.Chain e es l → es' ≡ es → links_height (links_of es') + 1 ≤ height (expression_of z)
links-below z e es es' l is same =
    let h = height-Chain z e es l is in
    let s : links_height (links_of es') ≡ links_height (links_of es) = ap (λ y. links_height (links_of y)) same in
    omega (arith, h, s)

pub branches-below : (z e : Expr) (es es' : List (Branch Expr)) (l : ℕ) → z ≡ x.Choice e es l → es' ≡ es → branches_height (branches_of es') + 1 ≤ height (expression_of z)
branches-below z e es es' l is same =
    let h = height-Choice z e es l is in
    let s : branches_height (branches_of es') ≡ branches_height (branches_of es) = ap (λ y. branches_height (branches_of y)) same in
    omega (arith, h, s)

-- ---- elements alone

pub height-Value : (i : Item Expr) (e : Expr) → i ≡ it.Value e → items_height (items_of (i ∷ [])) ≡ max (height (expression_of e)) 0
height-Value i e is = ap (λ y. items_height (items_of (y ∷ []))) is

pub height-Pair : (i : Item Expr) (d e : Expr) → i ≡ it.Pair d e → items_height (items_of (i ∷ [])) ≡ max (height (expression_of d)) (max (height (expression_of e)) 0)
height-Pair i d e is = ap (λ y. items_height (items_of (y ∷ []))) is

pub height-Full : (i : Branch Expr) (d e : Expr) → i ≡ b.Full d e → branches_height (branches_of (i ∷ [])) ≡ max (height (expression_of d)) (max (height (expression_of e)) 0)
height-Full i d e is = ap (λ y. branches_height (branches_of (y ∷ []))) is

pub height-Short : (i : Branch Expr) (e : Expr) → i ≡ b.Short e → branches_height (branches_of (i ∷ [])) ≡ max (height (expression_of e)) 0
height-Short i e is = ap (λ y. branches_height (branches_of (y ∷ []))) is

-- ---- elements of lists

item-front : (i : Item Expr) (es : List (Item Expr)) → items_height (items_of (i ∷ es)) ≡ max (items_height (items_of (i ∷ []))) (items_height (items_of es))
item-front (it.Value e) es = omega arith
item-front (it.Pair d e) es = omega arith

pub item-within : (es : List (Item Expr)) (n : ℕ) (i : Item Expr) → n < length es → i ≡ get_or es n i → items_height (items_of (i ∷ [])) ≤ items_height (items_of es)
item-within [] n i less is = absurd (omega arith)
item-within (j ∷ es) zero i less is = let e = item-front j es in let f : items_height (items_of (i ∷ [])) ≡ items_height (items_of (j ∷ [])) = ap (λ y. items_height (items_of (y ∷ []))) is in omega (arith, e, f)
item-within (j ∷ es) (suc n) i less is = let e = item-front j es in let f = item-within es n i (omega arith) is in omega (arith, e, f)

pub link-within : (es : List (ChainOp × Expr)) (n : ℕ) (p : ChainOp × Expr) → n < length es → p ≡ get_or es n p → height (expression_of p.1) ≤ links_height (links_of es)
link-within [] n p less is = absurd (omega arith)
link-within ((op, e) ∷ es) zero p less is = let f : height (expression_of p.1) ≡ height (expression_of e) = ap (λ y. height (expression_of y.1)) is in omega (arith, f)
link-within ((op, e) ∷ es) (suc n) p less is = let f = link-within es n p (omega arith) is in omega (arith, f)

branch-front : (i : Branch Expr) (es : List (Branch Expr)) → branches_height (branches_of (i ∷ es)) ≡ max (branches_height (branches_of (i ∷ []))) (branches_height (branches_of es))
branch-front (b.Full d e) es = omega arith
branch-front (b.Short e) es = omega arith

pub branch-within : (es : List (Branch Expr)) (n : ℕ) (i : Branch Expr) → n < length es → i ≡ get_or es n i → branches_height (branches_of (i ∷ [])) ≤ branches_height (branches_of es)
branch-within [] n i less is = absurd (omega arith)
branch-within (j ∷ es) zero i less is = let e = branch-front j es in let f : branches_height (branches_of (i ∷ [])) ≡ branches_height (branches_of (j ∷ [])) = ap (λ y. branches_height (branches_of (y ∷ []))) is in omega (arith, e, f)
branch-within (j ∷ es) (suc n) i less is = let e = branch-front j es in let f = branch-within es n i (omega arith) is in omega (arith, e, f)

pub ruleset falls = (height-Array, height-Chain, height-Choice, height-Unary, height-Value, height-Pair, height-Full, height-Short, item-within, link-within, branch-within)
