-- Lists of copies, as the lists of a tree.
use Rattle.std.proofs.Common.{◌≡◌, ℕ, List, [], ◌∷◌, refl, ap, ◌∙◌}
use Rattle.php_tree.specs.declared.expr.ChainOp.{ChainOp}
use Rattle.php_tree.specs.declared.expr.QuotePart.{QuotePart}
use Rattle.php_tree.specs.declared.expr.Item.{Item}
use Rattle.php_tree.specs.declared.expr.Branch.{Branch}
use Rattle.php_tree.specs.declared.expr.Access.{Access}
use Rattle.php_tree.specs.declared.expr.Expr.{Expr}
use Rattle.php_tree.specs.Expressions.{expression}
use Rattle.php_tree.specs.ExpressionOf.{expression_of, expressions_of, parts_of, items_of, accesses_of, links_of, branches_of}
use Rattle.php_tree.specs.Renamed.{renamed, renamed_all, renamed_parts, renamed_items, renamed_accesses, renamed_links, renamed_branches}
use Rattle.php_renumber.specs.Copies.{IsPart, IsItem, IsAccess, IsLink, IsBranch}
use Rattle.php_renumber.proofs.Each.{Each}

abbrev pub IsExpr : (ℕ → ℕ) → Expr → Expr → Type 0
IsExpr f e d = expression_of d ≡ renamed f (expression_of e)

pub exprs_are : (f : ℕ → ℕ) (es ds : List Expr) → Each (IsExpr f) es ds → expressions_of ds ≡ renamed_all f (expressions_of es)
exprs_are f [] [] each = refl
exprs_are f [] (d ∷ ds) each = absurd each
exprs_are f (e ∷ es) [] each = absurd each
exprs_are f (e ∷ es) (d ∷ ds) each = ap (λ h. expression h (expressions_of ds)) each.0 ∙ ap (expression (renamed f (expression_of e))) (exprs_are f es ds each.1)

pub parts_are : (f : ℕ → ℕ) (ps qs : List (QuotePart Expr)) → Each (IsPart f) ps qs → parts_of qs ≡ renamed_parts f (parts_of ps)
parts_are f [] [] each = refl
parts_are f [] (q ∷ qs) each = absurd each
parts_are f (p ∷ ps) [] each = absurd each
parts_are f (p ∷ ps) (q ∷ qs) each = each.0 ps qs (parts_are f ps qs each.1)

pub items_are : (f : ℕ → ℕ) (ps qs : List (Item Expr)) → Each (IsItem f) ps qs → items_of qs ≡ renamed_items f (items_of ps)
items_are f [] [] each = refl
items_are f [] (q ∷ qs) each = absurd each
items_are f (p ∷ ps) [] each = absurd each
items_are f (p ∷ ps) (q ∷ qs) each = each.0 ps qs (items_are f ps qs each.1)

pub accesses_are : (f : ℕ → ℕ) (ps qs : List (Access Expr)) → Each (IsAccess f) ps qs → accesses_of qs ≡ renamed_accesses f (accesses_of ps)
accesses_are f [] [] each = refl
accesses_are f [] (q ∷ qs) each = absurd each
accesses_are f (p ∷ ps) [] each = absurd each
accesses_are f (p ∷ ps) (q ∷ qs) each = each.0 ps qs (accesses_are f ps qs each.1)

pub links_are : (f : ℕ → ℕ) (ps qs : List (ChainOp × Expr)) → Each (IsLink f) ps qs → links_of qs ≡ renamed_links f (links_of ps)
links_are f [] [] each = refl
links_are f [] (q ∷ qs) each = absurd each
links_are f (p ∷ ps) [] each = absurd each
links_are f (p ∷ ps) (q ∷ qs) each = each.0 ps qs (links_are f ps qs each.1)

pub branches_are : (f : ℕ → ℕ) (ps qs : List (Branch Expr)) → Each (IsBranch f) ps qs → branches_of qs ≡ renamed_branches f (branches_of ps)
branches_are f [] [] each = refl
branches_are f [] (q ∷ qs) each = absurd each
branches_are f (p ∷ ps) [] each = absurd each
branches_are f (p ∷ ps) (q ∷ qs) each = each.0 ps qs (branches_are f ps qs each.1)
