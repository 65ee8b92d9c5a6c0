-- An element of a list of a tree with its variables changed. Such an element is no tree by itself: it is seen in front of others.
use Rattle.std.specs.Prelude.{◌≡◌, ℕ, List, ◌∷◌}
use Rattle.php_tree.specs.declared.expr.ChainOp.{ChainOp}
use Rattle.php_tree.specs.declared.expr.QuotePart.{QuotePart}
use Rattle.php_tree.specs.declared.expr.Item.{Item}
use Rattle.php_tree.specs.declared.expr.Branch.{Branch}
use Rattle.php_tree.specs.declared.expr.Access.{Access}
use Rattle.php_tree.specs.declared.expr.Expr.{Expr}
use Rattle.php_tree.specs.ExpressionOf.{parts_of, items_of, accesses_of, links_of, branches_of}
use Rattle.php_tree.specs.Renamed.{renamed_parts, renamed_items, renamed_accesses, renamed_links, renamed_branches}

abbrev pub IsPart : (ℕ → ℕ) → QuotePart Expr → QuotePart Expr → Type 0
IsPart f p q = (ps qs : List (QuotePart Expr)) → parts_of qs ≡ renamed_parts f (parts_of ps) → parts_of (q ∷ qs) ≡ renamed_parts f (parts_of (p ∷ ps))

abbrev pub IsItem : (ℕ → ℕ) → Item Expr → Item Expr → Type 0
IsItem f p q = (ps qs : List (Item Expr)) → items_of qs ≡ renamed_items f (items_of ps) → items_of (q ∷ qs) ≡ renamed_items f (items_of (p ∷ ps))

abbrev pub IsAccess : (ℕ → ℕ) → Access Expr → Access Expr → Type 0
IsAccess f p q = (ps qs : List (Access Expr)) → accesses_of qs ≡ renamed_accesses f (accesses_of ps) → accesses_of (q ∷ qs) ≡ renamed_accesses f (accesses_of (p ∷ ps))

abbrev pub IsLink : (ℕ → ℕ) → ChainOp × Expr → ChainOp × Expr → Type 0
IsLink f p q = (ps qs : List (ChainOp × Expr)) → links_of qs ≡ renamed_links f (links_of ps) → links_of (q ∷ qs) ≡ renamed_links f (links_of (p ∷ ps))

abbrev pub IsBranch : (ℕ → ℕ) → Branch Expr → Branch Expr → Type 0
IsBranch f p q = (ps qs : List (Branch Expr)) → branches_of qs ≡ renamed_branches f (branches_of ps) → branches_of (q ∷ qs) ≡ renamed_branches f (branches_of (p ∷ ps))
