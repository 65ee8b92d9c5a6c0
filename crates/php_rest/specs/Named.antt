-- Trees of the code with the names of their variables, and without the bodies of the functions that stand in them.
use Rattle.std.specs.Prelude.{ℕ, List, map}
use Rattle.php_tree.specs.declared.expr.Expr.{Expr}
use Rattle.php_tree.specs.declared.stmt.Stmt.{Stmt}
use Rattle.php_tree.specs.declared.stmt.IfArm.{IfArm}
use Rattle.php_tree.specs.declared.stmt.SwitchArm.{SwitchArm}
use Rattle.php_tree.specs.declared.decl.FunDecl.{FunDecl, out-FunDecl}
use Rattle.php_tree.specs.declared.expr.ChainOp.{ChainOp}
use Rattle.php_tree.specs.declared.expr.QuoteKey.{QuoteKey}
use Rattle.php_tree.specs.declared.expr.QuotePart.{QuotePart}
use Rattle.php_tree.specs.declared.expr.Item.{Item}
use Rattle.php_tree.specs.declared.expr.Branch.{Branch}
use Rattle.php_tree.specs.declared.expr.Access.{Access}
use Rattle.php_tree.specs.Expressions.{Key, Expression, Expressions, QuoteParts, ArrayItems, Accesses, Links, Branches}
use Rattle.php_tree.specs.ExpressionOf.{key_of, expression_of, expressions_of, parts_of, items_of, accesses_of, links_of, branches_of}
use Rattle.php_tree.specs.Statements.{Head, Statement, Statements, Arms, Cases}
use Rattle.php_tree.specs.StatementOf.{parameter_of, statement_of, statements_of, arms_of, cases_of}
use Rattle.php_tree.specs.Parts.{without_bodies, all_without_bodies, arms_without_bodies, cases_without_bodies}
use Rattle.php_tree.specs.Renamed.{renamed_head, renamed_statement, renamed_statements, renamed_arms, renamed_cases, renamed_key, renamed, renamed_all, renamed_parts, renamed_items, renamed_accesses, renamed_links, renamed_branches}
use Rattle.php_world.specs.Naming.{Naming}
use Rattle.php_meaning.specs.World.{Name}

abbrev pub named : Naming → Expr → Expression Name
named t e = renamed t.name (expression_of e)

abbrev pub all_named : Naming → List Expr → Expressions Name
all_named t es = renamed_all t.name (expressions_of es)

abbrev pub parts_named : Naming → List (QuotePart Expr) → QuoteParts Name
parts_named t ps = renamed_parts t.name (parts_of ps)

abbrev pub items_named : Naming → List (Item Expr) → ArrayItems Name
items_named t es = renamed_items t.name (items_of es)

abbrev pub accesses_named : Naming → List (Access Expr) → Accesses Name
accesses_named t es = renamed_accesses t.name (accesses_of es)

abbrev pub links_named : Naming → List (ChainOp × Expr) → Links Name
links_named t es = renamed_links t.name (links_of es)

abbrev pub branches_named : Naming → List (Branch Expr) → Branches Name
branches_named t es = renamed_branches t.name (branches_of es)

abbrev pub key_named : Naming → QuoteKey → Key Name
key_named t k = renamed_key t.name (key_of k)

abbrev pub stmt_named : Naming → Stmt → Statement Name
stmt_named t s = without_bodies (renamed_statement t.name (statement_of s))

abbrev pub block_named : Naming → List Stmt → Statements Name
block_named t ss = all_without_bodies (renamed_statements t.name (statements_of ss))

abbrev pub arms_named : Naming → List IfArm → Arms Name
arms_named t xs = arms_without_bodies (renamed_arms t.name (arms_of xs))

abbrev pub cases_named : Naming → List SwitchArm → Cases Name
cases_named t cs = cases_without_bodies (renamed_cases t.name (cases_of cs))

-- what a function says before its body
abbrev pub head_in : FunDecl → Head ℕ
head_in f = record { name = (out-FunDecl f).name; parameters = map parameter_of (out-FunDecl f).params; gives = (out-FunDecl f).«result»; line = (out-FunDecl f).line }

abbrev pub head_named : Naming → FunDecl → Head Name
head_named t f = renamed_head t.name (head_in f)
