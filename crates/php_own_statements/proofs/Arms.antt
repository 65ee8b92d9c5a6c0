-- The arms of a `switch`, over plain values.
use Rattle.std.proofs.Common.{◌≡◌, List, [], ◌∷◌, sym, ap, ◌∙◌, Bor}
use Rattle.php_tree.specs.declared.expr.Expr.{Expr}
use Rattle.php_tree.specs.declared.stmt.Stmt.{Stmt}
use Rattle.php_tree.specs.declared.stmt.SwitchArm.{SwitchArm}
use Rattle.php_tree.specs.declared.stmt.SwitchArm.TheVariants as arm
use Rattle.php_tree.specs.Parts.{cases_without_bodies}
use Rattle.php_tree.specs.Renamed.{renamed_cases}
use Rattle.php_tree.specs.StatementOf.{case_of, cases_of}
use Rattle.php_tree.proofs.Statements.{case_of-Case, case_of-Default}
use Rattle.php_values.specs.declared.value.Value.{Value}
use Rattle.php_values.specs.Data.{Data, data_of}
use Rattle.php_world.specs.Naming.{Naming}
use Rattle.php_world.specs.declared.reading.Reading.TheVariants.{Plain}
use Rattle.php_meaning.specs.World.{World}
use Rattle.php_meaning.specs.Course.{Then, Does, Normal, hand}
use Rattle.php_meaning.specs.Expressions.{read}
use Rattle.php_meaning.specs.Statements.{statements, cases, default_of}
use Rattle.php_rest.specs.Named.{named, block_named, cases_named}
use Rattle.php_rest.specs.Rest.{rest}
use Rattle.php_rest.specs.Tails.{left_in}
use Rattle.php_rest.specs.declared.tail.Tail.{Tail}
use Rattle.php_rest.specs.declared.stmt_frame.StmtFrame.TheVariants as b
use Rattle.php_rest.specs.declared.frame.Frame.{Frame}
use Rattle.php_rest.specs.declared.frame.Frame.TheVariants.{OfStmt}

-- no default stands before another arm
pub default-behind : (all : List SwitchArm) (x : SwitchArm) (e : Expr) (ss : List Stmt) (more : Tail SwitchArm) → all ≡ x ∷ left_in more → x ≡ arm.Case e ss
    → (t : Naming) (w : World) (k : Then) → default_of (cases_named t (left_in more)) w k ≡ default_of (cases_named t all) w k
default-behind all x e ss more list is t w k =
    ap (λ f. default_of (cases_without_bodies (renamed_cases t.name (f (cases_of (left_in more))))) w k) (sym (ap case_of is ∙ case_of-Case e ss))
    ∙ ap (λ l. default_of (cases_named t l) w k) (sym list)

pub default-first : (all : List SwitchArm) (x : SwitchArm) (ss : List Stmt) (more : Tail SwitchArm) (tail : Tail Stmt) (s s' : List Frame)
    → all ≡ x ∷ left_in more → x ≡ arm.Default ss → left_in tail ≡ ss → s' ≡ OfStmt (b.Bodies more) ∷ s
    → (t : Naming) (w : World) (k : Then) → statements (block_named t (left_in tail)) w (rest t s' k) ≡ default_of (cases_named t all) w (rest t s k)
default-first all x ss more tail s s' list is tailed push t w k =
    (λ i. statements (block_named t (tailed i)) w (rest t (push i) k))
    ∙ ap (λ f. default_of (cases_without_bodies (renamed_cases t.name (f (cases_of (left_in more))))) w (rest t s k)) (sym (ap case_of is ∙ case_of-Default ss))
    ∙ ap (λ l. default_of (cases_named t l) w (rest t s k)) (sym list)

pub default-none : (all : List SwitchArm) → all ≡ [] → (t : Naming) (w : World) (k : Then) → hand Normal w k ≡ default_of (cases_named t all) w k
default-none all none t w k = ap (λ l. default_of (cases_named t l) w k) (sym none)

-- a default is not compared
pub cases-behind : (all : List SwitchArm) (x : SwitchArm) (ss : List Stmt) (more : Tail SwitchArm) → all ≡ x ∷ left_in more → x ≡ arm.Default ss
    → (t : Naming) (o : Does) (d : Data) (w : World) (k : Then) → cases (cases_named t (left_in more)) o d w k ≡ cases (cases_named t all) o d w k
cases-behind all x ss more list is t o d w k =
    ap (λ f. cases (cases_without_bodies (renamed_cases t.name (f (cases_of (left_in more))))) o d w k) (sym (ap case_of is ∙ case_of-Default ss))
    ∙ ap (λ l. cases (cases_named t l) o d w k) (sym list)

pub cases-none : (all : List SwitchArm) → all ≡ [] → (t : Naming) (o : Does) (d : Data) (w : World) (k : Then) → o w k ≡ cases (cases_named t all) o d w k
cases-none all none t o d w k = ap (λ l. cases (cases_named t l) o d w k) (sym none)

pub case-first-of : (all : List SwitchArm) (x : SwitchArm) (e : Expr) (e' : Expr) (ss : Bor (List Stmt)) (more : Tail SwitchArm) (every : Bor (List SwitchArm)) (v : Value) (s s' : List Frame)
    → all ≡ x ∷ left_in more → x ≡ arm.Case e ss.now → e' ≡ e → s' ≡ OfStmt (b.CaseOf v ss more every) ∷ s
    → (t : Naming) (w : World) (k : Then) → read Plain (named t e') w (rest t s' k) ≡ cases (cases_named t all) (default_of (cases_named t every.now)) (data_of v) w (rest t s k)
case-first-of all x e e' ss more every v s s' list is ee push t w k =
    (λ i. read Plain (named t (ee i)) w (rest t (push i) k))
    ∙ ap (λ f. cases (cases_without_bodies (renamed_cases t.name (f (cases_of (left_in more))))) (default_of (cases_named t every.now)) (data_of v) w (rest t s k)) (sym (ap case_of is ∙ case_of-Case e ss.now))
    ∙ ap (λ l. cases (cases_named t l) (default_of (cases_named t every.now)) (data_of v) w (rest t s k)) (sym list)
