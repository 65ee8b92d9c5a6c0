-- Steps of statements go on under a frame, over plain values.
use Rattle.std.proofs.Common.{◌≡◌, ℕ, List, [], ◌∷◌, refl, sym, ap, ◌∙◌, Bor, Bool, true, drop}
use Rattle.order_map.specs.declared.key.Key.{Key}
use Rattle.order_map.specs.Arrays.{pairs_of}
use Rattle.php_tree.specs.declared.expr.Expr.{Expr}
use Rattle.php_tree.specs.declared.stmt.Stmt.{Stmt}
use Rattle.php_tree.specs.declared.stmt.IfArm.{IfArm, out-IfArm}
use Rattle.php_tree.specs.declared.stmt.SwitchArm.{SwitchArm}
use Rattle.php_tree.specs.declared.stmt.SwitchArm.TheVariants as arm
use Rattle.php_tree.specs.Statements.{Cases}
use Rattle.php_tree.specs.Statements as tree
use Rattle.php_tree.specs.ExpressionOf.{expression_of}
use Rattle.php_tree.specs.StatementOf.{arm_of, arms_of, case_of, cases_of, statements_of}
use Rattle.php_tree.specs.Parts.{arms_without_bodies, cases_without_bodies}
use Rattle.php_tree.specs.Renamed.{renamed_arms, renamed_cases, renamed_var}
use Rattle.php_tree.proofs.Statements.{arm_of-Arm, case_of-Case, case_of-Default}
use Rattle.app_load.specs.Findings.{arm_body}
use Rattle.app_load.proofs.Walks.{arm_is}
use Rattle.php_values.specs.declared.value.Value.{Value}
use Rattle.php_values.specs.declared.value.ArrayValue.{ArrayValue}
use Rattle.php_values.specs.declared.value.Value.TheVariants as kind
use Rattle.php_values.specs.declared.value.Value.{fold-roll-Value}
use Rattle.php_values.specs.declared.value.Value.TheOpen.{Value-F}
use Rattle.php_values.specs.Data.{Data, ArrayData, null, truth, data_of, data_step, array_step}
use Rattle.php_values.proofs.Datas.{data-List}
use Rattle.php_world.specs.Naming.{Naming}
use Rattle.php_world.specs.Variables.{Variables}
use Rattle.php_world.specs.declared.store.Store.{Store}
use Rattle.php_world.specs.declared.reading.Reading.TheVariants.{Plain}
use Rattle.php_meaning.specs.World.{World, at_line, with_vars}
use Rattle.php_meaning.specs.Course.{Ticks, Turns, Then, Does, Gives, on_value}
use Rattle.php_meaning.specs.Calls.{assigned}
use Rattle.php_meaning.specs.Expressions.{read}
use Rattle.php_meaning.specs.Statements.{statements, last_of, turn, key_assigned, looped, bodies, arms}
use Rattle.php_rest.specs.Named.{named, all_named, block_named, arms_named, cases_named}
use Rattle.php_rest.specs.Pairs.{pairs_left}
use Rattle.php_rest.specs.Tails.{left_in}
use Rattle.php_rest.specs.Rest.{rest, after_stmt, loop_named, loop_again, loop_tested, each_data, each_left}
use Rattle.php_rest.specs.declared.owner.Scene.{Scene}
use Rattle.php_rest.specs.declared.tail.Tail.{Tail}
use Rattle.php_rest.specs.declared.turns.Turns as code
use Rattle.php_rest.specs.declared.turns.Each.{Each}
use Rattle.php_rest.specs.declared.turns.Loop.{Loop}
use Rattle.php_rest.specs.declared.turns.Loop.TheVariants as loop
use Rattle.php_rest.specs.declared.stmt_frame.StmtFrame.{StmtFrame}
use Rattle.php_rest.specs.declared.stmt_frame.StmtFrame.TheVariants as b
use Rattle.php_rest.specs.declared.frame.Frame.{Frame}
use Rattle.php_rest.specs.declared.frame.Frame.TheVariants.{OfStmt}
use Rattle.php_statement_steps.specs.Arms.{arm_test}
use Rattle.php_statement_steps.specs.Standing.{stands}

-- ---- foreach

pub each-list : (t : Naming) (e : Each) (v : Value) (a : ArrayValue) (p : List (Key × Value)) → v ≡ kind.List a → p ≡ pairs_of a.map.value
    → (w : World) (k : Then) → each_left t e p w k ≡ each_data t e (data_of v) w k
each-list t e v a p is ep w k = (λ i. each_left t e (ep i) w k) ∙ ap (λ d. each_data t e d w k) (sym (ap data_of is ∙ data-List a))

pub each-turn : (t : Naming) (e : Each) (ps : List (Key × Value)) (i : Key) (d item : Value) (v0 v1 v2 : Variables) (turns : code.Turns) (s s' : List Frame) (body : Tail Stmt) (w : World) (k : Then)
    → ps ≡ (i, d) ∷ drop 1 ps → data_of item ≡ data_of d → v1 ≡ assigned (t.name e.element) (data_of item) v0
    → with_vars v2 w ≡ key_assigned (renamed_var t.name e.key) i (with_vars v1 w)
    → pairs_left turns ≡ drop 1 ps → left_in body ≡ e.body.now → s' ≡ OfStmt (b.EachBody e turns) ∷ s
    → Ticks (with_vars v0 w) (statements (block_named t (left_in body)) (with_vars v2 w) (rest t s' k)) ≡ each_left t e ps (with_vars v0 w) (rest t s k)
each-turn t e ps i d item v0 v1 v2 turns s s' body w k list same set keyed behind whole push =
    let element = set ∙ ap (λ z. assigned (t.name e.element) z v0) same in
    let world = keyed ∙ (λ j. key_assigned (renamed_var t.name e.key) i (with_vars (element j) w)) in
    let frames = (λ j. rest t (push j) k) ∙ (λ j. looped (each_left t e (behind j)) (rest t s k)) in
    (λ j. Ticks (with_vars v0 w) (statements (block_named t (whole j)) (world j) (frames j)))
    ∙ ap (λ l. each_left t e l (with_vars v0 w) (rest t s k)) (sym list)

-- ---- loops

pub again-do : (o : Loop) (body : Bor (List Stmt)) (a : Bor Expr) (l : ℕ) (e' : Expr) (s s' : List Frame) (here there : Scene)
    → o ≡ loop.Do body a l → e' ≡ a.now → s' ≡ OfStmt (b.Test o) ∷ s → ((t : Naming) (v : Store) (w : World) → stands t v there w ≡ at_line l (stands t v here w))
    → (v : Store) (t : Naming) (w : World) (k : Then) → read Plain (named t e') (stands t v there w) (rest t s' k) ≡ loop_again (loop_named t o) (stands t v here w) (rest t s k)
again-do o body a l e' s s' here there is ee push place v t w k =
    (λ i. read Plain (named t (ee i)) (place t v w i) (rest t (push i) k))
    ∙ (λ i. read Plain (named t a.now) (at_line l (stands t v here w)) (on_value (loop_tested (loop_named t (is i))) (rest t s k)))
    ∙ ap (λ x. loop_again (loop_named t x) (stands t v here w) (rest t s k)) (sym is)

pub again-for : (o : Loop) (ys zs : Bor (List Expr)) (ss : Bor (List Stmt)) (l : ℕ) (tail : Tail Expr) (here there : Scene)
    → o ≡ loop.For ys zs ss l → left_in tail ≡ zs.now → ((t : Naming) (v : Store) (w : World) → stands t v there w ≡ at_line l (stands t v here w))
    → (v : Store) (t : Naming) (w : World) (k : Then) → last_of (all_named t (left_in tail)) null (λ e. Turns (loop_named t o)) (stands t v there w) k ≡ loop_again (loop_named t o) (stands t v here w) k
again-for o ys zs ss l tail here there is tailed place v t w k =
    (λ i. last_of (all_named t (tailed i)) null (λ e. Turns (loop_named t (is i))) (place t v w i) k)
    ∙ ap (λ x. loop_again (loop_named t x) (stands t v here w) k) (sym is)

pub turn-while : (o : Loop) (a : Bor Expr) (body : Bor (List Stmt)) (l : ℕ) (e' : Expr) (s s' : List Frame) (here there : Scene)
    → o ≡ loop.While a body l → e' ≡ a.now → s' ≡ OfStmt (b.Test o) ∷ s → ((t : Naming) (v : Store) (w : World) → stands t v there w ≡ at_line l (stands t v here w))
    → (v : Store) (t : Naming) (w : World) (k : Then) → read Plain (named t e') (stands t v there w) (rest t s' k) ≡ turn (loop_named t o) (stands t v here w) (rest t s k)
turn-while o a body l e' s s' here there is ee push place v t w k =
    (λ i. read Plain (named t (ee i)) (place t v w i) (rest t (push i) k))
    ∙ (λ i. read Plain (named t a.now) (at_line l (stands t v here w)) (on_value (loop_tested (loop_named t (is i))) (rest t s k)))
    ∙ ap (λ x. turn (loop_named t x) (stands t v here w) (rest t s k)) (sym is)

pub turn-do : (o : Loop) (body : Bor (List Stmt)) (a : Bor Expr) (l : ℕ) (tail : Tail Stmt) (s s' : List Frame)
    → o ≡ loop.Do body a l → left_in tail ≡ body.now → s' ≡ OfStmt (b.Body o) ∷ s
    → (t : Naming) (w : World) (k : Then) → statements (block_named t (left_in tail)) w (rest t s' k) ≡ turn (loop_named t o) w (rest t s k)
turn-do o body a l tail s s' is tailed push t w k =
    (λ i. statements (block_named t (tailed i)) w (rest t (push i) k))
    ∙ (λ i. statements (block_named t body.now) w (looped (loop_again (loop_named t (is i))) (rest t s k)))
    ∙ ap (λ x. turn (loop_named t x) w (rest t s k)) (sym is)

data-Bool : (x : Bool) → data_of (kind.Bool x) ≡ truth x
data-Bool x = ap data_of (sym (kind.rolls-Bool x)) ∙ fold-roll-Value Data ArrayData data_step array_step (Value-F.Bool x)

pub turn-for : (o : Loop) (ys zs : Bor (List Expr)) (ss : Bor (List Stmt)) (l : ℕ) (tail : Tail Expr) (here there : Scene)
    → o ≡ loop.For ys zs ss l → left_in tail ≡ ys.now → ((t : Naming) (v : Store) (w : World) → stands t v there w ≡ at_line l (stands t v here w))
    → (v : Store) (t : Naming) (w : World) (k : Then) → last_of (all_named t (left_in tail)) (data_of (kind.Bool true)) (loop_tested (loop_named t o)) (stands t v there w) k ≡ turn (loop_named t o) (stands t v here w) k
turn-for o ys zs ss l tail here there is tailed place v t w k =
    (λ i. last_of (all_named t (tailed i)) (data-Bool true i) (loop_tested (loop_named t (is i))) (place t v w i) k)
    ∙ ap (λ x. turn (loop_named t x) (stands t v here w) k) (sym is)

pub for-given : (f : StmtFrame) (es : Tail Expr) (o : Loop) (v : Value) → f ≡ b.ForList es o
    → (t : Naming) (w : World) (k : Then) → last_of (all_named t (left_in es)) (data_of v) (λ e. Turns (loop_named t o)) w k ≡ after_stmt t f k (Gives (data_of v)) w
for-given f es o v is t w k = ap (λ x. after_stmt t x k (Gives (data_of v)) w) (sym is)

-- ---- arms of `if`

pub arm-seen : (x : IfArm) (e : Expr) (ss : List Stmt) → e ≡ arm_test (out-IfArm x) → ss ≡ arm_body (out-IfArm x) → arm_of x ≡ tree.arm (expression_of e) (statements_of ss)
arm-seen x e ss ie is =
    ap arm_of (arm_is x) ∙ arm_of-Arm (arm_test (out-IfArm x)) (arm_body (out-IfArm x)) ∙ ap (λ z. tree.arm (expression_of z) (statements_of (arm_body (out-IfArm x)))) (sym ie) ∙ ap (λ z. tree.arm (expression_of e) (statements_of z)) (sym is)

pub arms-on : (all : List IfArm) (x : IfArm) (test : Bor Expr) (test' : Expr) (body : Bor (List Stmt)) (more : Tail IfArm) (others : Bor (List Stmt)) (s s' : List Frame)
    → all ≡ x ∷ left_in more → arm_of x ≡ tree.arm (expression_of test.now) (statements_of body.now) → test' ≡ test.now → s' ≡ OfStmt (b.Choose body more others) ∷ s
    → (t : Naming) (w : World) (k : Then) → read Plain (named t test') w (rest t s' k) ≡ arms (arms_named t all) (statements (block_named t others.now)) w (rest t s k)
arms-on all x test test' body more others s s' list is et push t w k =
    (λ i. read Plain (named t (et i)) w (rest t (push i) k))
    ∙ ap (λ f. arms (arms_without_bodies (renamed_arms t.name (f (arms_of (left_in more))))) (statements (block_named t others.now)) w (rest t s k)) (sym is)
    ∙ ap (λ l. arms (arms_named t l) (statements (block_named t others.now)) w (rest t s k)) (sym list)

-- ---- switch

pub case-bodies : (all : List SwitchArm) (x : SwitchArm) (e : Expr) (ss : List Stmt) (more : Tail SwitchArm) (tail : Tail Stmt) (s s' : List Frame)
    → all ≡ x ∷ left_in more → x ≡ arm.Case e ss → left_in tail ≡ ss → s' ≡ OfStmt (b.Bodies more) ∷ s
    → (t : Naming) (w : World) (k : Then) → statements (block_named t (left_in tail)) w (rest t s' k) ≡ bodies (cases_named t all) w (rest t s k)
case-bodies all x e ss more tail s s' list is tailed push t w k =
    (λ i. statements (block_named t (tailed i)) w (rest t (push i) k))
    ∙ ap (λ f. bodies (cases_without_bodies (renamed_cases t.name (f (cases_of (left_in more))))) w (rest t s k)) (sym (ap case_of is ∙ case_of-Case e ss))
    ∙ ap (λ l. bodies (cases_named t l) w (rest t s k)) (sym list)

pub default-bodies : (all : List SwitchArm) (x : SwitchArm) (ss : List Stmt) (more : Tail SwitchArm) (tail : Tail Stmt) (s s' : List Frame)
    → all ≡ x ∷ left_in more → x ≡ arm.Default ss → left_in tail ≡ ss → s' ≡ OfStmt (b.Bodies more) ∷ s
    → (t : Naming) (w : World) (k : Then) → statements (block_named t (left_in tail)) w (rest t s' k) ≡ bodies (cases_named t all) w (rest t s k)
default-bodies all x ss more tail s s' list is tailed push t w k =
    (λ i. statements (block_named t (tailed i)) w (rest t (push i) k))
    ∙ ap (λ f. bodies (cases_without_bodies (renamed_cases t.name (f (cases_of (left_in more))))) w (rest t s k)) (sym (ap case_of is ∙ case_of-Default ss))
    ∙ ap (λ l. bodies (cases_named t l) w (rest t s k)) (sym list)
