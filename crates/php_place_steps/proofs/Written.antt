-- Nodes that write go on under a frame, over plain values.
use Rattle.std.proofs.Common.{◌≡◌, ℕ, List, [], ◌∷◌, ◌++◌, refl, sym, ap, ◌∙◌, Bor}
use Rattle.php_tree.specs.declared.expr.AssignOp.{AssignOp}
use Rattle.php_tree.specs.declared.expr.StepOp.{StepOp}
use Rattle.php_tree.specs.declared.expr.Access.{Access}
use Rattle.php_tree.specs.declared.expr.Access.TheVariants as a
use Rattle.php_tree.specs.declared.expr.Expr.{Expr}
use Rattle.php_tree.specs.declared.expr.Expr.TheVariants as x
use Rattle.php_tree.specs.Expressions as e
use Rattle.php_tree.specs.Expressions.{Expression, Accesses}
use Rattle.php_tree.specs.Renamed.{renamed}
use Rattle.php_tree.proofs.Expressions as seen
use Rattle.php_world.specs.Naming.{Naming}
use Rattle.php_values.specs.declared.value.Value.{Value}
use Rattle.php_values.specs.Data.{data_of}
use Rattle.php_world.specs.Steps.{at}
use Rattle.php_world.specs.View.{path_of, step_of}
use Rattle.php_world.specs.declared.step.Step.TheVariants.{At}
use Rattle.php_world.specs.Variables.{value_of, referred}
use Rattle.php_world.specs.declared.step.Step.{Step}
use Rattle.php_world.specs.declared.reading.Reading.{Reading}
use Rattle.php_world.specs.declared.reading.Reading.TheVariants.{Plain}
use Rattle.php_meaning.specs.World.{World, Name, with_vars}
use Rattle.php_meaning.specs.Course.{Then, Gives, give, on_value}
use Rattle.php_meaning.specs.Stores.{step_value, assign_value, unset_at}
use Rattle.php_meaning.specs.Statements.{all_unset}
use Rattle.php_meaning.specs.Expressions.{read, steps}
use Rattle.php_rest.specs.declared.now.Ending.{Ending}
use Rattle.php_rest.specs.declared.now.Ending.TheVariants as ending
use Rattle.php_rest.specs.declared.place_frame.PlaceFrame.{PlaceFrame}
use Rattle.php_rest.specs.declared.place_frame.PlaceFrame.TheVariants as p
use Rattle.php_rest.specs.declared.place_frame.Target.{Target}
use Rattle.php_rest.specs.declared.place_frame.Target.TheVariants as target
use Rattle.php_rest.specs.declared.tail.Tail.{Tail}
use Rattle.php_rest.specs.declared.frame.Frame.{Frame}
use Rattle.php_rest.specs.declared.frame.Frame.TheVariants.{OfPlace}
use Rattle.php_rest.specs.Tails.{left_in}
use Rattle.php_rest.specs.Named.{named, all_named, accesses_named}
use Rattle.php_rest.specs.Rest.{rest, used, after_place, signal_of}
use Rattle.php_place_steps.specs.Nodes.{assigns, step_node}

pub keys-index : (i : Expr) (all : List (Access Expr)) (more : Tail (Access Expr)) (path : List Step) (to : Target) (s s' : List Frame)
    → all ≡ a.Index i ∷ left_in more → s' ≡ OfPlace (p.KeyIn path more to) ∷ s
    → (t : Naming) (w : World) (k : Then) → read Plain (named t i) w (rest t s' k) ≡ steps (accesses_named t all) (path_of path) (used t to) w (rest t s k)
keys-index i all more path to s s' is push t w k =
    (λ j. read Plain (named t i) w (rest t (push j) k)) ∙ ap (λ l. steps (accesses_named t l) (path_of path) (used t to) w (rest t s k)) (sym is)

pub then-assign : (to : Target) (n : ℕ) (op : AssignOp) (v : Bor Expr) (v' : Expr) (path : List Step) (s s' : List Frame)
    → to ≡ target.Assign n op v → v' ≡ v.now → s' ≡ OfPlace (p.AssignTo n path op) ∷ s
    → (t : Naming) (w : World) (k : Then) → read Plain (named t v') w (rest t s' k) ≡ used t to (path_of path) w (rest t s k)
then-assign to n op v v' path s s' is ev push t w k = (λ i. read Plain (named t (ev i)) w (rest t (push i) k)) ∙ ap (λ x. used t x (path_of path) w (rest t s k)) (sym is)

pub then-unset : (to : Target) (n : ℕ) (more : Tail Expr) (path path' : List Step) → to ≡ target.Unset n more → path' ≡ path
    → (t : Naming) (w : World) (k : Then) → unset_at (t.name n) (path_of path') (all_unset (all_named t (left_in more))) w k ≡ used t to (path_of path) w k
then-unset to n more path path' is ep t w k =
    (λ i. unset_at (t.name n) (path_of (ep i)) (all_unset (all_named t (left_in more))) w k) ∙ ap (λ x. used t x (path_of path) w k) (sym is)

path-on : (path : List Step) (v : Value) → path_of (path ++ At v ∷ []) ≡ path_of path ++ at (data_of v) ∷ []
path-on [] v = refl
path-on (x ∷ path) v = ap (λ l. step_of x ∷ l) (path-on path v)

-- a key is there
pub key-given : (f : PlaceFrame) (path path' : List Step) (v : Value) (more : Tail (Access Expr)) (to : Target) → f ≡ p.KeyIn path more to → path' ≡ path ++ At v ∷ []
    → (t : Naming) (w : World) (k : Then) → steps (accesses_named t (left_in more)) (path_of path') (used t to) w k ≡ after_place t f k (Gives (data_of v)) w
key-given f path path' v more to is ep t w k =
    (λ i. steps (accesses_named t (left_in more)) ((ap path_of ep ∙ path-on path v) i) (used t to) w k) ∙ ap (λ x. after_place t x k (Gives (data_of v)) w) (sym is)

-- the keys behind a step without one
pub keys-behind : (f : PlaceFrame) (path : List Step) (more : Tail (Access Expr)) (to : Target) (x : Ending) → f ≡ p.KeysBehind path more to → x ≡ ending.Normal
    → (t : Naming) (w : World) (k : Then) → steps (accesses_named t (left_in more)) (path_of path) (used t to) w k ≡ after_place t f k (signal_of x) w
keys-behind f path more to x is normal t w k = λ i. after_place t (sym is i) k (signal_of (sym normal i)) w

-- ---- assignments

named-var : (t : Naming) (z : Expr) (n l : ℕ) → z ≡ x.Var n l → named t z ≡ e.var (t.name n) l
named-var t z n l is = ap (λ y. named t y) is ∙ ap (renamed t.name) (seen.expression_of-Var n l)

named-post : (t : Naming) (z h h' : Expr) (xs : List (Access Expr)) (n l m : ℕ) → z ≡ x.Post h xs l → h' ≡ h → h' ≡ x.Var n m → named t z ≡ e.post (e.var (t.name n) m) (accesses_named t xs) l
named-post t z h h' xs n l m is eh var =
    ap (λ y. named t y) is ∙ ap (renamed t.name) (seen.expression_of-Post h xs l)
    ∙ ap (λ y. e.post y (accesses_named t xs) l) (named-var t h n m (sym eh ∙ var))

pub assign-var : (z : Expr) (n l : ℕ) (op : AssignOp) (v v' : Expr) (path : List Step) (s s' : List Frame)
    → z ≡ x.Var n l → v' ≡ v → path ≡ [] → s' ≡ OfPlace (p.AssignTo n path op) ∷ s
    → (t : Naming) (w : World) (k : Then) → read Plain (named t v') w (rest t s' k) ≡ assigns (named t z) op (named t v) w (rest t s k)
assign-var z n l op v v' path s s' is ev empty push t w k =
    (λ i. read Plain (named t (ev i)) w (rest t (push i) k))
    ∙ (λ i. read Plain (named t v) w (on_value (assign_value (t.name n) (path_of (empty i)) op) (rest t s k)))
    ∙ ap (λ y. assigns y op (named t v) w (rest t s k)) (sym (named-var t z n l is))

pub assign-post : (z h h' : Expr) (xs : List (Access Expr)) (tail : Tail (Access Expr)) (n l m : ℕ) (op : AssignOp) (v : Bor Expr) (path : List Step)
    → z ≡ x.Post h xs l → h' ≡ h → h' ≡ x.Var n m → left_in tail ≡ xs → path ≡ []
    → (t : Naming) (w : World) (k : Then) → steps (accesses_named t (left_in tail)) (path_of path) (used t (target.Assign n op v)) w k ≡ assigns (named t z) op (named t v.now) w k
assign-post z h h' xs tail n l m op v path is eh var tailed empty t w k =
    (λ i. steps (accesses_named t (tailed i)) (path_of (empty i)) (used t (target.Assign n op v)) w k)
    ∙ ap (λ y. assigns y op (named t v.now) w k) (sym (named-post t z h h' xs n l m is eh var))

-- the line of an assignment and how it is read do not count
assign-same : (how : Reading) (z : Expression Name) (op : AssignOp) (y : Expression Name) (l : ℕ) (w : World) (k : Then) → read how (e.assign z op y l) w k ≡ assigns z op y w k
assign-same how (e.var n i) op y l w k = refl
assign-same how (e.post (e.var n i) xs j) op y l w k = refl
assign-same how (e.post z xs j) op y l w k = refl
assign-same how z op y l w k = refl

pub begun-assign : (how : Reading) (z place place' v : Expr) (op : AssignOp) (l : ℕ) → z ≡ x.Assign place op v l → place' ≡ place
    → (t : Naming) (w : World) (k : Then) → assigns (named t place') op (named t v) w k ≡ read how (named t z) w k
begun-assign how z place place' v op l is ep t w k =
    (λ i. assigns (named t (ep i)) op (named t v) w k)
    ∙ sym (assign-same how (named t place) op (named t v) l w k)
    ∙ ap (λ y. read how y w k) (sym (ap (λ y. named t y) is ∙ ap (renamed t.name) (seen.expression_of-Assign place op v l)))

-- ---- steps

pub step-post : (z h h' : Expr) (xs : List (Access Expr)) (tail : Tail (Access Expr)) (n l m : ℕ) (op : StepOp) (path : List Step)
    → z ≡ x.Post h xs l → h' ≡ h → h' ≡ x.Var n m → left_in tail ≡ xs → path ≡ []
    → (t : Naming) (w : World) (k : Then) → steps (accesses_named t (left_in tail)) (path_of path) (used t (target.Step n op)) w k ≡ step_node op (named t z) w k
step-post z h h' xs tail n l m op path is eh var tailed empty t w k =
    (λ i. steps (accesses_named t (tailed i)) (path_of (empty i)) (used t (target.Step n op)) w k)
    ∙ ap (λ y. step_node op y w k) (sym (named-post t z h h' xs n l m is eh var))

pub step-var : (z : Expr) (n l : ℕ) (op : StepOp) → z ≡ x.Var n l
    → (t : Naming) (w : World) (k : Then) → step_value (t.name n) [] op w k ≡ step_node op (named t z) w k
step-var z n l op is t w k = ap (λ y. step_node op y w k) (sym (named-var t z n l is))

step-same : (how : Reading) (op : StepOp) (z : Expression Name) (l : ℕ) (w : World) (k : Then) → read how (e.step op z l) w k ≡ step_node op z w k
step-same how op (e.var n i) l w k = refl
step-same how op (e.post (e.var n i) xs j) l w k = refl
step-same how op (e.post z xs j) l w k = refl
step-same how op z l w k = refl

pub begun-step : (how : Reading) (z place place' : Expr) (op : StepOp) (l : ℕ) → z ≡ x.Step op place l → place' ≡ place
    → (t : Naming) (w : World) (k : Then) → step_node op (named t place') w k ≡ read how (named t z) w k
begun-step how z place place' op l is ep t w k =
    (λ i. step_node op (named t (ep i)) w k)
    ∙ sym (step-same how op (named t place) l w k)
    ∙ ap (λ y. read how y w k) (sym (ap (λ y. named t y) is ∙ ap (renamed t.name) (seen.expression_of-Step op place l)))

-- ---- references

pub begun-reference : (how : Reading) (z : Expr) (n m l : ℕ) → z ≡ x.AssignReference n m l
    → (t : Naming) (w : World) (k : Then) → give (value_of (t.name m) w.vars) (with_vars (referred (t.name n) (t.name m) w.vars) w) k ≡ read how (named t z) w k
begun-reference how z n m l is t w k =
    ap (λ y. read how y w k) (sym (ap (λ y. named t y) is ∙ ap (renamed t.name) (seen.expression_of-AssignReference n m l)))

-- ---- removals

pub unset-post : (all : List Expr) (z h h' : Expr) (xs : List (Access Expr)) (tail : Tail (Access Expr)) (n l m : ℕ) (more : Tail Expr) (path : List Step)
    → all ≡ z ∷ left_in more → z ≡ x.Post h xs l → h' ≡ h → h' ≡ x.Var n m → left_in tail ≡ xs → path ≡ []
    → (t : Naming) (w : World) (k : Then) → steps (accesses_named t (left_in tail)) (path_of path) (used t (target.Unset n more)) w k ≡ all_unset (all_named t all) w k
unset-post all z h h' xs tail n l m more path list is eh var tailed empty t w k =
    (λ i. steps (accesses_named t (tailed i)) (path_of (empty i)) (used t (target.Unset n more)) w k)
    ∙ ap (λ y. all_unset (e.expression y (all_named t (left_in more))) w k) (sym (named-post t z h h' xs n l m is eh var))
    ∙ ap (λ y. all_unset (all_named t y) w k) (sym list)
