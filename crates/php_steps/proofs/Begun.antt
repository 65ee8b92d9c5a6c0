-- An expression begins under a frame, over plain values.
use Rattle.std.proofs.Common.{◌≡◌, ℕ, List, [], ◌∷◌, refl, sym, ap, ◌∙◌, Bor, Bool, pos, not}
use Rattle.std.specs.Prelude.{codes, true, false, ◌&&◌}
use Rattle.php_tree.specs.declared.name.ClassName.{ClassName}
use Rattle.php_tree.specs.declared.expr.ChainOp.{ChainOp}
use Rattle.php_tree.specs.declared.expr.CompareOp.{CompareOp}
use Rattle.php_tree.specs.declared.expr.UnaryOp.{UnaryOp}
use Rattle.php_tree.specs.declared.expr.Branch.{Branch}
use Rattle.php_tree.specs.declared.expr.Access.{Access}
use Rattle.php_tree.specs.declared.expr.Expr.{Expr}
use Rattle.php_tree.specs.declared.expr.Expr.TheVariants as x
use Rattle.php_tree.specs.Expressions as e
use Rattle.php_tree.specs.Expressions.{Expression, Accesses}
use Rattle.php_tree.specs.ExpressionOf.{expression_of, accesses_of}
use Rattle.php_tree.specs.Place.{is_root, only_steps, is_place}
use Rattle.php_tree.specs.Renamed.{renamed, renamed_accesses}
use Rattle.php_tree.proofs.Expressions as seen
use Rattle.php_values.specs.Data.{int, truth, data_of}
use Rattle.php_values.specs.Convert.{truth_of}
use Rattle.php_world.specs.Naming.{Naming}
use Rattle.php_world.specs.declared.reading.Reading.{Reading}
use Rattle.php_world.specs.declared.reading.Reading.TheVariants.{Plain, Quiet}
use Rattle.php_meaning.specs.World.{World, Name}
use Rattle.php_meaning.specs.Course.{Then, give, on_value}
use Rattle.php_meaning.specs.Refusals.{throws, plain_error}
use Rattle.php_meaning.specs.Operators.{as_text, put_out, before_value, compare_right}
use Rattle.php_meaning.specs.Expressions.{read, links, branches, accessed, reading_of, exit_value, unless_null}
use Rattle.php_rest.specs.declared.expr_frame.ExprFrame.TheVariants as f
use Rattle.php_rest.specs.declared.frame.Frame.{Frame}
use Rattle.php_rest.specs.declared.frame.Frame.TheVariants.{OfExpr}
use Rattle.php_rest.specs.Named.{named, accesses_named, links_named, branches_named}
use Rattle.php_rest.specs.Rest.{rest}
use Rattle.php_steps.proofs.Meanings.{read-Empty, read-ExitWith, read-Chain, read-Print, read-Choice, read-Coalesce, read-Compare, read-Unary, read-InstanceOf, read-InstanceOfVar, read-Clone}

-- ---- renaming keeps what is a place

root_renamed : (n : ℕ → Name) (z : Expression ℕ) → is_root (renamed n z) ≡ is_root z
root_renamed n (e.var v l) = refl
root_renamed n z = refl

steps_renamed : (n : ℕ → Name) (zs : Accesses ℕ) → only_steps (renamed_accesses n zs) ≡ only_steps zs
steps_renamed n e.no_accesses = refl
steps_renamed n (e.index z zs) = steps_renamed n zs
steps_renamed n (e.append zs) = refl
steps_renamed n (e.property m zs) = steps_renamed n zs
steps_renamed n (e.method m us zs) = refl

pub place_renamed : (n : ℕ → Name) (z : Expression ℕ) → is_place (renamed n z) ≡ is_place z
place_renamed n (e.post z zs l) = λ i. root_renamed n z i && steps_renamed n zs i
place_renamed n z = refl

-- ---- nodes whose first part runs under a frame

pub begun-Empty : (how : Reading) (z a a' : Expr) (l : ℕ) (s s' : List Frame) → z ≡ x.Empty a l → a' ≡ a → s' ≡ OfExpr f.IsEmpty ∷ s
    → (t : Naming) (w : World) (k : Then) → read Quiet (named t a') w (rest t s' k) ≡ read how (named t z) w (rest t s k)
begun-Empty how z a a' l s s' is ea push t w k =
    (λ i. read Quiet (named t (ea i)) w (rest t (push i) k))
    ∙ sym (read-Empty t how a l w (rest t s k)) ∙ ap (λ y. read how (named t y) w (rest t s k)) (sym is)

pub begun-ExitWith : (how : Reading) (z a a' : Expr) (l : ℕ) (s s' : List Frame) → z ≡ x.ExitWith a l → a' ≡ a → s' ≡ OfExpr f.ExitWith ∷ s
    → (t : Naming) (w : World) (k : Then) → read Plain (named t a') w (rest t s' k) ≡ read how (named t z) w (rest t s k)
begun-ExitWith how z a a' l s s' is ea push t w k =
    (λ i. read Plain (named t (ea i)) w (rest t (push i) k))
    ∙ sym (read-ExitWith t how a l w (rest t s k)) ∙ ap (λ y. read how (named t y) w (rest t s k)) (sym is)

pub begun-Chain : (how : Reading) (z a a' : Expr) (es : List (ChainOp × Expr)) (r : Bor (List (ChainOp × Expr))) (l : ℕ) (s s' : List Frame) → z ≡ x.Chain a es l → a' ≡ a → r.now ≡ es → s' ≡ OfExpr (f.Links r) ∷ s
    → (t : Naming) (w : World) (k : Then) → read Plain (named t a') w (rest t s' k) ≡ read how (named t z) w (rest t s k)
begun-Chain how z a a' es r l s s' is ea er push t w k =
    (λ i. read Plain (named t (ea i)) w (rest t (push i) k))
    ∙ (λ i. read Plain (named t a) w (on_value (links (links_named t (er i))) (rest t s k)))
    ∙ sym (read-Chain t how a es l w (rest t s k)) ∙ ap (λ y. read how (named t y) w (rest t s k)) (sym is)

pub begun-Print : (how : Reading) (z a a' : Expr) (l : ℕ) (s s' : List Frame) → z ≡ x.Print a l → a' ≡ a → s' ≡ OfExpr f.PrintOf ∷ s
    → (t : Naming) (w : World) (k : Then) → read Plain (named t a') w (rest t s' k) ≡ read how (named t z) w (rest t s k)
begun-Print how z a a' l s s' is ea push t w k =
    (λ i. read Plain (named t (ea i)) w (rest t (push i) k))
    ∙ sym (read-Print t how a l w (rest t s k)) ∙ ap (λ y. read how (named t y) w (rest t s k)) (sym is)

pub begun-Choice : (how : Reading) (z a a' : Expr) (es : List (Branch Expr)) (r : Bor (List (Branch Expr))) (l : ℕ) (s s' : List Frame) → z ≡ x.Choice a es l → a' ≡ a → r.now ≡ es → s' ≡ OfExpr (f.Branches r) ∷ s
    → (t : Naming) (w : World) (k : Then) → read Plain (named t a') w (rest t s' k) ≡ read how (named t z) w (rest t s k)
begun-Choice how z a a' es r l s s' is ea er push t w k =
    (λ i. read Plain (named t (ea i)) w (rest t (push i) k))
    ∙ (λ i. read Plain (named t a) w (on_value (branches (branches_named t (er i))) (rest t s k)))
    ∙ sym (read-Choice t how a es l w (rest t s k)) ∙ ap (λ y. read how (named t y) w (rest t s k)) (sym is)

pub begun-Coalesce : (how : Reading) (z a a' : Expr) (d : Expr) (r : Bor Expr) (l : ℕ) (s s' : List Frame) → z ≡ x.Coalesce a d l → a' ≡ a → r.now ≡ d → s' ≡ OfExpr (f.UnlessNull r) ∷ s
    → (t : Naming) (w : World) (k : Then) → read Quiet (named t a') w (rest t s' k) ≡ read how (named t z) w (rest t s k)
begun-Coalesce how z a a' d r l s s' is ea er push t w k =
    (λ i. read Quiet (named t (ea i)) w (rest t (push i) k))
    ∙ (λ i. read Quiet (named t a) w (on_value (unless_null (read Plain (named t (er i)))) (rest t s k)))
    ∙ sym (read-Coalesce t how a d l w (rest t s k)) ∙ ap (λ y. read how (named t y) w (rest t s k)) (sym is)

pub begun-Compare : (how : Reading) (z a a' : Expr) (op : CompareOp) (d : Expr) (r : Bor Expr) (l : ℕ) (s s' : List Frame) → z ≡ x.Compare a op d l → a' ≡ a → r.now ≡ d → s' ≡ OfExpr (f.CompareWith op r) ∷ s
    → (t : Naming) (w : World) (k : Then) → read Plain (named t a') w (rest t s' k) ≡ read how (named t z) w (rest t s k)
begun-Compare how z a a' op d r l s s' is ea er push t w k =
    (λ i. read Plain (named t (ea i)) w (rest t (push i) k))
    ∙ (λ i. read Plain (named t a) w (on_value (λ v u j. read Plain (named t (er i)) u (compare_right op v j)) (rest t s k)))
    ∙ sym (read-Compare t how a op d l w (rest t s k)) ∙ ap (λ y. read how (named t y) w (rest t s k)) (sym is)

pub begun-Unary : (how : Reading) (z a a' : Expr) (op : UnaryOp) (l : ℕ) (s s' : List Frame) → z ≡ x.Unary op a l → a' ≡ a → s' ≡ OfExpr (f.Before op) ∷ s
    → (t : Naming) (w : World) (k : Then) → read Plain (named t a') w (rest t s' k) ≡ read how (named t z) w (rest t s k)
begun-Unary how z a a' op l s s' is ea push t w k =
    (λ i. read Plain (named t (ea i)) w (rest t (push i) k))
    ∙ sym (read-Unary t how op a l w (rest t s k)) ∙ ap (λ y. read how (named t y) w (rest t s k)) (sym is)

pub begun-InstanceOf : (how : Reading) (z a a' : Expr) (c : ClassName) (l : ℕ) (s s' : List Frame) → z ≡ x.InstanceOf a c l → a' ≡ a → s' ≡ OfExpr f.InstanceOf ∷ s
    → (t : Naming) (w : World) (k : Then) → read Plain (named t a') w (rest t s' k) ≡ read how (named t z) w (rest t s k)
begun-InstanceOf how z a a' c l s s' is ea push t w k =
    (λ i. read Plain (named t (ea i)) w (rest t (push i) k))
    ∙ sym (read-InstanceOf t how a c l w (rest t s k)) ∙ ap (λ y. read how (named t y) w (rest t s k)) (sym is)

pub begun-InstanceOfVar : (how : Reading) (z a a' : Expr) (v l : ℕ) (s s' : List Frame) → z ≡ x.InstanceOfVar a v l → a' ≡ a → s' ≡ OfExpr f.InstanceOf ∷ s
    → (t : Naming) (w : World) (k : Then) → read Plain (named t a') w (rest t s' k) ≡ read how (named t z) w (rest t s k)
begun-InstanceOfVar how z a a' v l s s' is ea push t w k =
    (λ i. read Plain (named t (ea i)) w (rest t (push i) k))
    ∙ sym (read-InstanceOfVar t how a v l w (rest t s k)) ∙ ap (λ y. read how (named t y) w (rest t s k)) (sym is)

pub begun-Clone : (how : Reading) (z a a' : Expr) (l : ℕ) (s s' : List Frame) → z ≡ x.Clone a l → a' ≡ a → s' ≡ OfExpr f.CloneOf ∷ s
    → (t : Naming) (w : World) (k : Then) → read Plain (named t a') w (rest t s' k) ≡ read how (named t z) w (rest t s k)
begun-Clone how z a a' l s s' is ea push t w k =
    (λ i. read Plain (named t (ea i)) w (rest t (push i) k))
    ∙ sym (read-Clone t how a l w (rest t s k)) ∙ ap (λ y. read how (named t y) w (rest t s k)) (sym is)

pub begun-Post : (how h : Reading) (z a a' : Expr) (b : Bool) (es : List (Access Expr)) (r : Bor (List (Access Expr))) (l : ℕ) (s s' : List Frame)
    → z ≡ x.Post a es l → b ≡ is_place (expression_of z) → h ≡ reading_of b how → a' ≡ a → r.now ≡ es → s' ≡ OfExpr (f.Accessed h r) ∷ s
    → (t : Naming) (w : World) (k : Then) → read Plain (named t a') w (rest t s' k) ≡ read how (named t z) w (rest t s k)
begun-Post how h z a a' b es r l s s' is place asked ea er push t w k =
    let whole = ap expression_of is ∙ seen.expression_of-Post a es l in
    let same = asked ∙ ap (λ p. reading_of p how) (place ∙ ap is_place whole ∙ sym (place_renamed t.name (e.post (expression_of a) (accesses_of es) l))) in
    (λ i. read Plain (named t (ea i)) w (rest t (push i) k))
    ∙ (λ i. read Plain (named t a) w (on_value (accessed h (accesses_named t (er i))) (rest t s k)))
    ∙ (λ i. read Plain (named t a) w (on_value (accessed (same i) (accesses_named t es)) (rest t s k)))
    ∙ ap (λ y. read how (renamed t.name y) w (rest t s k)) (sym whole)
