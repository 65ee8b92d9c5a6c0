-- Evaluations of parts, and what follows them.
use Rattle.std.proofs.Common.{◌≡◌, ℕ, List, ◌∷◌, Bool, Option, None, option_map, refl, sym, ap, ◌∙◌}
use Rattle.php_tree.specs.declared.expr.Branch.{Branch}
use Rattle.php_tree.specs.declared.expr.ChainOp.{ChainOp}
use Rattle.php_tree.specs.declared.expr.Item.{Item}
use Rattle.php_tree.specs.declared.expr.Expr.{Expr}
use Rattle.php_tree.specs.declared.expr.Expr.TheVariants as x
use Rattle.php_values.specs.declared.value.Value.{Value}
use Rattle.php_values.specs.Data.{Data, truth, data_of}
use Rattle.php_world.specs.Naming.{Naming}
use Rattle.php_constants.specs.Named.{Knows}
use Rattle.php_meaning.specs.World.{World}
use Rattle.php_meaning.specs.Course.{Then, Does, on_value}
use Rattle.php_meaning.specs.Operators.{chained, decided, unless_decided, right_of}
use Rattle.php_meaning.specs.Constants.{fixed, fixed_items, fixed_links, fixed_branches, no_elements, constant_named}
use Rattle.php_meaning.specs.declared.fatal.FatalName.{FatalName}
use Rattle.php_rest.specs.Named.{named, items_named, links_named, branches_named}
use Rattle.php_rest.specs.Outcomes.{done_by, fails}
use Rattle.php_rest.specs.declared.outcome.Outcome.{Outcome}
use Rattle.php_rest.specs.declared.outcome.Outcome.TheVariants.{Gives, Fails}
use Rattle.php_tree.specs.declared.name.ConstName.{ConstName}
use Rattle.php_fixed.specs.Evaluated.{Evaluates, gone_on, GoesOn}
use Rattle.php_fixed.proofs.Meanings.{fixed-Constant, fixed-Array, fixed-Chain, fixed-Choice}

-- a part has a value, and what follows goes on with it
given : (path : List ℕ) (table : List (List ℕ × Value)) (does : Naming → Does) (o : Outcome) (v : Value) → Evaluates path table does o → o ≡ Gives v
    → (t : Naming) (w : World) (go : Data → Does) (k : Then) → Knows path table w → go (data_of v) w k ≡ does t w (on_value go k)
given path table does o v ev is t w go k knows = ap (λ z. done_by z w (on_value go k)) (sym is) ∙ ev t w (on_value go k) knows

-- a part fails, and so does all
failed : (path : List ℕ) (table : List (List ℕ × Value)) (does : Naming → Does) (o : Outcome) (why : FatalName) → Evaluates path table does o → o ≡ Fails why
    → (t : Naming) (w : World) (go : Data → Does) (k : Then) → Knows path table w → fails why w k ≡ does t w (on_value go k)
failed path table does o why ev is t w go k knows = ap (λ z. done_by z w (on_value go k)) (sym is) ∙ ev t w (on_value go k) knows

goes_on : (o : Outcome) (go : Data → Does) (w : World) (k : Then) → gone_on o go w k ≡ done_by o w (on_value go k)
goes_on (Gives v) go w k = refl
goes_on (Fails why) go w k = refl

-- ---- chains

undecided : (t : Naming) (op : ChainOp) (e : Expr) (a : Data) (d : Option Bool) → decided op a ≡ option_map truth d → d ≡ None
    → (more : List (ChainOp × Expr)) (w : World) (k : Then) → fixed (named t e) w (right_of op a (fixed_links (links_named t more)) k) ≡ fixed_links (links_named t ((op, e) ∷ more)) a w k
undecided t op e a d is none more w k =
    ap (λ c. unless_decided c (fixed_links (links_named t more)) (λ u j. fixed (named t e) u (right_of op a (fixed_links (links_named t more)) j)) w k) (sym (is ∙ ap (option_map truth) none))

pub link-given : (path : List ℕ) (table : List (List ℕ × Value)) (p : ChainOp × Expr) (a : Data) (v : Value) (d : Option Bool) (o all : Outcome)
    → decided p.0 a ≡ option_map truth d → d ≡ None → o ≡ Gives v → Evaluates path table (λ t. fixed (named t p.1)) o → done_by all ≡ chained p.0 a (data_of v)
    → (more : List (ChainOp × Expr)) → GoesOn path table (λ t. fixed_links (links_named t (p ∷ more)) a) (λ t. fixed_links (links_named t more)) all
link-given path table (op, e) a v d o all is none gives ev both more t w k knows =
    goes_on all (fixed_links (links_named t more)) w k
    ∙ ap (λ f. f w (on_value (fixed_links (links_named t more)) k)) both
    ∙ given path table (λ u. fixed (named u e)) o v ev gives t w (λ b u j. chained op a b u (on_value (fixed_links (links_named t more)) j)) k knows
    ∙ undecided t op e a d is none more w k

pub link-failed : (path : List ℕ) (table : List (List ℕ × Value)) (p : ChainOp × Expr) (a : Data) (why : FatalName) (d : Option Bool) (o : Outcome)
    → decided p.0 a ≡ option_map truth d → d ≡ None → o ≡ Fails why → Evaluates path table (λ t. fixed (named t p.1)) o
    → (more : List (ChainOp × Expr)) → GoesOn path table (λ t. fixed_links (links_named t (p ∷ more)) a) (λ t. fixed_links (links_named t more)) (Fails why)
link-failed path table (op, e) a why d o is none fails ev more t w k knows =
    failed path table (λ u. fixed (named u e)) o why ev fails t w (λ b u j. chained op a b u (on_value (fixed_links (links_named t more)) j)) k knows
    ∙ undecided t op e a d is none more w k

-- ---- nodes

pub at-Constant : (path : List ℕ) (table : List (List ℕ × Value)) (z : Expr) (c : ConstName) (l : ℕ) (name : List ℕ) (all : Outcome) → z ≡ x.Constant c l → name ≡ c.text
    → Evaluates path table (λ t. constant_named name l) all → Evaluates path table (λ t. fixed (named t z)) all
at-Constant path table z c l name all is text ev t w k knows =
    ev t w k knows ∙ (λ i. constant_named (text i) l w k) ∙ sym (fixed-Constant t c l w k) ∙ ap (λ y. fixed (named t y) w k) (sym is)

pub at-Array : (path : List ℕ) (table : List (List ℕ × Value)) (z : Expr) (es es' : List (Item Expr)) (l : ℕ) (all : Outcome) → z ≡ x.Array es l → es' ≡ es
    → Evaluates path table (λ t. fixed_items (items_named t es') no_elements) all → Evaluates path table (λ t. fixed (named t z)) all
at-Array path table z es es' l all is list ev t w k knows =
    ev t w k knows ∙ (λ i. fixed_items (items_named t (list i)) no_elements w k) ∙ sym (fixed-Array t es l w k) ∙ ap (λ y. fixed (named t y) w k) (sym is)

pub at-Chain : (path : List ℕ) (table : List (List ℕ × Value)) (z e e' : Expr) (es es' : List (ChainOp × Expr)) (l : ℕ) (v : Value) (o all : Outcome) → z ≡ x.Chain e es l → e' ≡ e → es' ≡ es
    → o ≡ Gives v → Evaluates path table (λ t. fixed (named t e')) o → Evaluates path table (λ t. fixed_links (links_named t es') (data_of v)) all → Evaluates path table (λ t. fixed (named t z)) all
at-Chain path table z e e' es es' l v o all is first list gives ev behind t w k knows =
    behind t w k knows
    ∙ given path table (λ u. fixed (named u e')) o v ev gives t w (fixed_links (links_named t es')) k knows
    ∙ (λ i. fixed (named t (first i)) w (on_value (fixed_links (links_named t (list i))) k))
    ∙ sym (fixed-Chain t e es l w k) ∙ ap (λ y. fixed (named t y) w k) (sym is)

pub at-Choice : (path : List ℕ) (table : List (List ℕ × Value)) (z e e' : Expr) (es es' : List (Branch Expr)) (l : ℕ) (v : Value) (o all : Outcome) → z ≡ x.Choice e es l → e' ≡ e → es' ≡ es
    → o ≡ Gives v → Evaluates path table (λ t. fixed (named t e')) o → Evaluates path table (λ t. fixed_branches (branches_named t es') (data_of v)) all → Evaluates path table (λ t. fixed (named t z)) all
at-Choice path table z e e' es es' l v o all is first list gives ev behind t w k knows =
    behind t w k knows
    ∙ given path table (λ u. fixed (named u e')) o v ev gives t w (fixed_branches (branches_named t es')) k knows
    ∙ (λ i. fixed (named t (first i)) w (on_value (fixed_branches (branches_named t (list i))) k))
    ∙ sym (fixed-Choice t e es l w k) ∙ ap (λ y. fixed (named t y) w k) (sym is)
