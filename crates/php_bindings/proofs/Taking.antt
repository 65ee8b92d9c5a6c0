-- One parameter after another.
use Rattle.std.proofs.Common.{◌≡◌, ℕ, ◌+◌, ◌<◌, ◌≤◌, List, [], ◌∷◌, ◌++◌, length, get_or, drop, refl, sym, ap, ◌∙◌, arith}
use Rattle.std.proofs.lemmas.List.{drop_more, at_drop_all}
use Rattle.php_tree.specs.Renamed.{renamed_parameter}
use Rattle.php_tree.specs.Statements.{Parameter}
use Rattle.php_tree.specs.StatementOf.{parameter_of}
use Rattle.php_tree.specs.declared.decl.Param.{Param}
use Rattle.php_values.specs.declared.value.Value.{Value}
use Rattle.php_values.specs.Data.{Data, data_of}
use Rattle.php_world.specs.Naming.{Naming}
use Rattle.php_meaning.specs.World.{World, Name, Declared}
use Rattle.php_meaning.specs.Course.{Course, Does, Then}
use Rattle.php_meaning.specs.Hints.{taken}
use Rattle.php_meaning.specs.Calls.{taken_or, bind, enter}
use Rattle.php_meaning.specs.Calls as calls
use Rattle.php_rest.specs.Outcomes.{fails}
use Rattle.php_rest.specs.Views.{arguments_named}
use Rattle.php_rest.specs.declared.call_frame.Argument.{Argument}
use Rattle.php_meaning.specs.declared.fatal.FatalName.{FatalName}
use Rattle.php_rest.specs.declared.outcome.Outcome.{Outcome}
use Rattle.php_rest.specs.declared.outcome.Outcome.TheVariants.{Gives}
use Rattle.php_fixed.specs.Evaluated.{gone_on}
use Rattle.php_bindings.specs.Alike.{Alike}
use Rattle.php_bindings.specs.Bounds.{params_named, bound_named, bounds_named, gone_on_with}
use Rattle.php_bindings.specs.declared.bound.Bound.{Bound}
use Rattle.php_bindings.specs.declared.bound.OneBound.{OneBound}
use Rattle.php_bindings.specs.declared.bound.OneBound.TheVariants as one
use Rattle.php_bindings.proofs.Alike.{then_alike, both}

-- a default that was evaluated is taken
pub left_taken : (c : Course) (o o2 : Outcome) (v : Value) (f : Declared) (n : ℕ) (p : Parameter Name) (go : Data → Does) (w : World) (k : Then)
    → o ≡ Gives v → Alike (gone_on o (λ d. taken_or f n go (taken p d)) w k) c → gone_on o2 go ≡ taken_or f n go (taken p (data_of v)) → Alike (gone_on o2 go w k) c
left_taken c o o2 v f n p go w k is alike taking = then_alike ((λ i. taking i w k) ∙ (λ i. gone_on (sym is i) (λ d. taken_or f n go (taken p d)) w k)) alike

-- ---- the arguments that are left

pub no_arguments : (xs : List Argument) → length xs < 1 → xs ≡ []
no_arguments [] less = refl
no_arguments (x ∷ xs) less = absurd (omega arith)

named_behind : (t : Naming) (args : List Argument) → arguments_named t (drop 1 args) ≡ drop 1 (arguments_named t args)
named_behind t [] = refl
named_behind t (a ∷ args) = refl

named_more : (t : Naming) (bs : List Bound) (b : Bound) → bounds_named t (bs ++ b ∷ []) ≡ bounds_named t bs ++ bound_named t b ∷ []
named_more t [] b = refl
named_more t (a ∷ bs) b = ap (λ l. bound_named t a ∷ l) (named_more t bs b)

-- ---- parameters in their order

-- what a parameter does with the arguments that are left
abbrev pub Binds : Naming → Declared → Param → List Argument → World → OneBound → Type 0
Binds t f p args w o = (n : ℕ) (ps : List (Parameter Name)) (so_far : List calls.Bound) (k : Then)
    → Alike (gone_on_with t o (λ b. bind f (n + 1) ps (drop 1 (arguments_named t args)) (so_far ++ b ∷ [])) w k) (bind f n (renamed_parameter t.name (parameter_of p) ∷ ps) (arguments_named t args) so_far w k)

-- one parameter more
stepped : (c : Course) (t : Naming) (f : Declared) (params : List Param) (i : ℕ) (p : Param) (args : List Argument) (all : List Bound) (o : OneBound) (w : World) (k : Then)
    → i < length params → p ≡ get_or params i p → Binds t f p args w o
    → Alike (bind f (i + 1) (params_named t (drop i params)) (arguments_named t args) (bounds_named t all) w k) c
    → Alike (gone_on_with t o (λ b. bind f (i + 1 + 1) (params_named t (drop (i + 1) params)) (drop 1 (arguments_named t args)) (bounds_named t all ++ b ∷ [])) w k) c
stepped c t f params i p args all o w k less is binds before =
    let cut : params_named t (drop i params) ≡ renamed_parameter t.name (parameter_of p) ∷ params_named t (drop (i + 1) params) =
    ap (params_named t) (drop_more params i p less) ∙ ap (λ q. renamed_parameter t.name (parameter_of q) ∷ params_named t (drop (i + 1) params)) (sym is) in
    both (binds (i + 1) (params_named t (drop (i + 1) params)) (bounds_named t all) k)
    (then_alike (λ j. bind f (i + 1) (sym cut j) (arguments_named t args) (bounds_named t all) w k) before)

pub next_bound : (c : Course) (t : Naming) (f : Declared) (params : List Param) (i : ℕ) (p : Param) (args args' : List Argument) (all all' : List Bound) (o : OneBound) (b : Bound) (w : World) (k : Then)
    → i < length params → p ≡ get_or params i p → o ≡ one.Bound b → args' ≡ drop 1 args → all' ≡ all ++ b ∷ [] → Binds t f p args w o
    → Alike (bind f (i + 1) (params_named t (drop i params)) (arguments_named t args) (bounds_named t all) w k) c
    → Alike (bind f (i + 1 + 1) (params_named t (drop (i + 1) params)) (arguments_named t args') (bounds_named t all') w k) c
next_bound c t f params i p args args' all all' o b w k less is bound behind more binds before =
    then_alike
    ((λ j. bind f (i + 1 + 1) (params_named t (drop (i + 1) params)) ((ap (arguments_named t) behind ∙ named_behind t args) j) ((ap (bounds_named t) more ∙ named_more t all b) j) w k)
    ∙ (λ j. gone_on_with t (sym bound j) (λ b. bind f (i + 1 + 1) (params_named t (drop (i + 1) params)) (drop 1 (arguments_named t args)) (bounds_named t all ++ b ∷ [])) w k))
    (stepped c t f params i p args all o w k less is binds before)

pub not_bound : (c : Course) (t : Naming) (f : Declared) (params : List Param) (i : ℕ) (p : Param) (args : List Argument) (all : List Bound) (o : OneBound) (why : FatalName) (w : World) (k : Then)
    → i < length params → p ≡ get_or params i p → o ≡ one.Fails why → Binds t f p args w o
    → Alike (bind f (i + 1) (params_named t (drop i params)) (arguments_named t args) (bounds_named t all) w k) c
    → Alike (fails why w k) c
not_bound c t f params i p args all o why w k less is failed binds before =
    then_alike (λ j. gone_on_with t (sym failed j) (λ b. bind f (i + 1 + 1) (params_named t (drop (i + 1) params)) (drop 1 (arguments_named t args)) (bounds_named t all ++ b ∷ [])) w k)
    (stepped c t f params i p args all o w k less is binds before)

pub all_there : (c : Course) (t : Naming) (f : Declared) (params : List Param) (i : ℕ) (args : List Argument) (all : List Bound) (w : World) (k : Then)
    → length params ≤ i
    → Alike (bind f (i + 1) (params_named t (drop i params)) (arguments_named t args) (bounds_named t all) w k) c
    → Alike (enter f (bounds_named t all) w k) c
all_there c t f params i args all w k past before =
    then_alike (sym (at_drop_all (λ ps. bind f (i + 1) (params_named t ps) (arguments_named t args) (bounds_named t all) w k) params i past)) before
