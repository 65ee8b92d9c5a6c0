-- Declarations on their lines, over plain values.
use Rattle.std.proofs.Common.{◌≡◌, ℕ, List, Bool, true, false, map, Option, if◌then◌else◌, refl, sym, ap, subst, ◌∙◌}
use Rattle.php_tree.specs.Parts.{emptied}
use Rattle.php_tree.specs.Renamed.{renamed_constants, renamed_function, renamed_statics}
use Rattle.php_tree.specs.StatementOf.{constant_of, function_of, static_of}
use Rattle.php_tree.specs.Statements as s
use Rattle.php_tree.specs.declared.stmt.ConstDecl.{ConstDecl}
use Rattle.php_tree.specs.declared.stmt.StaticVar.{StaticVar}
use Rattle.php_values.specs.declared.value.Value.{Value}
use Rattle.php_world.specs.Naming.{Naming}
use Rattle.php_world.specs.declared.store.Store.{Store}
use Rattle.php_tables.specs.declared.function.Function.{Function}
use Rattle.php_tables.specs.declared.functions.Functions.{Functions}
use Rattle.php_constants.specs.Named.{Knows, constants_of}
use Rattle.php_callees.specs.Names.{Declares}
use Rattle.php_meaning.specs.Course.{Then, Normal, Ticks, hand}
use Rattle.php_meaning.specs.Refusals.{fatal}
use Rattle.php_meaning.specs.Statements as meaning
use Rattle.php_meaning.specs.Statements.{declare, declared_as, statement}
use Rattle.php_meaning.specs.World.{World, Name, at_line, path_of, with_function}
use Rattle.php_meaning.specs.declared.fatal.FatalName.{FatalName}
use Rattle.php_meaning.specs.declared.fatal.FatalName.TheVariants as fatals
use Rattle.php_rest.specs.Named.{head_named}
use Rattle.php_rest.specs.Rest.{next_of, rest}
use Rattle.php_rest.specs.Views.{entry_of, function_named}
use Rattle.php_rest.specs.declared.now.Now.{Now}
use Rattle.php_rest.specs.declared.owner.Scene.{Scene}
use Rattle.php_state.specs.Fits.{Fits}
use Rattle.php_state.specs.Views.{world_of}
use Rattle.php_state.specs.declared.state.State.{State}
use Rattle.php_statement_steps.specs.Standing.{stands}
use Rattle.php_declarations.specs.Ends.{unless_fatal, with_constants, with_functions}
use Rattle.php_declarations.specs.Laws.{DeclaresAfterTick}
use Rattle.php_declarations.proofs.Files.{emptied_node}

-- the run stands at a line
abbrev pub StandsAt : Scene → Scene → ℕ → Type 0
StandsAt here there line = (t : Naming) (u : Store) (w : World) → stands t u there w ≡ at_line line (stands t u here w)

abbrev pub moved : State → Scene → State
moved old there = record old { scene = there }

placed : (old : State) (there : Scene) (line : ℕ) → StandsAt old.scene there line → (t : Naming) → world_of t (moved old there) ≡ at_line line (world_of t old)
placed old there line place t = place t old.store (world_of t old)

-- `const`
pub constants_placed : (old : State) (there : Scene) (new : List (Name × Value)) (now : Now) (end : Option FatalName) (cs cs' : List ConstDecl) (path file : Name) (line : ℕ)
    → cs' ≡ cs → StandsAt old.scene there line → path ≡ file → file ≡ path_of (entry_of there.owner) → ((t : Naming) → next_of t now ≡ unless_fatal end (hand Normal))
    → ((t : Naming) (w : World) (k : Then) → Knows path old.constants w → unless_fatal end (hand Normal) (with_constants (constants_of new) w) k ≡ meaning.constants_of (renamed_constants t.name (map constant_of cs')) w k)
    → DeclaresAfterTick old (record old { scene = there; constants = new }) (λ t. statement (s.constants (renamed_constants t.name (map constant_of cs)) line)) now
constants_placed old there new now end cs cs' path file line same place is of next law t stack k fits =
    ap (λ c. Ticks (world_of t old) c)
    (ap (λ d. d (with_constants (constants_of new) (world_of t (moved old there))) (rest t stack k)) (next t)
    ∙ law t (world_of t (moved old there)) (rest t stack k) (record { path_is = sym (is ∙ of); constants_are = refl })
    ∙ (λ i. meaning.constants_of (renamed_constants t.name (map constant_of (same i))) (placed old there line place t i) (rest t stack k)))

-- `static`
pub statics_placed : (old new : State) (there : Scene) (now : Now) (end : Option FatalName) (vs vs' : List StaticVar) (line : ℕ)
    → vs' ≡ vs → StandsAt old.scene there line → ((t : Naming) → next_of t now ≡ unless_fatal end (hand Normal))
    → ((t : Naming) (k : Then) → Fits t new → unless_fatal end (hand Normal) (world_of t new) k ≡ meaning.statics_named (renamed_statics t.name (map static_of vs')) (world_of t (moved old there)) k)
    → DeclaresAfterTick old new (λ t. statement (s.static_vars (renamed_statics t.name (map static_of vs)) line)) now
statics_placed old new there now end vs vs' line same place next law t stack k fits =
    ap (λ c. Ticks (world_of t old) c)
    (ap (λ d. d (world_of t new) (rest t stack k)) (next t)
    ∙ law t (rest t stack k) fits
    ∙ (λ i. meaning.statics_named (renamed_statics t.name (map static_of (same i))) (placed old there line place t i) (rest t stack k)))

-- a function's statement declares what its place says
declared_here : (old : State) (there : Scene) (f : Function) (line : ℕ) → StandsAt old.scene there line → f.path.now ≡ path_of (entry_of there.owner) → (t : Naming) (k : Then)
    → Ticks (world_of t old) (declare (function_named t f) (world_of t (moved old there)) k) ≡ statement (s.function (emptied (renamed_function t.name (function_of f.declaration.now))) line) (world_of t old) k
declared_here old there f line place of t k =
    let at = placed old there line place t in
    let here : f.path.now ≡ path_of (world_of t old).context.owner = of ∙ ap (λ w. path_of w.context.owner) at in
    (λ i. Ticks (world_of t old) (declare (declared_as (here i) (head_named t f.declaration.now)) (at i) k))
    ∙ ap (λ g. statement (s.function g line) (world_of t old) k) (sym (emptied_node t f.declaration.now))

pub function_new : (old : State) (there : Scene) (new : Functions) (f : Function) (b : Bool) (line : ℕ) → StandsAt old.scene there line → f.path.now ≡ path_of (entry_of there.owner) → ((t : Naming) → Declares t old.functions new f b) → b ≡ true
    → (t : Naming) (k : Then) → Ticks (world_of t old) (k Normal (world_of t (record old { scene = there; functions = new }))) ≡ statement (s.function (emptied (renamed_function t.name (function_of f.declaration.now))) line) (world_of t old) k
function_new old there new f b line place of told is t k =
    let law : Declares t old.functions new f true = subst (λ z. Declares t old.functions new f z) is (told t) in
    let mid = world_of t (moved old there) in
    ap (λ c. Ticks (world_of t old) c)
    (ap (λ fs. k Normal (with_functions fs mid)) law.1
    ∙ ap (λ z. if z then fatal fatals.Redeclared mid k else k Normal (with_function (function_named t f) mid)) (sym law.0))
    ∙ declared_here old there f line place of t k

pub function_taken : (old : State) (there : Scene) (new : Functions) (f : Function) (b : Bool) (line : ℕ) → StandsAt old.scene there line → f.path.now ≡ path_of (entry_of there.owner) → ((t : Naming) → Declares t old.functions new f b) → b ≡ false
    → (t : Naming) (k : Then) → Ticks (world_of t old) (fatal fatals.Redeclared (world_of t (record old { scene = there; functions = new })) k) ≡ statement (s.function (emptied (renamed_function t.name (function_of f.declaration.now))) line) (world_of t old) k
function_taken old there new f b line place of told is t k =
    let law : Declares t old.functions new f false = subst (λ z. Declares t old.functions new f z) is (told t) in
    let mid = world_of t (moved old there) in
    ap (λ c. Ticks (world_of t old) c)
    (ap (λ fs. fatal fatals.Redeclared (with_functions fs mid) k) law.1
    ∙ ap (λ z. if z then fatal fatals.Redeclared mid k else k Normal (with_function (function_named t f) mid)) (sym law.0))
    ∙ declared_here old there f line place of t k
