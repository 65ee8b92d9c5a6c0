-- Static variables one after another, over plain values.
use Rattle.std.proofs.Common.{◌≡◌, ℕ, List, ◌∷◌, ◌+◌, ◌<◌, drop, get_or, length, map, slice_get, Option, Some, None, refl, sym, ap, ◌∙◌}
use Rattle.std.proofs.lemmas.List.{drop_more}
use Rattle.php_tree.specs.ExpressionOf.{expression_or_none}
use Rattle.php_tree.specs.Expressions.{Expression}
use Rattle.php_tree.specs.Renamed.{renamed_option, renamed_statics}
use Rattle.php_tree.specs.StatementOf.{static_of}
use Rattle.php_tree.specs.declared.expr.Expr.{Expr}
use Rattle.php_tree.specs.declared.name.VarName.{VarName}
use Rattle.php_tree.specs.declared.stmt.StaticVar.{StaticVar}
use Rattle.php_values.specs.declared.value.Value.{Value}
use Rattle.php_values.specs.Data.{Data, data_of}
use Rattle.php_world.specs.Naming.{Naming}
use Rattle.php_world.specs.Variables.{Variables, bound, static_cell, with_static}
use Rattle.php_world.specs.declared.cell.Cell.{Cell}
use Rattle.php_constants.specs.Named.{Knows}
use Rattle.php_meaning.specs.Constants.{fixed}
use Rattle.php_meaning.specs.Course.{Then, Does, on_value}
use Rattle.php_meaning.specs.Refusals.{fatal}
use Rattle.php_meaning.specs.Statements as meaning
use Rattle.php_meaning.specs.Statements.{first_value, static_made, static_or}
use Rattle.php_meaning.specs.World.{World, Name, path_of, with_vars}
use Rattle.php_meaning.specs.declared.fatal.FatalName.{FatalName}
use Rattle.php_rest.specs.Named.{named}
use Rattle.php_rest.specs.Outcomes.{done_by}
use Rattle.php_rest.specs.Views.{entry_of}
use Rattle.php_rest.specs.declared.outcome.Outcome.{Outcome}
use Rattle.php_rest.specs.declared.outcome.Outcome.TheVariants.{Gives, Fails}
use Rattle.php_fixed.specs.Evaluated.{Evaluates, GoesOn, gone_on}
use Rattle.php_state.specs.Fits.{Fits, Keeps}
use Rattle.php_state.specs.Views.{world_of}
use Rattle.php_state.specs.declared.state.State.{State}
use Rattle.php_declarations.specs.Ends.{unless_fatal}

-- ---- the first value of a static variable

goes_on : (o : Outcome) (go : Data → Does) (w : World) (k : Then) → gone_on o go w k ≡ done_by o w (on_value go k)
goes_on (Gives v) go w k = refl
goes_on (Fails why) go w k = refl

pub written : (path : Name) (table : List (Name × Value)) (z : Option Expr) (e e' : Expr) (o : Outcome) → z ≡ Some e → e' ≡ e → Evaluates path table (λ t. fixed (named t e')) o
    → (go : Naming → Data → Does) → GoesOn path table (λ t. first_value (renamed_option t.name (expression_or_none z)) (go t)) go o
written path table z e e' o is same law go t w k knows =
    goes_on o (go t) w k ∙ law t w (on_value (go t) k) knows ∙ (λ i. fixed (named t (same i)) w (on_value (go t) k))
    ∙ ap (λ y. first_value (renamed_option t.name (expression_or_none y)) (go t) w k) (sym is)

-- what a first value does
abbrev pub HasFirst : Name → List (Name × Value) → (Naming → Option (Expression Name)) → Outcome → Type 0
HasFirst path table e o = (go : Naming → Data → Does) → GoesOn path table (λ u. first_value (e u) (go u)) go o

-- a declaration that was not used before
pub unused : (t : Naming) (x : Name) (key : Name) (e : Naming → Option (Expression Name)) (path : Name) (table : List (Name × Value)) (o : Outcome) (held : Option Cell) (vs : Variables)
    → held ≡ static_cell key vs → held ≡ None → HasFirst path table e o → (go : Does) (w : World) (k : Then) → Knows path table w
    → gone_on o (λ d v j. go (static_made key x d v) j) (with_vars vs w) k ≡ static_or key x (e t) (static_cell key vs) go (with_vars vs w) k
unused t x key e path table o held vs is none law go w k knows =
    law (λ u d v j. go (static_made key x d v) j) t (with_vars vs w) k (record { path_is = knows.path_is; constants_are = knows.constants_are })
    ∙ ap (λ h. static_or key x (e t) h go (with_vars vs w) k) (sym none ∙ is)

pub made : (x key : Name) (v : Value) (cell : Cell) (v0 v1 v2 : Variables) (o : Outcome) → o ≡ Gives v → (cell, v1) ≡ with_static key (data_of v) v0 → v2 ≡ bound x cell v1
    → (go : Does) (w : World) (k : Then) → go (with_vars v2 w) k ≡ gone_on o (λ d u j. go (static_made key x d u) j) (with_vars v0 w) k
made x key v cell v0 v1 v2 o gives new bind go w k =
    ap (λ z. go (with_vars z w) k) (bind ∙ ap (λ p. bound x p.0 p.1) new)
    ∙ ap (λ z. gone_on z (λ d u j. go (static_made key x d u) j) (with_vars v0 w) k) (sym gives)

-- ---- numbers of declarations

-- the text of a declaration, by its number
pub key_is : (t : Naming) (s : State) (n declared : ℕ) (x : VarName) (texts : List (List ℕ)) (text key given : Name) → (names : (m : ℕ) (y : VarName) → slice_get s.program.now.names m ≡ Some y → t.name m ≡ y.text) → (statics : (m : ℕ) (y : Name) → slice_get texts m ≡ Some y → t.static m ≡ y)
    → slice_get s.program.now.names n ≡ Some x → text ≡ x.text → key ≡ meaning.static_key (entry_of s.scene.owner) text → given ≡ key → slice_get texts declared ≡ Some given
    → t.static declared ≡ meaning.static_key (entry_of s.scene.owner) (t.name n)
key_is t s n declared x texts text key given names statics there text_is keyed same at =
    statics declared given at ∙ same ∙ keyed ∙ ap (meaning.static_key (entry_of s.scene.owner)) (text_is ∙ sym (names n x there))

pub knows : (t : Naming) (s : State) (path file : Name) → path ≡ file → file ≡ path_of (entry_of s.scene.owner) → Knows path s.constants (world_of t s)
knows t s path file is of = record { path_is = sym (is ∙ of); constants_are = refl }

-- ---- numberings that fit

-- a numbering that fits what a step leaves fits what was before it
pub fits_before : (t : Naming) (old new : State) → Keeps old new → Fits t new → Fits t old
fits_before t old new keeps fits = record {
  names_are = λ n x there. fits.names_are n x (ap (λ p. slice_get p.names n) keeps.0 ∙ there);
  statics_are = λ n key there. fits.statics_are n key (keeps.1 n key there);
}

pub keeps_both : (a b c : State) → Keeps a b → Keeps b c → Keeps a c
keeps_both a b c first second = (second.0 ∙ first.0, λ n key there. second.1 n key (first.1 n key there))

pub next_in : (t : Naming) (vs : List StaticVar) (i : ℕ) (v : StaticVar) → i < length vs → v ≡ get_or vs i v
    → (t.name v.variable, renamed_option t.name (expression_or_none v.default)) ∷ renamed_statics t.name (map static_of (drop (i + 1) vs)) ≡ renamed_statics t.name (map static_of (drop i vs))
next_in t vs i v within is =
    ap (λ x. renamed_statics t.name (map static_of (x ∷ drop (i + 1) vs))) is ∙ ap (λ l. renamed_statics t.name (map static_of l)) (sym (drop_more vs i v within))

-- one variable was bound, or the run ends
abbrev pub Binds : State → State → StaticVar → Option FatalName → Type 0
Binds old new v o =
    (t : Naming) (more : List (Name × Option (Expression Name))) (k : Then) → Fits t new →
    unless_fatal o (meaning.statics_named more) (world_of t new) k ≡ meaning.statics_named ((t.name v.variable, renamed_option t.name (expression_or_none v.default)) ∷ more) (world_of t old) k

-- what is left to be bound
pub record Left (old now : State) (vs : List StaticVar) (i : ℕ) : Type 0 where
  pub keeps : Keeps old now
  pub law : (t : Naming) (k : Then) → Fits t now → meaning.statics_named (renamed_statics t.name (map static_of (drop i vs))) (world_of t now) k ≡ meaning.statics_named (renamed_statics t.name (map static_of vs)) (world_of t old) k

pub at_first : (s : State) (vs : List StaticVar) → Left s s vs 0
at_first s vs = record { keeps = (refl, λ n key there. there); law = λ t k fits. refl }

pub one_more : (old now new : State) (vs : List StaticVar) (i : ℕ) (v : StaticVar) (o : Option FatalName) → i < length vs → v ≡ get_or vs i v → Keeps now new → Binds now new v o → Left old now vs i
    → (t : Naming) (k : Then) → Fits t new
    → unless_fatal o (meaning.statics_named (renamed_statics t.name (map static_of (drop (i + 1) vs)))) (world_of t new) k ≡ meaning.statics_named (renamed_statics t.name (map static_of vs)) (world_of t old) k
one_more old now new vs i v o within is keeps binds left t k fits =
    binds t (renamed_statics t.name (map static_of (drop (i + 1) vs))) k fits
    ∙ ap (λ l. meaning.statics_named l (world_of t now) k) (next_in t vs i v within is)
    ∙ left.law t k (fits_before t now new keeps fits)

pub steps : (old now new : State) (vs : List StaticVar) (i : ℕ) (v : StaticVar) (o : Option FatalName) → i < length vs → v ≡ get_or vs i v → Keeps now new → Binds now new v o → Left old now vs i → o ≡ None → Left old new vs (i + 1)
steps old now new vs i v o within is keeps binds left none = record {
  keeps = keeps_both old now new left.keeps keeps;
  law = λ t k fits.
      ap (λ z. unless_fatal z (meaning.statics_named (renamed_statics t.name (map static_of (drop (i + 1) vs)))) (world_of t new) k) (sym none)
      ∙ one_more old now new vs i v o within is keeps binds left t k fits;
}

pub ends : (old now new : State) (vs : List StaticVar) (i : ℕ) (v : StaticVar) (o : Option FatalName) (why : FatalName) → i < length vs → v ≡ get_or vs i v → Keeps now new → Binds now new v o → Left old now vs i → o ≡ Some why
    → (t : Naming) (k : Then) → Fits t new → fatal why (world_of t new) k ≡ meaning.statics_named (renamed_statics t.name (map static_of vs)) (world_of t old) k
ends old now new vs i v o why within is keeps binds left some t k fits =
    ap (λ z. unless_fatal z (meaning.statics_named (renamed_statics t.name (map static_of (drop (i + 1) vs)))) (world_of t new) k) (sym some)
    ∙ one_more old now new vs i v o within is keeps binds left t k fits
