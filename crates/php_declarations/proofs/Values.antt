-- Constants that are declared one after another, over plain values.
use Rattle.std.proofs.Common.{◌≡◌, ℕ, List, [], ◌∷◌, Bool, true, false, ◌+◌, ◌<◌, drop, get_or, length, map, Bor, Option, Some, None, is_some, if◌then◌else◌, refl, sym, ap, ◌∙◌}
use Rattle.std.proofs.lemmas.List.{drop_more}
use Rattle.std.specs.Option.{option_map, option_copied}
use Rattle.std.specs.Str.{bytes_eq, str_to_ascii_lowercase}
use Rattle.php_tree.specs.ExpressionOf.{expression_of}
use Rattle.php_tree.specs.Expressions.{Expression}
use Rattle.php_tree.specs.Renamed.{renamed, renamed_constants}
use Rattle.php_tree.specs.StatementOf.{constant_of}
use Rattle.php_tree.specs.declared.name.ConstName.{ConstName}
use Rattle.php_tree.specs.declared.stmt.ConstDecl.{ConstDecl}
use Rattle.php_values.specs.declared.value.Value.{Value}
use Rattle.php_values.specs.Data.{Data, data_of}
use Rattle.php_names.specs.Tables.{found}
use Rattle.php_world.specs.Naming.{Naming}
use Rattle.php_constants.specs.Named.{Knows, constants_of}
use Rattle.php_meaning.specs.Constants.{built_in, constant_value, first_of, place_value, word_value}
use Rattle.php_meaning.specs.Course.{Then}
use Rattle.php_meaning.specs.Refusals.{fatal}
use Rattle.php_meaning.specs.Statements as meaning
use Rattle.php_meaning.specs.World.{World, Name, constant_in, path_of}
use Rattle.php_meaning.specs.declared.fatal.FatalName.{FatalName}
use Rattle.php_declarations.specs.Ends.{unless_fatal, with_constants}

-- ---- a constant that is there has a value

none_behind : (a b : Option Data) → first_of a b ≡ None → b ≡ None
none_behind (Some d) b e = absurd cc
none_behind None b e = e

mapped_if : (b : Bool) (v : Value) (o : Option Value) (d : Option Data) → d ≡ option_map data_of o → (if b then Some (data_of v) else d) ≡ option_map data_of (if b then Some v else o)
mapped_if true v o d e = refl
mapped_if false v o d e = e

own : (name : Name) (table : List (Name × Value)) → constant_in name (constants_of table) ≡ option_map data_of (found name table)
own name [] = refl
own name (p ∷ ps) = mapped_if (bytes_eq p.0 name) p.1 (found name ps) (constant_in name (constants_of ps)) (own name ps)

differ : (o : Option Value) → option_map data_of o ≡ None → is_some o ≡ true → (T : Type 0) → T
differ None e there T = absurd cc
differ (Some v) e there T = absurd cc

copied : (o : Option (Bor Value)) → is_some (option_copied o) ≡ is_some o
copied None = refl
copied (Some v) = refl

unmapped : (o : Option Value) → is_some o ≡ false → option_map data_of o ≡ None
unmapped None e = refl
unmapped (Some v) e = absurd cc

-- so a constant without a value is not there
pub not_there : (path name : Name) (table : List (Name × Value)) (o : Option Value) (there : Option (Bor Value))
    → ((w : World) → Knows path table w → option_map data_of o ≡ constant_value name 0 w) → false ≡ is_some o → option_copied there ≡ found name table → true ≡ is_some there
    → (w : World) → Knows path table w → (T : Type 0) → T
not_there path name table o there law none is some w knows =
    differ (found name table)
    (sym (own name table) ∙ ap (constant_in name) (sym knows.constants_are) ∙ none_behind (place_value (path_of w.context.owner) 0 name) _ (none_behind (built_in name) _ (none_behind (word_value (str_to_ascii_lowercase name)) _ (sym (law w knows) ∙ unmapped o (sym none)))))
    (ap is_some (sym is) ∙ copied there ∙ sym some)

-- ---- all

-- one constant was added, or the run ends
abbrev pub Adds : Name → List (Name × Value) → List (Name × Value) → ConstDecl → Option FatalName → Type 0
Adds path old new c o =
    (t : Naming) (more : List (ConstName × Expression Name)) (w : World) (k : Then) → Knows path old w →
    unless_fatal o (meaning.constants_of more) (with_constants (constants_of new) w) k ≡ meaning.constants_of ((c.name, renamed t.name (expression_of c.value)) ∷ more) w k

-- what is left to be added
abbrev pub Left : Name → List (Name × Value) → List (Name × Value) → List ConstDecl → ℕ → Type 0
Left path old now cs i =
    (t : Naming) (w : World) (k : Then) → Knows path old w →
    meaning.constants_of (renamed_constants t.name (map constant_of (drop i cs))) (with_constants (constants_of now) w) k ≡ meaning.constants_of (renamed_constants t.name (map constant_of cs)) w k

pub at_first : (path : Name) (old : List (Name × Value)) (cs : List ConstDecl) → Left path old old cs 0
at_first path old cs t w k knows = ap (λ z. meaning.constants_of (renamed_constants t.name (map constant_of cs)) (with_constants z w) k) (sym knows.constants_are)

pub next_in : (t : Naming) (cs : List ConstDecl) (i : ℕ) (c : ConstDecl) → i < length cs → c ≡ get_or cs i c
    → (c.name, renamed t.name (expression_of c.value)) ∷ renamed_constants t.name (map constant_of (drop (i + 1) cs)) ≡ renamed_constants t.name (map constant_of (drop i cs))
next_in t cs i c within is =
    ap (λ x. renamed_constants t.name (map constant_of (x ∷ drop (i + 1) cs))) is ∙ ap (λ l. renamed_constants t.name (map constant_of l)) (sym (drop_more cs i c within))

pub one_more : (path : Name) (old now new : List (Name × Value)) (cs : List ConstDecl) (i : ℕ) (c : ConstDecl) (o : Option FatalName) → i < length cs → c ≡ get_or cs i c → Adds path now new c o → Left path old now cs i
    → (t : Naming) (w : World) (k : Then) → Knows path old w
    → unless_fatal o (meaning.constants_of (renamed_constants t.name (map constant_of (drop (i + 1) cs)))) (with_constants (constants_of new) w) k ≡ meaning.constants_of (renamed_constants t.name (map constant_of cs)) w k
one_more path old now new cs i c o within is adds left t w k knows =
    adds t (renamed_constants t.name (map constant_of (drop (i + 1) cs))) (with_constants (constants_of now) w) k (record { path_is = knows.path_is; constants_are = refl })
    ∙ ap (λ l. meaning.constants_of l (with_constants (constants_of now) w) k) (next_in t cs i c within is)
    ∙ left t w k knows

pub goes_on : (path : Name) (old now new : List (Name × Value)) (cs : List ConstDecl) (i : ℕ) (c : ConstDecl) (o : Option FatalName) → i < length cs → c ≡ get_or cs i c → Adds path now new c o → Left path old now cs i → o ≡ None → Left path old new cs (i + 1)
goes_on path old now new cs i c o within is adds left none t w k knows =
    ap (λ z. unless_fatal z (meaning.constants_of (renamed_constants t.name (map constant_of (drop (i + 1) cs)))) (with_constants (constants_of new) w) k) (sym none)
    ∙ one_more path old now new cs i c o within is adds left t w k knows

pub ends : (path : Name) (old now new : List (Name × Value)) (cs : List ConstDecl) (i : ℕ) (c : ConstDecl) (o : Option FatalName) (why : FatalName) → i < length cs → c ≡ get_or cs i c → Adds path now new c o → Left path old now cs i → o ≡ Some why
    → (t : Naming) (w : World) (k : Then) → Knows path old w → fatal why (with_constants (constants_of new) w) k ≡ meaning.constants_of (renamed_constants t.name (map constant_of cs)) w k
ends path old now new cs i c o why within is adds left some t w k knows =
    ap (λ z. unless_fatal z (meaning.constants_of (renamed_constants t.name (map constant_of (drop (i + 1) cs)))) (with_constants (constants_of new) w) k) (sym some)
    ∙ one_more path old now new cs i c o within is adds left t w k knows
