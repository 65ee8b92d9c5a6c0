-- Names that have no value as a constant.
use Rattle.std.proofs.Common.{◌≡◌, ℕ, Bool, true, false, List, [], ◌∷◌, ◌++◌, if◌then◌else◌, refl, sym, ap, ◌∙◌}
use Rattle.std.proofs.lemmas.Bool.{false≢true}
use Rattle.std.proofs.lemmas.Option.{none-some}
use Rattle.std.specs.declared.option.Option.{Option}
use Rattle.std.specs.declared.option.Option.TheVariants.{Some, None}
use Rattle.std.specs.Option.{option_map, is_some}
use Rattle.std.specs.Str.{bytes_eq, str_to_ascii_lowercase}
use Rattle.app_load.specs.Entries.{file}
use Rattle.php_names.specs.Tables.{found}
use Rattle.php_values.specs.declared.value.Value.{Value}
use Rattle.php_values.specs.Data.{Data, data_of, truth}
use Rattle.php_world.specs.Variables.{no_variables}
use Rattle.php_constants.specs.Named.{constants_of, Knows}
use Rattle.php_meaning.specs.World.{World, Constant, path_of, constant_in, with_constant}
use Rattle.php_meaning.specs.Course.{Then, Gives}
use Rattle.php_meaning.specs.Apply.{define_if}
use Rattle.php_meaning.specs.Constants.{first_of, word_value, built_in, place_value, constant_value}

-- a world with these constants, in which a file runs
abbrev some_world : List ℕ → List (List ℕ × Value) → World
some_world path table = record {
  vars = no_variables;
  context = record { owner = file path; gives = None; depth = 0 };
  at = record { file = path; line = 0 };
  functions = [];
  constants = constants_of table;
  entered = [];
  printed = 0;
  script = path;
  files = [];
}

behind : (a b : Option Data) → None ≡ first_of a b → None ≡ b
behind None b e = e
behind (Some d) b e = absurd (none-some d e)

skipped : (b : Bool) (v : Value) (d : Option Data) (o : Option Value) → (None ≡ d → o ≡ None) → None ≡ (if b then Some (data_of v) else d) → (if b then Some v else o) ≡ None
skipped true v d o go e = absurd (none-some (data_of v) e)
skipped false v d o go e = go e

missing : (name : List ℕ) (table : List (List ℕ × Value)) → None ≡ constant_in name (constants_of table) → found name table ≡ None
missing name [] e = refl
missing name (p ∷ ps) e = skipped (bytes_eq p.0 name) p.1 (constant_in name (constants_of ps)) (found name ps) (missing name ps) e

no_value : (name path : List ℕ) (line : ℕ) (table : List (List ℕ × Value)) (w : World) → Knows path table w → None ≡ constant_value name line w → None ≡ constant_in name (constants_of table)
no_value name path line table w knows e =
    behind (place_value (path_of w.context.owner) line name) _ (behind (built_in name) _ (behind (word_value (str_to_ascii_lowercase name)) _ e))
    ∙ ap (constant_in name) knows.constants_are

-- a name without a value is no name of a constant that the run made
pub unknown : (name path : List ℕ) (line : ℕ) (table : List (List ℕ × Value)) (o : Option Value)
    → ((w : World) → Knows path table w → option_map data_of o ≡ constant_value name line w) → is_some o ≡ false → found name table ≡ None
unknown name path line table (Some v) h e = absurd (false≢true (sym e))
unknown name path line table None h e =
    let knows : Knows path table (some_world path table) = record { path_is = refl; constants_are = refl } in
    missing name table (no_value name path line table (some_world path table) knows (h (some_world path table) knows))

pub some_mapped : {A B : Type 0} (f : A → B) (o : Option A) → is_some o ≡ is_some (option_map f o)
some_mapped f None = refl
some_mapped f (Some a) = refl

-- whether a name has a value in a world
pub known : (name path : List ℕ) (line : ℕ) (table : List (List ℕ × Value)) (o : Option Value)
    → ((w : World) → Knows path table w → option_map data_of o ≡ constant_value name line w)
    → (w : World) → Knows path table w → is_some o ≡ is_some (constant_value name line w)
known name path line table o h w knows = some_mapped data_of o ∙ ap is_some (h w knows)

-- ---- `define`

-- a name that has a value
pub defined_already : (name : List ℕ) (d : Data) (o : Option Data) (w : World) (k : Then) → is_some o ≡ true → k (Gives (truth false)) w ≡ define_if name d o w k
defined_already name d (Some e) w k h = refl
defined_already name d None w k h = absurd (false≢true h)

-- a name that has none
defined_now : (name : List ℕ) (d : Data) (o : Option Data) (w : World) (k : Then) → is_some o ≡ false → k (Gives (truth true)) (with_constant name d w) ≡ define_if name d o w k
defined_now name d (Some e) w k h = absurd (false≢true (sym h))
defined_now name d None w k h = refl

-- the constant stands behind the others
pub made : (name : List ℕ) (d : Data) (b : Bool) (cs : List Constant) (w : World) (k : Then)
    → b ≡ is_some (constant_value name 0 w) → b ≡ false → cs ≡ w.constants ++ record { name = name; value = d } ∷ []
    → k (Gives (truth true)) (record w { constants = cs }) ≡ define_if name d (constant_value name 0 w) w k
made name d b cs w k is e more = ap (λ cs. k (Gives (truth true)) (record w { constants = cs })) more ∙ defined_now name d (constant_value name 0 w) w k (sym is ∙ e)
