-- A run's own constants by name.
use Rattle.std.proofs.Common.{◌≡◌, ℕ, Bool, true, false, List, [], ◌∷◌, map, Option, Some, None, if◌then◌else◌, refl, sym, ap, ◌∙◌}
use Rattle.std.specs.Option.{option_map, option_copied}
use Rattle.std.specs.Str.{bytes_eq}
use denote.Ref.{Bor}
use Rattle.php_names.specs.Tables.{found}
use Rattle.php_values.specs.declared.value.Value.{Value}
use Rattle.php_values.specs.Data.{Data, data_of}
use Rattle.php_meaning.specs.World.{constant_in}
use Rattle.php_constants.specs.Named.{constants_of}

mapped_if : (b : Bool) (v : Value) (o : Option Value) (d : Option Data) → d ≡ option_map data_of o → (if b then Some (data_of v) else d) ≡ option_map data_of (if b then Some v else o)
mapped_if true v o d e = refl
mapped_if false v o d e = e

own : (name : List ℕ) (table : List (List ℕ × Value)) → constant_in name (constants_of table) ≡ option_map data_of (found name table)
own name [] = refl
own name (p ∷ ps) = mapped_if (bytes_eq p.0 name) p.1 (found name ps) (constant_in name (constants_of ps)) (own name ps)

pub own_found : (name : List ℕ) (table : List (List ℕ × Value)) (v : Bor Value) (d : Data) → Some v.now ≡ found name table → d ≡ data_of v.now → Some d ≡ constant_in name (constants_of table)
own_found name table v d is copy = ap Some copy ∙ (ap (option_map data_of) is ∙ sym (own name table))

pub own_missing : (name : List ℕ) (table : List (List ℕ × Value)) → None ≡ found name table → None ≡ constant_in name (constants_of table)
own_missing name table is = ap (option_map data_of) is ∙ sym (own name table)
