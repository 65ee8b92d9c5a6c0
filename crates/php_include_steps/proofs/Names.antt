-- Constants by name, over plain values.
use Rattle.std.proofs.Common.{◌≡◌, ℕ, List, Option, Some, None, refl, sym, ap, ◌∙◌}
use Rattle.std.specs.Option.{option_map}
use Rattle.php_constants.specs.Named.{Knows}
use Rattle.php_values.specs.declared.value.Value.{Value}
use Rattle.php_values.specs.Data.{data_of}
use Rattle.php_world.specs.Naming.{Naming}
use Rattle.php_meaning.specs.Constants.{constant_named, constant_or, constant_value}
use Rattle.php_meaning.specs.Course.{Then, give}
use Rattle.php_meaning.specs.Refusals.{fatal}
use Rattle.php_meaning.specs.World.{World, path_of}
use Rattle.php_meaning.specs.declared.fatal.FatalName.TheVariants as fatals
use Rattle.php_rest.specs.Views.{entry_of}
use Rattle.php_state.specs.Views.{world_of}
use Rattle.php_state.specs.declared.state.State.{State}

-- a world as a state stands for it has its constants
pub knows : (t : Naming) (s : State) (path file : List ℕ) → path ≡ file → file ≡ path_of (entry_of s.scene.owner) → Knows path s.constants (world_of t s)
knows t s path file is of = record { path_is = sym (is ∙ of); constants_are = refl }

pub given : (name name' : List ℕ) (line : ℕ) (w : World) (k : Then) (o : Option Value) (v : Value) → name' ≡ name → option_map data_of o ≡ constant_value name' line w → o ≡ Some v → give (data_of v) w k ≡ constant_named name line w k
given name name' line w k o v same law is = ap (λ c. constant_or name c w k) (sym (ap (option_map data_of) is) ∙ law ∙ ap (λ n. constant_value n line w) same)

pub missing : (name name' : List ℕ) (line : ℕ) (w : World) (k : Then) (o : Option Value) → name' ≡ name → option_map data_of o ≡ constant_value name' line w → o ≡ None → fatal fatals.Uncaught w k ≡ constant_named name line w k
missing name name' line w k o same law is = ap (λ c. constant_or name c w k) (sym (ap (option_map data_of) is) ∙ law ∙ ap (λ n. constant_value n line w) same)
