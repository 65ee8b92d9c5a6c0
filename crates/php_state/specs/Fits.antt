-- Numberings of names that are those of a run.
use Rattle.std.specs.Prelude.{◌≡◌, ℕ, List, slice_get}
use Rattle.std.specs.declared.option.Option.TheVariants.{Some}
use Rattle.php_tree.specs.declared.name.VarName.{VarName}
use Rattle.php_world.specs.Naming.{Naming}
use Rattle.php_state.specs.declared.state.State.{State}

-- the names of the program's variables, and the texts of the static variables that were used
pub record Fits (t : Naming) (s : State) : Type 0 where
  pub names_are : (n : ℕ) (x : VarName) → slice_get s.program.now.names n ≡ Some x → t.name n ≡ x.text
  pub statics_are : (n : ℕ) (key : List ℕ) → slice_get s.statics n ≡ Some key → t.static n ≡ key

-- what each step leaves: the program, and the texts of static variables, behind which others can come
abbrev pub Keeps : State → State → Type 0
Keeps old new = (new.program.now ≡ old.program.now) × ((n : ℕ) (key : List ℕ) → slice_get old.statics n ≡ Some key → slice_get new.statics n ≡ Some key)
