-- The variable that a call changes, and its array, which is taken out of it meanwhile.
use Rattle.std.specs.Prelude.{◌≡◌, ℕ, List, [], ◌∷◌, Bool, true, false}
use Rattle.std.specs.declared.option.Option.{Option}
use Rattle.std.specs.declared.option.Option.TheVariants.{Some, None}
use Rattle.php_values.specs.Data.{Data, null, truth, int, bytes, array, object}
use Rattle.php_world.specs.Variables.{Variables, value_of}
use Rattle.php_meaning.specs.World.{Name}
use Rattle.php_meaning.specs.Calls.{assigned}
use Rattle.php_rest.specs.declared.call_frame.Argument.{Argument}
use Rattle.php_rest.specs.declared.call_frame.Argument.TheVariants.{Passed, Shares, Named}

abbrev pub is_array : Data → Bool
is_array null = false
is_array (truth b) = false
is_array (int n) = false
is_array (bytes t) = false
is_array (array a) = true
is_array (object n) = false

-- Whatever the variable holds next, the variables are as they would be had nothing been taken; and with its old value
-- they are as they were.
pub record IsTaken (x : Name) (old new : Variables) : Type 0 where
  pub next : (d : Data) → assigned x d new ≡ assigned x d old
  pub back : assigned x (value_of x old) new ≡ old

-- the array was taken out of the variable, or nothing changed
abbrev pub Takes : Name → Variables → Variables → Bool → Type 0
Takes x old new true = IsTaken x old new
Takes x old new false = new ≡ old

-- the variable that stands first among some arguments
abbrev pub first_name : List Argument → Option ℕ
first_name [] = None
first_name (Passed value ∷ args) = None
first_name (Shares cell ∷ args) = None
first_name (Named number ∷ args) = Some number
