-- What walks over two arrays are to tell.
use Rattle.std.specs.Prelude.{List, [], ◌∷◌, ◌≡◌, ◌≢◌, true, false, Bool}
use Rattle.std.specs.declared.result.Result.{Result}
use Rattle.std.specs.declared.result.Result.TheVariants.{Ok, Err}
use Rattle.php_values.specs.declared.fault.ValueFault.{ValueFault}
use Rattle.php_values.specs.declared.fault.ValueFault.TheVariants.{Memory}
use Rattle.php_values.specs.declared.beside.Beside.{Beside}
use Rattle.php_values.specs.declared.loose.Met.{Met}
use Rattle.php_values.specs.declared.loose.Met.TheVariants.{Same, Different, Inside}
use Rattle.php_values.specs.Answers.{Answer}
use Rattle.php_values.specs.Beside.{left_of, right_of}
use Rattle.php_values.specs.Compare.{loose_pairs}

-- whether what is left of a walk is equal
abbrev pub equal_beside : Beside → Answer Bool
equal_beside b = loose_pairs (left_of b) (right_of b)

-- what two values are, as `==` has it
abbrev pub MeetGives : Answer Bool → Result Met ValueFault → Type 0
MeetGives expected (Ok Same) = expected ≡ Ok true
MeetGives expected (Ok Different) = expected ≡ Ok false
MeetGives expected (Ok (Inside b)) = expected ≡ equal_beside b
MeetGives expected (Err fault) = fault ≢ Memory → expected ≡ Err fault

-- an answer that waits for that of a walk inside, and then for the walks around it; the outermost stands first
abbrev pub around : {W A : Type 0} → (A → A → A) → (W → A) → List W → A → A
around both tells [] inner = inner
around both tells (w ∷ ws) inner = both (around both tells ws inner) (tells w)
