-- What changes its first argument, by how that is handed over.
use Rattle.std.proofs.Common.{◌≡◌, ◌≢◌, Bool, true, false, if◌then◌else◌, List, drop, refl, sym, ap, ◌∙◌}
use Rattle.std.proofs.lemmas.Bool.{false≢true}
use Rattle.php_values.specs.Data.{Data}
use Rattle.php_arguments.specs.Answers.{CallAnswer}
use Rattle.php_meaning.specs.World.{World}
use Rattle.php_meaning.specs.Course.{Then}
use Rattle.php_meaning.specs.Library.{LibraryCall, ListAnswer, reads, changes}
use Rattle.php_meaning.specs.Calls as calls
use Rattle.php_meaning.specs.Calls.{by_value, by_cell, by_name, library, passings}
use Rattle.php_meaning.specs.Expressions.{first_passing}
use Rattle.php_meaning.specs.Apply.{change_first, library_done}
use Rattle.php_callees.specs.Passings.{passing_is}
use Rattle.php_callees.specs.declared.handing.Passing.{Passing}
use Rattle.php_callees.specs.declared.handing.Passing.TheVariants.{ByValue, ByCell, ByName}

abbrev is_by_name : calls.Passing → Bool
is_by_name by_value = false
is_by_name by_cell = false
is_by_name by_name = true

-- how the first argument is handed over
abbrev handing : LibraryCall → calls.Passing
handing c = first_passing (drop 0 (passings (library c)))

pub named_changes : (p : Passing) (b : Bool) (f : List Data → CallAnswer ListAnswer) (g : List Data → CallAnswer Data) (args : List calls.Argument) (w : World) (k : Then)
    → passing_is p ≡ handing (if b then changes f else reads g) → p ≡ ByName → change_first f args w k ≡ library_done (if b then changes f else reads g) args w k
named_changes p true f g args w k e is = refl
named_changes p false f g args w k e is = absurd (false≢true (sym (ap is_by_name (sym (ap passing_is is) ∙ e))))

pub other_reads : (p : Passing) (b : Bool) (f : List Data → CallAnswer ListAnswer) (g : List Data → CallAnswer Data) (args : List calls.Argument) (w : World) (k : Then)
    → passing_is p ≡ handing (if b then changes f else reads g) → p ≢ ByName → library_done (reads g) args w k ≡ library_done (if b then changes f else reads g) args w k
other_reads p false f g args w k e other = refl
other_reads ByValue true f g args w k e other = absurd (false≢true (ap is_by_name e))
other_reads ByCell true f g args w k e other = absurd (false≢true (ap is_by_name e))
other_reads ByName true f g args w k e other = absurd (other refl)
