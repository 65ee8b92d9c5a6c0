-- How arguments are handed over.
use Rattle.php_meaning.specs.Calls as calls
use Rattle.php_callees.specs.declared.handing.Passing.{Passing}
use Rattle.php_callees.specs.declared.handing.Passing.TheVariants.{ByValue, ByCell, ByName}

abbrev pub passing_is : Passing → calls.Passing
passing_is ByValue = calls.by_value
passing_is ByCell = calls.by_cell
passing_is ByName = calls.by_name
