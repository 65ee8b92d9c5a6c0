-- `++` and `--`.
use Rattle.std.specs.Prelude.{List, ℕ, ℤ, pos, if◌then◌else◌}
use Rattle.std.specs.declared.result.Result.TheVariants.{Ok, Err}
use Rattle.php_values.specs.declared.fault.ValueFault.TheVariants.{Kind}
use Rattle.php_values.specs.declared.number.Number.{Number}
use Rattle.php_values.specs.declared.number.Number.TheVariants.{Missing, Whole, FloatForm}
use Rattle.php_values.specs.Data.{Data, null, truth, int, bytes, array, object}
use Rattle.php_values.specs.Answers.{Answer}
use Rattle.php_values.specs.Convert.{leading_number, is_numeric}
use Rattle.php_values.specs.Arithmetic.{sum, difference}
use Rattle.php_world.specs.declared.stepping.Direction.{Direction}
use Rattle.php_world.specs.declared.stepping.Direction.TheVariants.{Up, Down}

abbrev pub stepped_int : Direction → ℤ → Answer Data
stepped_int Up n = sum n (pos 1)
stepped_int Down n = difference n (pos 1)

abbrev pub stepped_number : Direction → Number → Answer Data
stepped_number way Missing = Err Kind
stepped_number way (Whole n) = stepped_int way n
stepped_number way FloatForm = Err Kind

-- a text that is numeric without float form counts as its number
abbrev pub stepped_text : Direction → List ℕ → Answer Data
stepped_text way t = if is_numeric t then stepped_number way (leading_number t) else Err Kind

abbrev pub stepped_null : Direction → Data
stepped_null Up = int (pos 1)
stepped_null Down = null

-- the value after `++` or `--`; `Kind` is the fatal `type`
abbrev pub stepped : Direction → Data → Answer Data
stepped way null = Ok (stepped_null way)
stepped way (truth b) = Ok (truth b)
stepped way (int n) = stepped_int way n
stepped way (bytes t) = stepped_text way t
stepped way (array a) = Err Kind
stepped way (object n) = Err Kind
