-- What hints ask of a value, and what they make of it.
use Rattle.std.specs.Prelude.{ℕ, ℤ, List, [], ◌∷◌, ◌++◌, Bool, true, false, ◌||◌, codes, if◌then◌else◌}
use Rattle.std.specs.declared.option.Option.{Option}
use Rattle.std.specs.declared.option.Option.TheVariants.{Some, None}
use Rattle.std.specs.Str.{bytes_eq, str_to_ascii_lowercase}
use Rattle.std.specs.Fmt.{signed_decimal}
use Rattle.php_tree.specs.Expressions as e
use Rattle.php_tree.specs.Expressions.{Expression}
use Rattle.php_tree.specs.Statements.{Parameter}
use Rattle.php_tree.specs.declared.decl.Hint.{Hint}
use Rattle.php_values.specs.declared.number.Number.{Number}
use Rattle.php_values.specs.declared.number.Number.TheVariants.{Missing, Whole, FloatForm}
use Rattle.php_values.specs.Data.{Data, null, truth, int, bytes, array, object}
use Rattle.php_values.specs.Convert.{leading_number, is_numeric, zero_or_one, truth_of, text_of}
use Rattle.php_meaning.specs.World.{Name}

abbrev pub whole_number : Number → Option Data
whole_number Missing = None
whole_number (Whole n) = Some (int n)
whole_number FloatForm = None

-- a number, a truth value, or a text that is white space, sign and digits
abbrev pub as_int : Data → Option Data
as_int null = None
as_int (truth b) = Some (int (zero_or_one b))
as_int (int n) = Some (int n)
as_int (bytes t) = if is_numeric t then whole_number (leading_number t) else None
as_int (array a) = None
as_int (object n) = None

abbrev pub text_data : Bool → Data
text_data true = bytes (codes "1")
text_data false = bytes []

abbrev pub as_string : Data → Option Data
as_string null = None
as_string (truth b) = Some (text_data b)
as_string (int n) = Some (bytes (signed_decimal n))
as_string (bytes t) = Some (bytes t)
as_string (array a) = None
as_string (object n) = None

abbrev pub as_bool : Data → Option Data
as_bool null = None
as_bool (truth b) = Some (truth b)
as_bool (int n) = Some (truth (truth_of (int n)))
as_bool (bytes t) = Some (truth (truth_of (bytes t)))
as_bool (array a) = None
as_bool (object n) = None

abbrev pub as_array : Data → Option Data
as_array null = None
as_array (truth b) = None
as_array (int n) = None
as_array (bytes t) = None
as_array (array a) = Some (array a)
as_array (object n) = None

-- a value by the name of a hint in lower case. No value is of a class yet.
abbrev pub by_name : List ℕ → Data → Option Data
by_name name d =
    if bytes_eq name (codes "int") then as_int d
    else if bytes_eq name (codes "string") then as_string d
    else if bytes_eq name (codes "bool") then as_bool d
    else if bytes_eq name (codes "array") then as_array d
    else None

-- null where it is allowed, else the value by the hint's name
abbrev pub by_hint : Bool → List ℕ → Data → Option Data
by_hint nullable name null = if nullable then Some null else by_name name null
by_hint nullable name (truth b) = by_name name (truth b)
by_hint nullable name (int n) = by_name name (int n)
by_hint nullable name (bytes t) = by_name name (bytes t)
by_hint nullable name (array a) = by_name name (array a)
by_hint nullable name (object n) = by_name name (object n)

-- whether a default is written as `null`
abbrev pub is_null_default : Option (Expression Name) → Bool
is_null_default (Some (e.constant c l)) = bytes_eq (str_to_ascii_lowercase c.text) (codes "null")
is_null_default _ = false

-- what a parameter makes of a value, `None` where it refuses it
abbrev pub taken_by : Option Hint → Bool → Data → Option Data
taken_by None nullable d = Some d
taken_by (Some h) nullable d = by_hint (h.nullable || nullable) (str_to_ascii_lowercase h.name.text) d

abbrev pub taken : Parameter Name → Data → Option Data
taken p d = taken_by p.hint (is_null_default p.default) d

abbrev pub is_void : Hint → Bool
is_void h = bytes_eq (str_to_ascii_lowercase h.name.text) (codes "void")

abbrev pub or_null : Option Data → Data
or_null None = null
or_null (Some d) = d

-- `void` wants no value
abbrev pub nothing_given : Option Data → Option Data
nothing_given None = Some null
nothing_given (Some d) = None

-- what a `return` with a value, or without one, gives
abbrev pub given_by : Option Hint → Option Data → Option Data
given_by None d = Some (or_null d)
given_by (Some h) d = if is_void h then nothing_given d else by_hint h.nullable (str_to_ascii_lowercase h.name.text) (or_null d)
