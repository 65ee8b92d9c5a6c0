-- The array of the parameters that a form or a query gives.
use Rattle.std.specs.Prelude.{ℕ, List, [], ◌∷◌, take, Option, None, Some}
use Rattle.std.specs.Str.Lossy.{utf8_lossy}
use Rattle.form_urlencoded.specs.Form.{decode, raw_pairs}
use Rattle.php_values.specs.Data.{Data, bytes, ArrayData}
use Rattle.parameters.specs.declared.step.Step.{Step}
use Rattle.parameters.specs.declared.TheConstants.{MAX_PAIRS}
use Rattle.parameters.specs.Names.{path_of}
use Rattle.parameters.specs.Nested.{no_array, written_in}

-- the text of encoded bytes, with U+FFFD in the place of what is not UTF-8
abbrev pub text_of : List ℕ → List ℕ
text_of encoded = utf8_lossy (decode encoded)

-- the array with a value at the end of a path; as it was where there is no path
abbrev pub with_value : Option (List Step) → Data → ArrayData → ArrayData
with_value None value a = a
with_value (Some path) value a = written_in value path a

-- the array with one more pair of an encoded name and an encoded value
abbrev pub with_pair : List ℕ × List ℕ → ArrayData → ArrayData
with_pair p a = with_value (path_of (text_of p.0)) (bytes (text_of p.1)) a

abbrev pub with_pairs : List (List ℕ × List ℕ) → ArrayData → ArrayData
with_pairs [] a = a
with_pairs (p ∷ ps) a = with_pairs ps (with_pair p a)

-- the parameters of a form: its first 1,000 pairs, one after another
abbrev pub parameters_of : List ℕ → ArrayData
parameters_of input = with_pairs (take MAX_PAIRS (raw_pairs input)) no_array
