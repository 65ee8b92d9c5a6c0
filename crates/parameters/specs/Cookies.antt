-- The array of the cookies that `Cookie` headers give.
use Rattle.std.specs.Prelude.{ℕ, Bool, ◌==◌, List, [], ◌∷◌}
use Rattle.std.specs.List.{slice_split}
use Rattle.form_urlencoded.specs.Form.{split_pair}
use Rattle.php_values.specs.Data.{Data, bytes, ArrayData}
use Rattle.php_values.specs.Convert.{after_all}
use Rattle.php_values.specs.Arithmetic.{value_in, added_if_missing}
use Rattle.parameters.specs.Names.{is_space, key_of}
use Rattle.parameters.specs.Parameters.{text_of}

abbrev pub is_semicolon : ℕ → Bool
is_semicolon b = b == 59

-- the array with a cookie of this name, if it has none yet; a cookie without a name is dropped
abbrev pub with_named : List ℕ → Data → ArrayData → ArrayData
with_named [] value a = a
with_named (b ∷ t) value a = added_if_missing (value_in (key_of (b ∷ t)) a) (key_of (b ∷ t)) value a

-- the same of a name and a value that are encoded
abbrev pub with_encoded : List ℕ × List ℕ → ArrayData → ArrayData
with_encoded p a = with_named (text_of p.0) (bytes (text_of p.1)) a

-- the same of a piece of a header: its leading spaces are dropped, and `=` parts name and value
abbrev pub with_cookie : List ℕ → ArrayData → ArrayData
with_cookie piece a = with_encoded (split_pair (after_all is_space piece)) a

abbrev pub with_cookies : List (List ℕ) → ArrayData → ArrayData
with_cookies [] a = a
with_cookies (piece ∷ pieces) a = with_cookies pieces (with_cookie piece a)

-- the array with the cookies of one more header, whose pieces are parted by `;`
abbrev pub with_header : List ℕ → ArrayData → ArrayData
with_header value a = with_cookies (slice_split is_semicolon value) a
