-- Texts that are cut, joined, repeated and padded.
use Rattle.std.specs.Prelude.{List, [], ◌∷◌, ◌++◌, ℕ, ◌+◌, ◌-◌, ◌/◌, ℤ, pos, negsuc, Bool, true, false, ◌||◌, ◌==◌, nat_le, length, take, map, reverse, if◌then◌else◌}
use Rattle.std.specs.Ordering.{int_eq}
use Rattle.memchr.specs.Find.{matches}
unfoldable pub use Rattle.bstr.specs.Text.{split_at, repeated}
use Rattle.php_values.specs.Data.{Data, null, truth, int, bytes, array, object, Pairs, no_pairs, pair}
use Rattle.php_arguments.specs.declared.fault.CallFault.TheVariants.{Mistyped}
use Rattle.php_arguments.specs.Answers.{CallAnswer, Ok, Err, go_on}
use Rattle.php_arguments.specs.Arguments.{text_row}
use Rattle.php_arguments.specs.Results.{sized_text, sized_list}

-- ---- pieces

-- the pieces of a text between the places of a separator, which do not overlap and are taken from the left
abbrev pub pieces : List ℕ → List ℕ → List (List ℕ)
pieces separator t = split_at t (length separator) 0 (matches t separator 0)

abbrev pub piece_values : List ℕ → List ℕ → List Data
piece_values separator t = map bytes (pieces separator t)

-- the pieces as an array, and false for an empty separator
abbrev pub exploded : List ℕ → List ℕ → CallAnswer Data
exploded [] t = Ok (truth false)
exploded (b ∷ separator) t = sized_list (piece_values (b ∷ separator) t)

-- ---- joined

-- texts in a row, with one text before the first of them and another before each later one
abbrev pub glued : List ℕ → List ℕ → List (List ℕ) → List ℕ
glued first glue [] = []
glued first glue (t ∷ ts) = first ++ (t ++ glued glue glue ts)

-- texts in a row, with another between each two
abbrev pub joined : List ℕ → List (List ℕ) → List ℕ
joined glue ts = glued [] glue ts

-- a text with each place of another replaced; an empty text has no places
abbrev pub replaced : List ℕ → List ℕ → List ℕ → List ℕ
replaced [] by t = t
replaced (b ∷ search) by t = joined by (pieces (b ∷ search) t)

-- the texts of an array's values
abbrev pub texts_of : Pairs → CallAnswer (List (List ℕ))
texts_of no_pairs = Ok []
texts_of (pair k d ps) = go_on (text_row d) (λ t. go_on (texts_of ps) (λ ts. Ok (t ∷ ts)))

abbrev pub imploded : List ℕ → Pairs → CallAnswer Data
imploded glue ps = go_on (texts_of ps) (λ ts. sized_text (joined glue ts))

-- ---- repeated and padded

abbrev pub repetition : List ℕ → ℤ → CallAnswer Data
repetition t (pos n) = sized_text (repeated n t)
repetition t (negsuc n) = Err Mistyped

-- n bytes of a text that is repeated as often as it takes
abbrev pub padding : ℕ → List ℕ → List ℕ
padding n pad = take n (repeated (n / length pad + 1) pad)

-- a text with a padding that gives it n bytes, at the left end (0) or the right end (1)
abbrev pub padded_to : List ℕ → ℕ → List ℕ → ℤ → CallAnswer Data
padded_to t n pad side =
    if int_eq side (pos 0) then sized_text (padding (n - length t) pad ++ t)
    else (if int_eq side (pos 1) then sized_text (t ++ padding (n - length t) pad) else Err Mistyped)

abbrev pub at_least_zero : ℤ → ℕ
at_least_zero (pos n) = n
at_least_zero (negsuc n) = 0

-- a text that is long enough stays
abbrev pub padded : List ℕ → ℤ → List ℕ → ℤ → CallAnswer Data
padded t n [] side = Err Mistyped
padded t n (b ∷ pad) side = padded_to t (at_least_zero n) (b ∷ pad) side
