-- Bytes of a text taken one by one: letters, blanks, digits, and the order of texts.
use Rattle.std.specs.Prelude.{List, [], ◌∷◌, ℕ, ◌+◌, ◌-◌, ◌%◌, ℤ, pos, negsuc, Bool, false, ◌&&◌, ◌==◌, length, take, drop, map, not, if◌then◌else◌}
use Rattle.std.specs.declared.option.Option.{Option}
use Rattle.std.specs.declared.option.Option.TheVariants.{Some, None}
use Rattle.std.specs.Char.{to_ascii_lowercase, to_ascii_uppercase}
use Rattle.std.specs.List.{list_all}
use Rattle.std.specs.Cmp.Lexicographic.{slice_cmp}
use Rattle.std.specs.Ordering.{nat_cmp}
use Rattle.std.specs.declared.cmp.Ordering.{Ordering}
use Rattle.std.specs.declared.cmp.Ordering.TheVariants.{Less, Equal, Greater}
use Rattle.memchr.specs.Find.{places, first_of, last_of}
use Rattle.bstr.specs.Bytes.{not_in}
use Rattle.php_values.specs.Convert.{is_digit}

-- ---- case: only the letters of ASCII change

abbrev pub lower : List ℕ → List ℕ
lower t = map to_ascii_lowercase t

abbrev pub upper : List ℕ → List ℕ
upper t = map to_ascii_uppercase t

abbrev pub first_upper : List ℕ → List ℕ
first_upper [] = []
first_upper (b ∷ t) = to_ascii_uppercase b ∷ t

-- ---- blanks at the ends

-- space, tab, LF, CR, NUL, VT
abbrev pub blanks : List ℕ
blanks = 32 ∷ 9 ∷ 10 ∷ 13 ∷ 0 ∷ 11 ∷ []

-- the places of the bytes that are no blanks
abbrev pub kept_places : List ℕ → List ℕ
kept_places t = places (not_in blanks) t

-- a text from a place on, or nothing where there is none
abbrev pub from_place : List ℕ → Option ℕ → List ℕ
from_place t None = []
from_place t (Some k) = drop k t

-- a text up to the byte at a place, or nothing where there is none
abbrev pub up_to_place : List ℕ → Option ℕ → List ℕ
up_to_place t None = []
up_to_place t (Some k) = take (k + 1) t

abbrev pub left_trimmed : List ℕ → List ℕ
left_trimmed t = from_place t (first_of (kept_places t))

abbrev pub right_trimmed : List ℕ → List ℕ
right_trimmed t = up_to_place t (last_of (kept_places t))

abbrev pub trimmed : List ℕ → List ℕ
trimmed t = right_trimmed (left_trimmed t)

-- ---- bytes and numbers

-- the first byte, or 0
abbrev pub first_byte : List ℕ → ℕ
first_byte [] = 0
first_byte (b ∷ t) = b

-- a number modulo 256
abbrev pub byte_of : ℤ → ℕ
byte_of (pos n) = n % 256
byte_of (negsuc n) = 255 - n % 256

-- a text that is not empty and has digits alone
abbrev pub all_digits : List ℕ → Bool
all_digits t = not (length t == 0) && list_all is_digit t

-- ---- order

abbrev pub sign_of : Ordering → ℤ
sign_of Less = negsuc 0
sign_of Equal = pos 0
sign_of Greater = pos 1

-- texts byte by byte, and a text before those that it begins
abbrev pub text_order : List ℕ → List ℕ → ℤ
text_order s t = sign_of (slice_cmp nat_cmp s t)
