-- Paths of files, and names of functions.
use Rattle.std.specs.Prelude.{ℕ, ◌==◌, Bool, false, not, ◌&&◌, ◌||◌, List, [], ◌∷◌, codes, length, nat_le, take, drop}
use Rattle.std.specs.List.{list_all, slice_split, position_or_len}
use Rattle.std.specs.Str.{bytes_eq}
use Rattle.less_terms.specs.Forms.{is_lower, is_name_byte}

-- ---- paths

-- a byte of ASCII that can be printed, but for quotes, the backslash and `#`
abbrev pub is_path_byte : ℕ → Bool
is_path_byte byte = (nat_le 32 byte && nat_le byte 126) && not (byte == 34 || (byte == 39 || (byte == 92 || byte == 35)))

abbrev pub is_slash : ℕ → Bool
is_slash byte = byte == 47

-- what stands between two slashes: not nothing, and no step within the folders
abbrev pub is_segment : List ℕ → Bool
is_segment [] = false
is_segment (first ∷ rest) = not (bytes_eq (first ∷ rest) (codes ".") || bytes_eq (first ∷ rest) (codes ".."))

-- segments parted by slashes, at most 200 bytes in all
abbrev pub is_path : List ℕ → Bool
is_path text = nat_le (length text) 200 && (list_all is_path_byte text && list_all is_segment (slice_split is_slash text))

-- ---- names of functions, in lower case

-- a lower-case letter or an underscore, and then lower-case letters, digits and underscores, at most 100 bytes
abbrev pub is_word : List ℕ → Bool
is_word [] = false
is_word (first ∷ rest) = (is_lower first || first == 95) && (nat_le (length rest) 99 && list_all is_name_byte rest)

abbrev pub is_colon : ℕ → Bool
is_colon byte = byte == 58

-- the place of the first colon, or the end
abbrev pub colon_place : List ℕ → ℕ
colon_place text = position_or_len is_colon text

abbrev pub is_method : List ℕ → Bool
is_method [] = false
is_method (first ∷ []) = false
is_method (first ∷ second ∷ word) = is_colon first && (is_colon second && is_word word)

-- a class, `::` and a method
abbrev pub is_method_name : List ℕ → Bool
is_method_name text = is_word (take (colon_place text) text) && is_method (drop (colon_place text) text)

abbrev pub is_function_name : List ℕ → Bool
is_function_name text = is_word text || is_method_name text
