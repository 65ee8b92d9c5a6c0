-- Parts of a text, and places in it.
use Rattle.std.specs.Prelude.{List, [], ◌∷◌, ℕ, zero, suc, ◌+◌, ◌-◌, ℤ, pos, negsuc, Bool, true, false, ◌==◌, nat_lt, nat_le, length, take, drop, codes, if◌then◌else◌}
use Rattle.std.specs.declared.option.Option.{Option}
use Rattle.std.specs.declared.option.Option.TheVariants.{Some, None}
use Rattle.memchr.specs.Find.{places, matches, first_of, last_of, is_byte}
use Rattle.php_values.specs.Data.{Data, truth, int, bytes}

-- ---- a slice

-- where a slice of a text of n bytes begins: a negative start is counted from the end, and is at least 0
abbrev pub slice_start : ℕ → ℤ → ℕ
slice_start n (pos i) = i
slice_start n (negsuc i) = n - (i + 1)

-- so many bytes of what a text has from there on, or that without so many bytes at the end; false where it has less
abbrev pub counted_slice : List ℕ → ℤ → Data
counted_slice rest (pos n) = bytes (take n rest)
counted_slice rest (negsuc n) = if nat_lt (length rest) (n + 1) then truth false else bytes (take (length rest - (n + 1)) rest)

-- the slice that begins at a place of the text; without a count the rest of it
abbrev pub slice_from : List ℕ → ℕ → Option ℤ → Data
slice_from t start None = bytes (drop start t)
slice_from t start (Some count) = counted_slice (drop start t) count

-- false where the slice would begin behind the end
abbrev pub slice : List ℕ → ℤ → Option ℤ → Data
slice t i count =
    if nat_lt (length t) (slice_start (length t) i) then truth false else slice_from t (slice_start (length t) i) count

-- ---- a place

-- a place that is counted from another one, or false
abbrev pub place_or_false : ℕ → Option ℕ → Data
place_or_false start None = truth false
place_or_false start (Some k) = int (pos (start + k))

-- the first place of a needle at or after a start within the text
abbrev pub place_from : List ℕ → List ℕ → ℕ → Data
place_from t needle start = place_or_false start (first_of (matches (drop start t) needle 0))

-- false for an empty needle, and for a start outside the text
abbrev pub place_of : List ℕ → List ℕ → ℤ → Data
place_of t [] i = truth false
place_of t (b ∷ needle) (negsuc i) = truth false
place_of t (b ∷ needle) (pos i) = if nat_lt (length t) i then truth false else place_from t (b ∷ needle) i

-- ---- the last part of a path

-- the place of the last slash
abbrev pub last_slash : List ℕ → Option ℕ
last_slash t = last_of (places (is_byte 47) t)

-- what stands before it: `.` where there is none, and `/` where nothing is before it
abbrev pub before_slash : List ℕ → Option ℕ → List ℕ
before_slash t None = codes "."
before_slash t (Some k) = if k == 0 then codes "/" else take k t

-- what stands behind it, or the whole text
abbrev pub behind_slash : List ℕ → Option ℕ → List ℕ
behind_slash t None = t
behind_slash t (Some k) = drop (k + 1) t
