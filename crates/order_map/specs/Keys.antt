-- Keys, and lists of keys.
use Rattle.std.specs.Prelude.{List, [], ◌∷◌, ℕ, pos, negsuc, ◌+◌, max, Bool, true, false, not, ◌&&◌, ◌||◌, nat_lt, ◌^◌}
use Rattle.std.specs.Ordering.{int_eq}
use Rattle.std.specs.Str.{bytes_eq}
use Rattle.order_map.specs.declared.key.Key.{Key}
use Rattle.order_map.specs.declared.key.Key.TheVariants.{Int, Text}

-- whether two keys are the same number or the same text
abbrev pub same_key : Key → Key → Bool
same_key (Int a) (Int b) = int_eq a b
same_key (Int a) (Text t) = false
same_key (Text s) (Int b) = false
same_key (Text s) (Text t) = bytes_eq s t

-- whether a key is among others
abbrev pub has_key : Key → List Key → Bool
has_key key [] = false
has_key key (k ∷ ks) = same_key k key || has_key key ks

-- whether no key stands twice
abbrev pub all_distinct : List Key → Bool
all_distinct [] = true
all_distinct (k ∷ ks) = not (has_key k ks) && all_distinct ks

-- whether a key is a text, or a number below a bound
abbrev pub is_below : ℕ → Key → Bool
is_below bound (Int (pos n)) = nat_lt n bound
is_below bound (Int (negsuc n)) = true
is_below bound (Text t) = true

abbrev pub all_below : ℕ → List Key → Bool
all_below bound [] = true
all_below bound (k ∷ ks) = is_below bound k && all_below bound ks

-- the next key where it is spent: it would be the number after the greatest one
abbrev pub spent : ℕ
spent = 2 ^ 63

-- the next key after a key was set
abbrev pub next_after : Key → ℕ → ℕ
next_after (Int (pos n)) next = max next (n + 1)
next_after (Int (negsuc n)) next = next
next_after (Text t) next = next
