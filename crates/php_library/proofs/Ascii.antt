-- A text that is no UTF-8 is no ASCII text.
use Rattle.std.proofs.Common.{◌≡◌, ℕ, Bool, true, false, ◌&&◌, List, [], ◌∷◌, nat_lt, refl, sym, subst}
use Rattle.std.proofs.lemmas.Bool.{ltb-true}
use Rattle.std.proofs.lemmas.Str.{IsUtf8-from_ascii}
use Rattle.std.proofs.lemmas.Str.Ascii.{IsAscii-nil, IsAscii-cons}
use Rattle.std.specs.Cmp.Lexicographic.{same_text}
use Rattle.std.specs.List.{list_all}
use Rattle.std.specs.Str.{bytes_eq, IsUtf8, IsAscii}

-- a text is none of the ASCII texts
abbrev pub Differs : List ℕ → Type 0
Differs t = (s : List ℕ) → list_all (λ b. nat_lt b 128) s ≡ true → bytes_eq t s ≡ false

both : (a b : Bool) → (a && b) ≡ true → (a ≡ true) × (b ≡ true)
both true b e = (refl, e)
both false b e = absurd cc

ascii_of : (s : List ℕ) → list_all (λ b. nat_lt b 128) s ≡ true → IsAscii s
ascii_of [] e = IsAscii-nil
ascii_of (b ∷ s) e = let h = both (nat_lt b 128) (list_all (λ c. nat_lt c 128) s) e in IsAscii-cons b s (ltb-true b 128 h.0) (ascii_of s h.1)

apart : (t s : List ℕ) (b : Bool) → bytes_eq t s ≡ b → ¬ (IsUtf8 t) → IsUtf8 s → b ≡ false
apart t s true e bad fine = absurd (bad (subst IsUtf8 (sym (same_text t s (sym e))) fine))
apart t s false e bad fine = refl

pub differs : (t : List ℕ) → ¬ (IsUtf8 t) → Differs t
differs t bad s ascii = apart t s (bytes_eq t s) refl bad (IsUtf8-from_ascii s (ascii_of s ascii))
