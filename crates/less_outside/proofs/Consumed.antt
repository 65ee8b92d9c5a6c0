-- What a read of std says of what is left.
use Rattle.std.proofs.Common.{◌≡◌, ℕ, ◌<◌, ◌≤◌, List, [], ◌++◌, length, take, refl, sym, ap, ◌∙◌, arith, length-append, length-take}
use Rattle.std.specs.Prelude.{Option, None, Some}
use Rattle.std.specs.Io.KnownBytes.{Consumes, IsAtEnd}
use Rattle.less_outside.specs.Told.{Stays}
use Rattle.less_outside.specs.Link.{EndsExactly}

pub stays : {A : Type 0} (told : Option A) → Stays told told
stays None = tt
stays (Some a) = refl

nothing_left : (xs ys front : List ℕ) → xs ≡ front ++ ys → front ≡ [] → ys ≡ [] → xs ≡ []
nothing_left xs ys front split first last = split ∙ ap (λ l. l ++ ys) first ∙ last

none_taken : (xs ys buf : List ℕ) (n : ℕ) → xs ≡ take n buf ++ ys → n ≤ length buf → xs ≡ [] → n ≡ 0
none_taken xs ys buf n split within empty =
    let whole : 0 ≡ length (take n buf ++ ys) = ap length (sym empty ∙ split) in
    let parts = length-append (take n buf) ys in
    let front = length-take n buf in
    omega (arith, whole, parts, front)

take_none : (buf : List ℕ) (n : ℕ) → n ≡ 0 → take n buf ≡ []
take_none buf n e = ap (λ m. take m buf) e

-- a read that says what it consumed gives nothing exactly at the end
pub ends : (left new : Option (List ℕ)) (buf : List ℕ) (room n : ℕ) → room ≡ length buf → n ≤ length buf → Consumes left new (take n buf) → (n ≡ 0 → 0 < length buf → IsAtEnd new) → EndsExactly left room n
ends None new buf room n same within taken at_end = tt
ends (Some xs) None buf room n same within taken at_end = absurd taken
ends (Some xs) (Some ys) buf room n same within taken at_end = λ some. (
  λ none. nothing_left xs ys (take n buf) taken (take_none buf n none) (at_end none (omega (arith, some, same))),
  none_taken xs ys buf n taken within,
)
