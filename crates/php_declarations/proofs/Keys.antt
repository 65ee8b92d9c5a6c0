-- Numbers of the texts in a list.
use Rattle.std.proofs.Common.{◌≡◌, ℕ, zero, suc, List, [], ◌∷◌, ◌++◌, length, get_or, slice_get, position, Some, refl, sym, ap, ◌∙◌}
use Rattle.std.proofs.lemmas.List.Quantifiers.{position-Some}
use Rattle.std.proofs.lemmas.Option.{slice_get-get_or}
use Rattle.std.specs.Cmp.Lexicographic.{same_text}
use Rattle.std.specs.Str.{bytes_eq}

pub at_number : (texts : List (List ℕ)) (key : List ℕ) (n : ℕ) → Some n ≡ position (bytes_eq key) texts → slice_get texts n ≡ Some key
at_number texts key n is =
    let found = position-Some (bytes_eq key) texts n [] (sym is) in
    slice_get-get_or texts n [] found.0 ∙ ap Some (sym (same_text key (get_or texts n []) (sym found.1)))

-- a text behind the others has the next number
behind : (texts : List (List ℕ)) (key : List ℕ) → slice_get (texts ++ key ∷ []) (length texts) ≡ Some key
behind [] key = refl
behind (x ∷ xs) key = behind xs key

pub at_end : (texts more : List (List ℕ)) (key : List ℕ) (n : ℕ) → more ≡ texts ++ key ∷ [] → n ≡ length texts → slice_get more n ≡ Some key
at_end texts more key n is last = (λ i. slice_get (is i) (last i)) ∙ behind texts key

stays : (texts more : List (List ℕ)) (n : ℕ) (x : List ℕ) → slice_get texts n ≡ Some x → slice_get (texts ++ more) n ≡ Some x
stays [] more n x is = absurd cc
stays (y ∷ ys) more zero x is = is
stays (y ∷ ys) more (suc n) x is = stays ys more n x is

-- the other texts keep their numbers
pub kept : (texts more : List (List ℕ)) (key : List ℕ) → more ≡ texts ++ key ∷ [] → (n : ℕ) (x : List ℕ) → slice_get texts n ≡ Some x → slice_get more n ≡ Some x
kept texts more key is n x there = ap (λ l. slice_get l n) is ∙ stays texts (key ∷ []) n x there
