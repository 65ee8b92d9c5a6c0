-- Texts with their lengths before them, as rows and journals hold them.
use Rattle.std.specs.Prelude.{◌≡◌, ℕ, List, ◌∷◌, ◌++◌, length, decimal}

-- the length in decimal, `:`, and the bytes
abbrev pub text_of : List ℕ → List ℕ
text_of text = decimal (length text) ++ 58 ∷ text

-- the bytes begin with no such text
abbrev pub HasNoText : List ℕ → Type 0
HasNoText bytes = (text rest : List ℕ) → bytes ≡ text_of text ++ rest → ⊥
