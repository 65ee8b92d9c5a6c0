-- What a read takes from a link.
use Rattle.std.specs.Prelude.{◌≡◌, ℕ, ◌<◌, ◌↔◌, List, [], ⊤, Option, None, Some}

-- into a room that is not empty a read gives nothing exactly at the end of what is left
abbrev pub EndsExactly : Option (List ℕ) → ℕ → ℕ → Type 0
EndsExactly None room count = ⊤
EndsExactly (Some left) room count = 0 < room → ((count ≡ 0) ↔ (left ≡ []))
