-- What the name of a parameter tells: the key of its value, and the keys within that.
use Rattle.std.specs.Prelude.{ℕ, zero, suc, ◌+◌, Bool, ◌||◌, ◌==◌, List, [], ◌∷◌, map, take, drop, position, Option, None, Some, if◌then◌else◌}
use Rattle.std.specs.List.{position_or_len}
use Rattle.std.specs.Option.{option_map}
use Rattle.order_map.specs.declared.key.Key.{Key}
use Rattle.php_values.specs.Convert.{begins, after_all, normal_number, text_key}
use Rattle.parameters.specs.declared.step.Step.{Step}
use Rattle.parameters.specs.declared.step.Step.TheVariants.{At, Next}
use Rattle.parameters.specs.declared.TheConstants.{MAX_BRACKETS}

abbrev pub is_space : ℕ → Bool
is_space b = b == 32

-- `[` and `]`
abbrev pub is_open : ℕ → Bool
is_open b = b == 91

abbrev pub is_close : ℕ → Bool
is_close b = b == 93

-- the key of a text: a number where the text is its normal form
abbrev pub key_of : List ℕ → Key
key_of t = text_key (normal_number t) t

-- dots and spaces of a name become `_`
abbrev pub name_byte : ℕ → ℕ
name_byte b = if b == 46 || b == 32 then 95 else b

abbrev pub name_key : List ℕ → Key
name_key t = key_of (map name_byte t)

-- what stands in brackets: a key, or nothing for the next free number
abbrev pub step_of : List ℕ → Step
step_of [] = Next
step_of (b ∷ t) = At (key_of (b ∷ t))

-- a bracket's step, where it is closed, in front of those that follow
abbrev pub with_close : (List ℕ → Option (List Step)) → List ℕ → Option ℕ → Option (List Step)
with_close more t None = None
with_close more t (Some end) = option_map (λ steps. step_of (take end t) ∷ steps) (more (drop (end + 1) t))

-- the steps of the brackets that a text begins with; none where one is not closed, or where they are more than so many.
-- What follows the last bracket is ignored
unfoldable pub brackets : ℕ → List ℕ → Option (List Step)
brackets zero t = if begins is_open t then None else Some []
brackets (suc n) t =
    if begins is_open t then with_close (brackets n) (drop 1 t) (position is_close (drop 1 t)) else Some []

-- the place of the first `[`, or the end
abbrev pub open_at : List ℕ → ℕ
open_at t = position_or_len is_open t

-- the path of a name that has this front, and then these steps; none where the front is empty
abbrev pub path_from : List ℕ → Option (List Step) → Option (List Step)
path_from [] steps = None
path_from (b ∷ t) steps = option_map (λ steps. At (name_key (b ∷ t)) ∷ steps) steps

-- the path of a name without leading spaces
abbrev pub path_at : List ℕ → Option (List Step)
path_at t = path_from (take (open_at t) t) (brackets MAX_BRACKETS (drop (open_at t) t))

-- the path to the place that a decoded name tells, from the array of all parameters; none where its pair is dropped
abbrev pub path_of : List ℕ → Option (List Step)
path_of name = path_at (after_all is_space name)
