-- What library calls give: texts and arrays within their limits.
use Rattle.std.specs.Prelude.{◌≡◌, ◌≢◌, List, [], ◌∷◌, ◌++◌, ℕ, ◌+◌, pos, length, nat_le, if◌then◌else◌}
use Rattle.order_map.specs.declared.key.Key.TheVariants.{Int}
use Rattle.php_values.specs.Data.{Data, bytes, array, ArrayData, of_pairs, Pairs, no_pairs, pair}
use Rattle.php_values.specs.Arithmetic.{max_text, max_pairs}
use Rattle.php_arguments.specs.declared.fault.CallFault.{CallFault}
use Rattle.php_arguments.specs.declared.fault.CallFault.TheVariants.{Size, Memory}
use Rattle.php_arguments.specs.Answers.{CallAnswer, Result, Ok, Err}

-- a text, where it is not too long
abbrev pub sized_text : List ℕ → CallAnswer Data
sized_text t = if nat_le (length t) max_text then Ok (bytes t) else Err Size

-- values under the keys from n on
abbrev pub numbered : ℕ → List Data → Pairs
numbered n [] = no_pairs
numbered n (d ∷ ds) = pair (Int (pos n)) d (numbered (n + 1) ds)

-- the array of some values, whose keys are 0, 1 and so on
abbrev pub array_list : List Data → ArrayData
array_list ds = of_pairs (numbered 0 ds) (length ds)

-- the same, where it is not too long
abbrev pub sized_list : List Data → CallAnswer Data
sized_list ds = if nat_le (length ds) max_pairs then Ok (array (array_list ds)) else Err Size

-- a list with a value behind its own, where it is not too long
abbrev pub listed : List Data → Data → CallAnswer (List Data)
listed ds d = if nat_le max_pairs (length ds) then Err Size else Ok (ds ++ d ∷ [])

abbrev pub IsListed : CallAnswer (List Data) → ArrayData → Type 0
IsListed (Ok ds) a = a ≡ array_list ds
IsListed (Err f) a = ⊥

-- a list that was changed as its definition says, or a fault
abbrev pub GivesList : {A : Type 0} → CallAnswer (List Data) → ArrayData → Result A CallFault → Type 0
GivesList expected new (Ok u) = IsListed expected new
GivesList expected new (Err f) = f ≢ Memory → expected ≡ Err f
