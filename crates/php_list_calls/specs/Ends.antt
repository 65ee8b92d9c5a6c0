-- Arrays that get values at their ends, or lose them there.
use Rattle.std.specs.Prelude.{List, [], ◌∷◌, ℕ, ◌+◌, ◌-◌, pos, negsuc, Bool, true, false, ◌&&◌, ◌==◌, nat_lt, length, take, drop, if◌then◌else◌}
use Rattle.std.specs.declared.option.Option.{Option}
use Rattle.std.specs.declared.option.Option.TheVariants.{Some, None}
use Rattle.order_map.specs.declared.key.Key.{Key}
use Rattle.order_map.specs.declared.key.Key.TheVariants.{Int, Text}
use Rattle.order_map.specs.Keys.{spent}
use Rattle.php_values.specs.Data.{Data, null, ArrayData, of_pairs, array_pairs, Pairs, no_pairs, pair, count_of}
use Rattle.php_values.specs.Arithmetic.{max_pairs}
use Rattle.php_arguments.specs.declared.fault.CallFault.{CallFault}
use Rattle.php_arguments.specs.declared.fault.CallFault.TheVariants.{Size, Keys}
use Rattle.php_arguments.specs.Answers.{CallAnswer, Ok, Err}
use Rattle.php_list_calls.specs.Items.{Item, items, with_values, renumbered}

-- ---- values behind the others

-- why an array cannot get so many values: it would grow too long, or there are not so many next keys
abbrev pub lack : ArrayData → ℕ → Option CallFault
lack (of_pairs ps next) n =
    if nat_lt max_pairs (count_of ps + n) then Some Size else (if nat_lt spent (next + n) then Some Keys else None)

abbrev pub unless : Option CallFault → ArrayData → CallAnswer ArrayData
unless None a = Ok a
unless (Some f) a = Err f

-- an array with values under its next keys
abbrev pub pushed : ArrayData → List Data → CallAnswer ArrayData
pushed a ds = unless (lack a (length ds)) (with_values a ds)

-- ---- the last value

abbrev pub value_or_null : Option Item → Data
value_or_null None = null
value_or_null (Some e) = e.1

-- the last item, or the one that stands before all
abbrev pub last_or : Option Item → Pairs → Option Item
last_or before no_pairs = before
last_or before (pair k d ps) = last_or (Some (k, d)) ps

abbrev pub last_value : Pairs → Data
last_value ps = value_or_null (last_or None ps)

-- the pairs behind one, but the last of them all
abbrev pub but_last : Key → Data → Pairs → Pairs
but_last k d no_pairs = no_pairs
but_last k d (pair l e ps) = pair k d (but_last l e ps)

-- the next key once a key was taken off: lowered by 1 where it is the number behind that key
abbrev pub next_without : Key → ℕ → ℕ
next_without (Int (pos n)) next = if (next == n + 1) && nat_lt next spent then n else next
next_without (Int (negsuc n)) next = next
next_without (Text t) next = next

abbrev pub next_after_pop : Option Item → ℕ → ℕ
next_after_pop None next = next
next_after_pop (Some e) next = next_without e.0 next

-- an array without its last pair
abbrev pub popped_pairs : Pairs → Pairs
popped_pairs no_pairs = no_pairs
popped_pairs (pair k d ps) = but_last k d ps

abbrev pub popped : ArrayData → ArrayData
popped (of_pairs ps next) = of_pairs (popped_pairs ps) (next_after_pop (last_or None ps) next)

-- ---- the first value

abbrev pub first_value : List Item → Data
first_value [] = null
first_value (e ∷ es) = e.1

-- an array without its first item
abbrev pub shifted : ArrayData → ArrayData
shifted a = renumbered (drop 1 (items a))

-- an array with a value before the others, where it does not grow too long
abbrev pub unshifted : Data → ArrayData → CallAnswer ArrayData
unshifted d a = if nat_lt max_pairs (length (items a) + 1) then Err Size else Ok (renumbered ((Int (pos 0), d) ∷ items a))
