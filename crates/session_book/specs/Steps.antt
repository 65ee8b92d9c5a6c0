-- What single marks add, and what walks and lists that are being made have to do with marks.
use Rattle.std.specs.Prelude.{List, [], ◌∷◌, ◌++◌, ℕ, ◌+◌, drop, reverse, ◌≡◌, ◌≤◌, Bool, true, false, ◌&&◌, IsTrue, Option, Some, None, option_map}
use Rattle.std.specs.declared.result.Result.{Result}
use Rattle.std.specs.declared.result.Result.TheVariants.{Ok, Err}
use Rattle.std.specs.declared.alloc.AllocError.{AllocError}
use Rattle.order_map.specs.declared.key.Key.{Key}
use Rattle.order_map.specs.declared.key.Key.TheVariants.{Text}
use Rattle.order_map.specs.Arrays.{pairs_of, next_of}
use Rattle.php_values.specs.Data.{Data, array, ArrayData, of_pairs, Pairs, no_pairs, pair, data_pairs, array_of}
use Rattle.php_values.specs.Compare.{value_of}
use Rattle.php_values.specs.Arithmetic.{put_last}
use Rattle.php_values.specs.Walks.{rest_of}
use Rattle.php_values.specs.declared.walk.Walk.{Walk}
use Rattle.session_book.specs.declared.mark.Mark.{Mark}
use Rattle.session_book.specs.declared.mark.Mark.TheVariants.{Pair, Open, Close}
use Rattle.session_book.specs.declared.text.Turn.{Turn}
use Rattle.session_book.specs.declared.text.Turn.TheVariants.{Ends, Goes}
use Rattle.session_book.specs.declared.read.Outer.{Outer}
use Rattle.session_book.specs.declared.read.Making.{Making}
use Rattle.session_book.specs.Kept.{kept_pairs, is_sound, are_sound, is_sound_array, text_in}
use Rattle.session_book.specs.Marks.{key_data, scalar_data, innermost, with_mark, told}
use Rattle.session_book.specs.Sizes.{key_size, size_of}

-- ---- sizes

abbrev pub mark_size : Mark → ℕ
mark_size (Pair k s) = key_size (key_data k) + size_of (scalar_data s)
mark_size (Open k next) = key_size (key_data k) + 5
mark_size Close = 0

abbrev pub marks_size : List Mark → ℕ
marks_size [] = 0
marks_size (m ∷ ms) = mark_size m + marks_size ms

-- ---- a text that is sought

-- the text at a key in the list at a depth, of what is still to come
abbrev pub sought : List ℕ → ℕ → List Pairs → Option (List ℕ)
sought key depth pss = text_in (value_of (Text key) (innermost (drop depth pss)))

-- what one mark tells of it: the text or that there is none, or the depth at which it is sought behind the mark
abbrev pub TurnIs : List ℕ → ℕ → Mark → Turn → Type 0
TurnIs key depth m (Ends t) = (pss : List Pairs) → option_map (λ t. t.now) t ≡ sought key depth (with_mark m pss)
TurnIs key depth m (Goes d) = (pss : List Pairs) → sought key depth (with_mark m pss) ≡ sought key d pss

abbrev pub GoesWithin : ℕ → Turn → Type 0
GoesWithin most (Ends t) = Unit {0}
GoesWithin most (Goes d) = d ≤ most

-- ---- marks that are written

-- what a walk has still to give
abbrev pub rest_kept : Walk → Pairs
rest_kept w = kept_pairs (data_pairs (rest_of w))

abbrev pub inside_of : Option Walk → List Pairs
inside_of None = []
inside_of (Some w) = rest_kept w ∷ []

abbrev pub all_sound : List Pairs → Bool
all_sound [] = true
all_sound (ps ∷ pss) = are_sound ps && all_sound pss

-- a mark for a pair, and the list that begins with it if one does
pub record Adds (key : Key) (d : Data) (m : Mark) (inside : List Pairs) : Type 0 where
  pub reads : (ps : Pairs) (pss : List Pairs) → with_mark m (inside ++ ps ∷ pss) ≡ pair key d ps ∷ pss
  pub sound : is_sound d ≡ all_sound inside

-- marks for all pairs
pub record Writes (ms : List Mark) (whole : Pairs) : Type 0 where
  pub told : told ms ≡ whole ∷ []
  pub sound : are_sound whole ≡ true

-- ---- lists that are made of marks

abbrev pub joined : Pairs → Pairs → Pairs
joined no_pairs qs = qs
joined (pair k d ps) qs = pair k d (joined ps qs)

-- the whole, of the lists around the innermost one, its pairs so far and its next key, and what is still to come
abbrev pub completed : List Outer → Pairs → ℕ → List Pairs → ArrayData
completed [] done next pss = of_pairs (joined done (innermost pss)) next
completed (o ∷ os) done next pss =
    completed os (put_last o.key (array (of_pairs (joined done (innermost pss)) next)) (data_pairs (pairs_of o.map))) (next_of o.map) (drop 1 pss)

abbrev pub whole_of : Making → List Pairs → ArrayData
whole_of m pss = completed (reverse m.above.items) (data_pairs (pairs_of m.map)) (next_of m.map) pss

-- the whole is an array, whatever is still to come behind a mark
pub record CanTake (making : Making) (m : Mark) : Type 0 where
  pub rest : List Pairs
  pub sound : IsTrue (is_sound_array (whole_of making (with_mark m rest)))

-- a mark was taken: what was still to come behind it is still to come, or it ended the outermost list, which is whole
abbrev pub IsTaken : Making → Making → Mark → Result Bool AllocError → Type 0
IsTaken old new m (Ok true) = (pss : List Pairs) → whole_of new pss ≡ whole_of old (with_mark m pss)
IsTaken old new m (Ok false) = (pss : List Pairs) → array_of new.map ≡ whole_of old (with_mark m pss)
IsTaken old new m (Err e) = Unit {0}
