-- How a session's value is written down as marks, and what marks tell.
use Rattle.std.specs.Prelude.{List, [], ◌∷◌, ℕ, drop, ◌≡◌, IsTrue}
use Rattle.order_map.specs.declared.key.Key.{Key}
use Rattle.order_map.specs.declared.key.Key.TheVariants as key
use Rattle.php_values.specs.Data.{Data, null, truth, int, bytes, array, ArrayData, of_pairs, Pairs, no_pairs, pair}
use Rattle.session_book.specs.declared.mark.SessionKey.{SessionKey}
use Rattle.session_book.specs.declared.mark.SessionKey.TheVariants as session_key
use Rattle.session_book.specs.declared.mark.Scalar.{Scalar}
use Rattle.session_book.specs.declared.mark.Scalar.TheVariants as scalar
use Rattle.session_book.specs.declared.mark.Mark.{Mark}
use Rattle.session_book.specs.declared.mark.Mark.TheVariants.{Pair, Open, Close}
use Rattle.session_book.specs.Kept.{is_sound_array}

abbrev pub key_data : SessionKey → Key
key_data (session_key.Int n) = key.Int n
key_data (session_key.Text t) = key.Text t

abbrev pub scalar_data : Scalar → Data
scalar_data scalar.Null = null
scalar_data (scalar.Bool b) = truth b
scalar_data (scalar.Int n) = int n
scalar_data (scalar.Text t) = bytes t

-- the pairs of the innermost of some open lists
abbrev pub innermost : List Pairs → Pairs
innermost [] = no_pairs
innermost (ps ∷ pss) = ps

-- what is still to come of the open lists, the innermost first, where a mark stands before what is to come then
abbrev pub with_pair : Key → Data → List Pairs → List Pairs
with_pair k d pss = pair k d (innermost pss) ∷ drop 1 pss

abbrev pub with_list : Key → ℕ → List Pairs → List Pairs
with_list k next pss = pair k (array (of_pairs (innermost pss) next)) (innermost (drop 1 pss)) ∷ drop 1 (drop 1 pss)

abbrev pub with_mark : Mark → List Pairs → List Pairs
with_mark (Pair k s) pss = with_pair (key_data k) (scalar_data s) pss
with_mark (Open k next) pss = with_list (key_data k) next pss
with_mark Close pss = no_pairs ∷ pss

abbrev pub with_marks : List Mark → List Pairs → List Pairs
with_marks [] pss = pss
with_marks (m ∷ ms) pss = with_mark m (with_marks ms pss)

-- what marks tell: the outermost list alone is open behind the last of them
abbrev pub told : List Mark → List Pairs
told ms = with_marks ms (no_pairs ∷ [])

abbrev pub content : List Mark → ℕ → ArrayData
content ms next = of_pairs (innermost (told ms)) next

-- marks that close what they open, and a content as arrays have it
pub record IsWritten (ms : List Mark) (next : ℕ) : Type 0 where
  pub closed : drop 1 (told ms) ≡ []
  pub sound : IsTrue (is_sound_array (content ms next))
