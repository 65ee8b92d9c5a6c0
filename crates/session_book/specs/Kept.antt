-- What a session keeps of an array, and which lists it can keep.
use Rattle.std.specs.Prelude.{List, [], ◌∷◌, ℕ, Bool, true, ◌&&◌, nat_le, Option, Some, None}
use Rattle.order_map.specs.declared.key.Key.{Key}
use Rattle.order_map.specs.declared.key.Key.TheVariants.{Text}
use Rattle.order_map.specs.Keys.{all_distinct, all_below, spent}
use Rattle.php_values.specs.Data.{Data, null, truth, int, bytes, array, object, ArrayData, of_pairs, array_pairs, Pairs, no_pairs, pair}
use Rattle.php_values.specs.Compare.{value_of}

-- an array with null in the place of each object, at every depth
abbrev mutual
  pub without_objects : Data → Data
  without_objects null = null
  without_objects (truth b) = truth b
  without_objects (int n) = int n
  without_objects (bytes t) = bytes t
  without_objects (array a) = array (kept_array a)
  without_objects (object n) = null

  pub kept_array : ArrayData → ArrayData
  kept_array (of_pairs ps next) = of_pairs (kept_pairs ps) next

  pub kept_pairs : Pairs → Pairs
  kept_pairs no_pairs = no_pairs
  kept_pairs (pair k d ps) = pair k (without_objects d) (kept_pairs ps)

-- the keys of pairs in their order
abbrev pub keys_in : Pairs → List Key
keys_in no_pairs = []
keys_in (pair k d ps) = k ∷ keys_in ps

-- no key stands twice, and the next key is above every number key
abbrev pub is_keyed : Pairs → ℕ → Bool
is_keyed ps next = all_distinct (keys_in ps) && (all_below next (keys_in ps) && nat_le next spent)

-- the same at every depth of pairs' values
abbrev mutual
  pub is_sound : Data → Bool
  is_sound null = true
  is_sound (truth b) = true
  is_sound (int n) = true
  is_sound (bytes t) = true
  is_sound (array a) = is_sound_array a
  is_sound (object n) = true

  pub is_sound_array : ArrayData → Bool
  is_sound_array (of_pairs ps next) = is_keyed ps next && are_sound ps

  pub are_sound : Pairs → Bool
  are_sound no_pairs = true
  are_sound (pair k d ps) = is_sound d && are_sound ps

-- the text that a value is, if it is one
abbrev pub text_in : Option Data → Option (List ℕ)
text_in None = None
text_in (Some (bytes t)) = Some t
text_in (Some null) = None
text_in (Some (truth b)) = None
text_in (Some (int n)) = None
text_in (Some (array a)) = None
text_in (Some (object n)) = None

-- the text at a text key
abbrev pub text_at : List ℕ → ArrayData → Option (List ℕ)
text_at key a = text_in (value_of (Text key) (array_pairs a))
