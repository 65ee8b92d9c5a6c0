-- Arrays as lists of words, by which a proof tells two of them apart. No contract cites a word.
use Rattle.std.specs.Prelude.{List, [], ◌∷◌, ℕ, ℤ, Bool, drop, ◌≡◌, refl}
use mathlib.Core.Logic.{◌⊎◌, inl, inr}
use Rattle.std.specs.Coded.{Coded, code_by, coded×, coded⊎, coded_ℕ, coded_ℤ, coded_bool, coded_list}
use base.Stored.{coded_unit}
use mathlib.Core.Path.{ap, ◌∙◌}
use Rattle.order_map.specs.declared.key.Key.{Key}
use Rattle.order_map.specs.declared.key.Key.TheVariants.{Int, Text}
use Rattle.php_values.specs.Data.{Data, null, truth, int, bytes, array, object, ArrayData, of_pairs, Pairs, no_pairs, pair}

-- a key, a value that is no array, and a word: a pair with such a value, a key whose array begins with its next key, or an end
abbrev pub KeyWord : Type 0
KeyWord = ℤ ⊎ List ℕ

abbrev pub Leaf : Type 0
Leaf = Unit {0} ⊎ (Bool ⊎ (ℤ ⊎ (List ℕ ⊎ ℕ)))

abbrev pub Word : Type 0
Word = (KeyWord × Leaf) ⊎ ((KeyWord × ℕ) ⊎ Unit {0})

abbrev pub key_word : Key → KeyWord
key_word (Int n) = inl n
key_word (Text t) = inr t

abbrev pub key_told : KeyWord → Key
key_told (inl n) = Int n
key_told (inr t) = Text t

abbrev pub leaf_told : Leaf → Data
leaf_told (inl u) = null
leaf_told (inr (inl b)) = truth b
leaf_told (inr (inr (inl n))) = int n
leaf_told (inr (inr (inr (inl t)))) = bytes t
leaf_told (inr (inr (inr (inr n)))) = object n

-- the words of pairs in front of others
abbrev mutual
  pub words_of : Pairs → List Word → List Word
  words_of no_pairs ws = inr (inr tt) ∷ ws
  words_of (pair k d ps) ws = value_words k d (words_of ps ws)

  pub value_words : Key → Data → List Word → List Word
  value_words k null ws = inl (key_word k, inl tt) ∷ ws
  value_words k (truth b) ws = inl (key_word k, inr (inl b)) ∷ ws
  value_words k (int n) ws = inl (key_word k, inr (inr (inl n))) ∷ ws
  value_words k (bytes t) ws = inl (key_word k, inr (inr (inr (inl t)))) ∷ ws
  value_words k (array a) ws = array_words k a ws
  value_words k (object n) ws = inl (key_word k, inr (inr (inr (inr n)))) ∷ ws

  pub array_words : Key → ArrayData → List Word → List Word
  array_words k (of_pairs ps next) ws = inr (inl (key_word k, next)) ∷ words_of ps ws

abbrev pub first_told : List Pairs → Pairs
first_told [] = no_pairs
first_told (ps ∷ pss) = ps

-- what a word in front of others tells of the open arrays, the innermost first
abbrev pub with_word : Word → List Pairs → List Pairs
with_word (inl w) pss = pair (key_told w.0) (leaf_told w.1) (first_told pss) ∷ drop 1 pss
with_word (inr (inl w)) pss = pair (key_told w.0) (array (of_pairs (first_told pss) w.1)) (first_told (drop 1 pss)) ∷ drop 1 (drop 1 pss)
with_word (inr (inr u)) pss = no_pairs ∷ pss

abbrev pub words_told : List Word → List Pairs
words_told [] = []
words_told (w ∷ ws) = with_word w (words_told ws)

key_there : (k : Key) → key_told (key_word k) ≡ k
key_there (Int n) = refl
key_there (Text t) = refl

mutual
  pairs_there : (ps : Pairs) (ws : List Word) → words_told (words_of ps ws) ≡ ps ∷ words_told ws
  pairs_there no_pairs ws = refl
  pairs_there (pair k d ps) ws =
      value_there k d (words_of ps ws) ∙ ap (λ pss. pair k d (first_told pss) ∷ drop 1 pss) (pairs_there ps ws)

  value_there : (k : Key) (d : Data) (ws : List Word) → words_told (value_words k d ws) ≡ pair k d (first_told (words_told ws)) ∷ drop 1 (words_told ws)
  value_there k null ws = ap (λ k. pair k null (first_told (words_told ws)) ∷ drop 1 (words_told ws)) (key_there k)
  value_there k (truth b) ws = ap (λ k. pair k (truth b) (first_told (words_told ws)) ∷ drop 1 (words_told ws)) (key_there k)
  value_there k (int n) ws = ap (λ k. pair k (int n) (first_told (words_told ws)) ∷ drop 1 (words_told ws)) (key_there k)
  value_there k (bytes t) ws = ap (λ k. pair k (bytes t) (first_told (words_told ws)) ∷ drop 1 (words_told ws)) (key_there k)
  value_there k (array a) ws = array_there k a ws
  value_there k (object n) ws = ap (λ k. pair k (object n) (first_told (words_told ws)) ∷ drop 1 (words_told ws)) (key_there k)

  array_there : (k : Key) (a : ArrayData) (ws : List Word) → words_told (array_words k a ws) ≡ pair k (array a) (first_told (words_told ws)) ∷ drop 1 (words_told ws)
  array_there k (of_pairs ps next) ws =
      ap (λ pss. pair (key_told (key_word k)) (array (of_pairs (first_told pss) next)) (first_told (drop 1 pss)) ∷ drop 1 (drop 1 pss)) (pairs_there ps ws)
      ∙ ap (λ k. pair k (array (of_pairs ps next)) (first_told (words_told ws)) ∷ drop 1 (words_told ws)) (key_there k)

abbrev pub of_words : List Word × ℕ → ArrayData
of_words w = of_pairs (first_told (words_told w.0)) w.1

abbrev pub to_words : ArrayData → List Word × ℕ
to_words (of_pairs ps next) = (words_of ps [], next)

pub there : (a : ArrayData) → of_words (to_words a) ≡ a
there (of_pairs ps next) = ap (λ pss. of_pairs (first_told pss) next) (pairs_there ps [])

abbrev pub array_code : Coded ArrayData
array_code =
    code_by (List Word × ℕ)
    (coded× (coded_list (coded⊎ (coded× (coded⊎ coded_ℤ (coded_list coded_ℕ)) (coded⊎ coded_unit (coded⊎ coded_bool (coded⊎ coded_ℤ (coded⊎ (coded_list coded_ℕ) coded_ℕ))))) (coded⊎ (coded× (coded⊎ coded_ℤ (coded_list coded_ℕ)) coded_ℕ) coded_unit))) coded_ℕ)
    to_words of_words there
