-- Texts that are sought mark by mark.
use Rattle.std.proofs.Common.{◌≡◌, ℕ, zero, suc, ◌+◌, ◌<◌, ◌≤◌, false, List, [], ◌∷◌, length, drop, get_or, Option, None, refl, sym, ap, ◌∙◌, arith}
use Rattle.std.proofs.Math.Seq.{drop-nil}
use Rattle.std.proofs.lemmas.List.{drop_all}
use Rattle.order_map.specs.declared.key.Key.{Key}
use Rattle.order_map.specs.declared.key.Key.TheVariants.{Text}
use Rattle.order_map.specs.Keys.{same_key}
use Rattle.php_values.specs.Data.{Data, Pairs, no_pairs}
use Rattle.php_values.specs.Compare.{value_of}
use Rattle.session_book.specs.declared.mark.Mark.{Mark}
use Rattle.session_book.specs.Kept.{text_in}
use Rattle.session_book.specs.Marks.{innermost, with_pair, with_list, with_mark, with_marks}
use Rattle.session_book.specs.Steps.{sought}
use Rattle.session_book.proofs.Lists.{drop-item}

-- behind a pair in a list inside
deeper : (d : ℕ) (pss : List Pairs) → drop d (drop 1 pss) ≡ drop (suc d) pss
deeper d [] = drop-nil d
deeper d (ps ∷ pss) = refl

deeper-two : (d : ℕ) (pss : List Pairs) → drop d (drop 1 (drop 1 pss)) ≡ drop (suc d + 1) pss
deeper-two d pss = let n : suc d + 1 ≡ suc (suc d) = omega arith in rw n (deeper d (drop 1 pss) ∙ deeper (suc d) pss)

-- a pair whose key is not sought, or which stands in a list inside
pub past-pair : (key : List ℕ) (depth : ℕ) (k : Key) (d : Data) (pss : List Pairs) → (depth ≡ 0 → same_key k (Text key) ≡ false) → sought key depth (with_pair k d pss) ≡ sought key depth pss
past-pair key zero k d pss other = let e = other refl in rw e refl
past-pair key (suc n) k d pss other = ap (λ l. text_in (value_of (Text key) (innermost l))) (deeper n pss)

-- a list that begins likewise
pub past-list : (key : List ℕ) (depth : ℕ) (k : Key) (next : ℕ) (pss : List Pairs) → (depth ≡ 0 → same_key k (Text key) ≡ false) → sought key depth (with_list k next pss) ≡ sought key (depth + 1) pss
past-list key zero k next pss other = let e = other refl in rw e refl
past-list key (suc n) k next pss other = ap (λ l. text_in (value_of (Text key) (innermost l))) (deeper-two n pss)

-- what is sought among the marks still to come
pub record Seeks (key : List ℕ) (ms : List Mark) (whole : Option (List ℕ)) (depth i : ℕ) : Type 0 where
  pub found : whole ≡ sought key depth (with_marks (drop i ms) (no_pairs ∷ []))
  pub within : depth ≤ i

pub seeks-front : (key : List ℕ) (ms : List Mark) (whole : Option (List ℕ)) (depth i : ℕ) (m : Mark) → Seeks key ms whole depth i → i < length ms → m ≡ get_or ms i m
    → whole ≡ sought key depth (with_mark m (with_marks (drop (i + 1) ms) (no_pairs ∷ [])))
seeks-front key ms whole depth i m h l e = h.found ∙ ap (λ l. sought key depth (with_marks l (no_pairs ∷ []))) (drop-item ms i m l e)

nothing-left : (key : List ℕ) (depth : ℕ) → sought key depth (no_pairs ∷ []) ≡ None
nothing-left key zero = refl
nothing-left key (suc d) = ap (λ l. text_in (value_of (Text key) (innermost l))) (drop-nil d)

pub seeks-none : (key : List ℕ) (ms : List Mark) (whole : Option (List ℕ)) (depth i : ℕ) → Seeks key ms whole depth i → length ms ≤ i → None ≡ whole
seeks-none key ms whole depth i h l =
    sym (h.found ∙ ap (λ l. sought key depth (with_marks l (no_pairs ∷ []))) (drop_all i ms l) ∙ nothing-left key depth)
