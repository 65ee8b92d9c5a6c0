-- The segments of a path are what a slice is split into.
use denote.Ref.{Bor}
use Rattle.std.proofs.Common.{◌≡◌, ℕ, suc, ◌<◌, codes, get_or, drop, drop-cons, append-nil, cond, List, [], ◌∷◌, ◌++◌, ◌==◌, length, map, Option, Some, None, refl, sym, ap, ◌∙◌, arith}
use Rattle.std.specs.List.{slice_split, onto_first}
use Rattle.std.proofs.lemmas.List.{map-append}
use Rattle.std.proofs.lemmas.List.Splits.{length-slice_split}
use Rattle.php_folders.specs.Files.{part_at, slashed}
use Rattle.php_meaning.specs.Constants.{folder_text}
use Rattle.php_meaning.specs.Folders.{with_byte, segments, all_but_last, joined_path, further, resolved_from, above}

with_byte_split : (b : ℕ) (parts : List (List ℕ)) → 0 < length parts → with_byte b parts ≡ cond (b == 47) ([] ∷ parts) (onto_first b parts)
with_byte_split b [] l = absurd (omega arith)
with_byte_split b (s ∷ ss) l = refl

pub segments_split : (t : List ℕ) → segments t ≡ slice_split (λ b. b == 47) t
segments_split [] = refl
segments_split (b ∷ t) =
    ap (with_byte b) (segments_split t) ∙ with_byte_split b (slice_split (λ c. c == 47) t) (omega (arith, length-slice_split (λ c. c == 47) t))

pub last_gone : (xs : List (List ℕ)) (x : List ℕ) → all_but_last (xs ++ x ∷ []) ≡ xs
last_gone [] x = refl
last_gone (y ∷ []) x = refl
last_gone (y ∷ z ∷ xs) x = ap (λ l. y ∷ l) (last_gone (z ∷ xs) x)

-- the last segment is taken off
pub popped : (old new : List (Bor (List ℕ))) (x : Bor (List ℕ)) → old ≡ new ++ x ∷ [] → all_but_last (map part_at old) ≡ map part_at new
popped old new x is = ap (λ l. all_but_last (map part_at l)) is ∙ (ap all_but_last (map-append part_at new (x ∷ [])) ∙ last_gone (map part_at new) (part_at x))

above_some : (xs : List (List ℕ)) (x : List ℕ) → above (xs ++ x ∷ []) ≡ Some xs
above_some [] x = refl
above_some (y ∷ xs) x = ap Some (last_gone (y ∷ xs) x)

pub above_popped : (old new : List (Bor (List ℕ))) (x : Bor (List ℕ)) → old ≡ new ++ x ∷ [] → above (map part_at old) ≡ Some (map part_at new)
above_popped old new x is = ap (λ l. above (map part_at l)) is ∙ (ap above (map-append part_at new (x ∷ [])) ∙ above_some (map part_at new) (part_at x))

-- a path that leads nowhere goes on to lead nowhere
pub nowhere : (ss : List (List ℕ)) → resolved_from ss None ≡ None
nowhere [] = refl
nowhere (s ∷ ss) = nowhere ss

-- a path with its slashes
slashed_joined : (s : List ℕ) (ss : List (List ℕ)) → slashed (s ∷ ss) ≡ 47 ∷ joined_path (s ∷ ss)
slashed_joined s [] = ap (λ t. 47 ∷ t) (append-nil s)
slashed_joined s (t ∷ ss) = ap (λ r. 47 ∷ s ++ r) (slashed_joined t ss)

pub joined_slashed : (ss : List (List ℕ)) → drop 1 (slashed ss) ≡ joined_path ss
joined_slashed [] = refl
joined_slashed (s ∷ ss) = ap (drop 1) (slashed_joined s ss)

pub text_slashed : (ss : List (List ℕ)) → codes "/app" ++ slashed ss ≡ folder_text ss
text_slashed [] = refl
text_slashed (s ∷ ss) = ap (λ r. codes "/app" ++ r) (slashed_joined s ss)

-- a segment that leads nowhere
pub led_nowhere : (parts : List (Bor (List ℕ))) (i : ℕ) (d : Bor (List ℕ)) (folder : List (List ℕ)) (whole : Option (List (List ℕ))) → i < length parts →
    resolved_from (map part_at (drop i parts)) (Some folder) ≡ whole → further (get_or parts i d).now folder ≡ None → whole ≡ None
led_nowhere parts i d folder whole within goes none =
    sym goes ∙ (ap (λ l. resolved_from (map part_at l) (Some folder)) (drop-cons parts i d within) ∙ (ap (resolved_from (map part_at (drop (suc i) parts))) none ∙ nowhere (map part_at (drop (suc i) parts))))
