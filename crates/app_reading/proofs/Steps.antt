-- One part after the other is read.
use Rattle.std.proofs.Common.{◌≡◌, ℕ, ◌+◌, ◌<◌, ◌≤◌, inl, inr, List, [], ◌∷◌, ◌++◌, length, map, take, drop, get_or, Option, refl, sym, ap, ◌∙◌, subst, arith, String, string_bytes, Vec, Ordering}
use Rattle.std.specs.List.{sum_by, filter_map, AllByRecursion}
use Rattle.std.specs.List.Sorted.{IsStrictlySortedBy}
use Rattle.std.specs.declared.cmp.Ordering.TheVariants.{Less}
use Rattle.std.specs.Ordering.{nat_cmp}
use Rattle.std.specs.Cmp.Lexicographic.{slice_cmp}
use Rattle.std.specs.FinMap as fin
use Rattle.std.proofs.lemmas.List.{at_drop_more, at_drop_all, take_all, take-append-drop, append-nil, append_assoc, map-append}
use Rattle.std.proofs.lemmas.List.Elements.{filter_map-append}
use Rattle.std.proofs.lemmas.List.Sums.{sum_by-append}
use Rattle.std.proofs.lemmas.List.Sorted.{IsPermutation-refl}
use Rattle.std.specs.declared.alloc.Global.{Global}
use Rattle.less_outside.specs.declared.folder.Found.{Found}
use Rattle.less_outside.specs.Files.{Files}
use Rattle.less_outside.specs.Folder.{IsFound}
use Rattle.app_load.specs.Applications.{Text, text_of, php_length, IsOnce}
use Rattle.app_reading.specs.declared.fault.TextsFault.{TextsFault}
use Rattle.app_reading.specs.declared.fault.TextsFault.TheVariants.{Limit, ReadFault, Memory}
use Rattle.app_reading.specs.declared.texts.Reading.{Reading}
use Rattle.app_reading.specs.Parts.{whole}
use Rattle.app_reading.specs.Reading.{HasRead, PassesTotal, Adds, room, text_there, text_in, texts_in, with_text, paths_of}
use Rattle.app_reading.proofs.Lists.{kept_next}

abbrev Pair : Type 0
Pair = String Global × Vec ℕ Global

abbrev Path : Type 0
Path = String Global

abbrev cmp : List ℕ → List ℕ → Ordering
cmp = slice_cmp nat_cmp

-- ---- one part

pub part_read : (below path : List ℕ) (max : ℕ) (found : Found) (old new : Reading) → max ≡ room old path
    → ((there : Option (List ℕ)) (seen : List Text) → IsFound there (room old path) found → HasRead seen old → HasRead (with_text seen (text_there path there)) new)
    → (files : Files) → IsFound (fin.get files (whole below path)) max found → (seen : List Text) → HasRead seen old → HasRead (with_text seen (text_in below files path)) new
part_read below path max found old new is step files at seen h =
    step (fin.get files (whole below path)) seen (subst (λ m. IsFound (fin.get files (whole below path)) m found) is at) h

pub part_passes : (below path : List ℕ) (max : ℕ) (found : Found) (old : Reading) (fault : TextsFault) → max ≡ room old path
    → ((there : Option (List ℕ)) (seen : List Text) → IsFound there (room old path) found → HasRead seen old → PassesTotal (with_text seen (text_there path there)) fault)
    → (files : Files) → IsFound (fin.get files (whole below path)) max found → (seen : List Text) → HasRead seen old → PassesTotal (with_text seen (text_in below files path)) fault
part_passes below path max found old fault is step files at seen h =
    step (fin.get files (whole below path)) seen (subst (λ m. IsFound (fin.get files (whole below path)) m found) is at) h

-- ---- all parts

abbrev so_far : List ℕ → Files → List Path → ℕ → List Text
so_far below files xs i = texts_in below files (map string_bytes (take i xs))

with_next : (below path : List ℕ) (files : Files) (xs : List Path) (i : ℕ) (x : Path) → i < length xs → x ≡ get_or xs i x → path ≡ string_bytes x
    → with_text (so_far below files xs i) (text_in below files path) ≡ so_far below files xs (i + 1)
with_next below path files xs i x h e is =
    kept_next (text_in below files) xs i x path (so_far below files xs i) (with_text (so_far below files xs i) (text_in below files path)) refl h e is refl

pub read_next : (below path : List ℕ) (xs : List Path) (i : ℕ) (x : Path) (old new : Reading) → i < length xs → x ≡ get_or xs i x → path ≡ string_bytes x → (files : Files)
    → HasRead (so_far below files xs i) old → ((seen : List Text) → HasRead seen old → HasRead (with_text seen (text_in below files path)) new) → HasRead (so_far below files xs (i + 1)) new
read_next below path xs i x old new h e is files read step = subst (λ l. HasRead l new) (with_next below path files xs i x h e is) (step (so_far below files xs i) read)

grown : (below : List ℕ) (files : Files) (xs : List Path) (k : ℕ) → sum_by php_length (so_far below files xs k) ≤ sum_by php_length (texts_in below files (map string_bytes xs))
grown below files xs k =
    let parts : texts_in below files (map string_bytes xs) ≡ so_far below files xs k ++ texts_in below files (map string_bytes (drop k xs)) =
    ap (λ l. texts_in below files (map string_bytes l)) (sym (take-append-drop k xs))
    ∙ ap (filter_map (text_in below files)) (map-append string_bytes (take k xs) (drop k xs))
    ∙ filter_map-append (text_in below files) (map string_bytes (take k xs)) (map string_bytes (drop k xs)) in
    let sum = ap (sum_by php_length) parts ∙ sum_by-append php_length (so_far below files xs k) (texts_in below files (map string_bytes (drop k xs))) in
    omega arith

more_passes : (ts us : List Text) (fault : TextsFault) → sum_by php_length ts ≤ sum_by php_length us → PassesTotal ts fault → PassesTotal us fault
more_passes ts us (Limit name) more past = let sum = past.1 in (past.0, omega arith)
more_passes ts us ReadFault more past = tt
more_passes ts us Memory more past = tt

pub passes_at : (below path : List ℕ) (xs : List Path) (i : ℕ) (x : Path) (old : Reading) (fault : TextsFault) → i < length xs → x ≡ get_or xs i x → path ≡ string_bytes x → (files : Files)
    → HasRead (so_far below files xs i) old → ((seen : List Text) → HasRead seen old → PassesTotal (with_text seen (text_in below files path)) fault) → PassesTotal (texts_in below files (map string_bytes xs)) fault
passes_at below path xs i x old fault h e is files read step =
    more_passes (so_far below files xs (i + 1)) (texts_in below files (map string_bytes xs)) fault (grown below files xs (i + 1))
    (subst (λ l. PassesTotal l fault) (with_next below path files xs i x h e is) (step (so_far below files xs i) read))

pub read_all : (below : List ℕ) (xs : List Path) (i : ℕ) (reading : Reading) → length xs ≤ i → (files : Files) → HasRead (so_far below files xs i) reading → HasRead (texts_in below files (map string_bytes xs)) reading
read_all below xs i reading h files read = subst (λ l. HasRead (texts_in below files (map string_bytes l)) reading) (take_all i xs h) read

-- ---- the order of the paths

skip_all : (P : List ℕ → Type 0) (xs : List (List ℕ)) (p : List ℕ) (ys : List (List ℕ)) → AllByRecursion P (xs ++ p ∷ ys) → AllByRecursion P (xs ++ ys)
skip_all P [] p ys h = h.1
skip_all P (x ∷ xs) p ys h = (h.0, skip_all P xs p ys h.1)

skip : (xs : List (List ℕ)) (p : List ℕ) (ys : List (List ℕ)) → IsStrictlySortedBy cmp (xs ++ p ∷ ys) → IsStrictlySortedBy cmp (xs ++ ys)
unfolding IsStrictlySortedBy
skip [] p ys h = h.1
skip (x ∷ xs) p ys h = (skip_all (λ y. cmp x y ≡ Less) xs p ys h.0, skip xs p ys h.1)

added_on : (path : List ℕ) (old new rest : List (List ℕ)) → Adds path old new → IsStrictlySortedBy cmp (old ++ path ∷ rest) → IsStrictlySortedBy cmp (new ++ rest)
added_on path old new rest (inl same) h = subst (λ l. IsStrictlySortedBy cmp (l ++ rest)) (sym same) (skip old path rest h)
added_on path old new rest (inr added) h = subst (IsStrictlySortedBy cmp) (sym (ap (λ l. l ++ rest) added ∙ append_assoc old (path ∷ []) rest)) h

pub sorted_next : (path : List ℕ) (xs : List Path) (i : ℕ) (x : Path) (old new : List (List ℕ)) → i < length xs → x ≡ get_or xs i x → path ≡ string_bytes x → Adds path old new
    → IsStrictlySortedBy cmp (old ++ map string_bytes (drop i xs)) → IsStrictlySortedBy cmp (new ++ map string_bytes (drop (i + 1) xs))
sorted_next path xs i x old new h e is adds sorted =
    let front : map string_bytes (drop i xs) ≡ path ∷ map string_bytes (drop (i + 1) xs) =
    at_drop_more (map string_bytes) xs i x h ∙ ap (λ p. p ∷ map string_bytes (drop (i + 1) xs)) (ap string_bytes (sym e) ∙ sym is) in
    added_on path old new (map string_bytes (drop (i + 1) xs)) adds (subst (λ l. IsStrictlySortedBy cmp (old ++ l)) front sorted)

pub sorted_all : (xs : List Path) (i : ℕ) (kept : List (List ℕ)) → length xs ≤ i → IsStrictlySortedBy cmp (kept ++ map string_bytes (drop i xs)) → IsStrictlySortedBy cmp kept
sorted_all xs i kept h sorted = subst (IsStrictlySortedBy cmp) (at_drop_all (λ l. kept ++ map string_bytes l) xs i h ∙ append-nil kept) sorted

pub once : (kept : List Pair) → IsStrictlySortedBy cmp (paths_of kept) → IsOnce kept
once kept sorted = (map text_of kept, record { all = IsPermutation-refl (map text_of kept); ascending = sorted })
