-- Texts that were read from a folder, one after the other.
use Rattle.std.proofs.Common.{◌≡◌, ℕ, ◌+◌, ◌<◌, Bool, true, false, cond, List, [], ◌∷◌, ◌++◌, length, map, Option, None, Some, IsSomeAnd, refl, sym, ap, ◌∙◌, subst, arith, String, string_bytes, Vec}
use Rattle.std.specs.List.{sum_by}
use Rattle.std.proofs.lemmas.List.{append-nil, map-append}
use Rattle.std.proofs.lemmas.List.Sums.{sum_by-append, sum_by-cons}
use Rattle.std.specs.declared.alloc.Global.{Global}
use Rattle.app_load.specs.Files.{is_php}
use Rattle.app_load.specs.Applications.{Text, text_of, php_length, static_length}
use Rattle.app_reading.specs.declared.texts.Reading.{Reading}
use Rattle.app_reading.specs.Reading.{HasRead, AreKept, IsSpent, room, text_there, with_text, paths_of}

abbrev Pair : Type 0
Pair = String Global × Vec ℕ Global

-- ---- the sizes of one more text

sum_more : (size : Text → ℕ) (seen : List Text) (t : Text) → sum_by size (seen ++ t ∷ []) ≡ sum_by size seen + size t
sum_more size seen t =
    let whole = sum_by-append size seen (t ∷ []) in
    let one = sum_by-cons size t [] in
    let none : sum_by size [] ≡ 0 = refl in
    omega arith

php_of : (path text : List ℕ) → is_php path ≡ true → php_length (path, text) ≡ length text
php_of path text e = ap (λ b. cond b (length text) 0) e

no_php : (path text : List ℕ) → is_php path ≡ false → php_length (path, text) ≡ 0
no_php path text e = ap (λ b. cond b (length text) 0) e

static_of : (path text : List ℕ) → is_php path ≡ false → static_length (path, text) ≡ length text
static_of path text e = ap (λ b. cond b 0 (length text)) e

room_of : (reading : Reading) (path : List ℕ) (b : Bool) → is_php path ≡ b → room reading path ≡ cond b reading.php_left reading.static_left
room_of reading path b e = ap (λ c. cond c reading.php_left reading.static_left) e

-- ---- a text that is kept

still : (passes now : Bool) (before left : ℕ) (kept kept_now : List Pair) (seen : List Text) (t : Text) → now ≡ passes → static_length t + left ≡ before → map text_of kept_now ≡ map text_of kept ++ t ∷ []
    → AreKept passes before kept seen → AreKept now left kept_now (seen ++ t ∷ [])
still true true before left kept kept_now seen t e spent added h = let sum = sum_more static_length seen t in omega arith
still true false before left kept kept_now seen t e spent added h = absurd (cc)
still false true before left kept kept_now seen t e spent added h = absurd (cc)
still false false before left kept kept_now seen t e spent added h =
    let sum = sum_more static_length seen t in
    let were = h.1 in
    (added ∙ ap (λ l. l ++ t ∷ []) h.0, omega arith)

pub one_more : (path : List ℕ) (bytes : List ℕ) (old mid new : Reading) → IsSpent path (length bytes) old mid → new.php_left ≡ mid.php_left → new.static_left ≡ mid.static_left → new.passes_static ≡ mid.passes_static
    → map text_of new.texts.items ≡ map text_of old.texts.items ++ (path, bytes) ∷ [] → (seen : List Text) → HasRead seen old → HasRead (with_text seen (Some (path, bytes))) new
one_more path bytes old mid new spent php others passes added seen h =
    let sum = sum_more php_length seen (path, bytes) in
    let before = h.php in
    let took : php_length (path, bytes) + mid.php_left ≡ old.php_left = spent.php in
    record {
      php = omega arith;
      kept = still old.passes_static new.passes_static old.static_left new.static_left old.texts.items new.texts.items seen (path, bytes) (passes ∙ spent.passes) (ap (λ n. static_length (path, bytes) + n) others ∙ spent.others) added h.kept;
    }

pub pair_added : (path : List ℕ) (old new : List Pair) (name : String Global) (text : Vec ℕ Global) → string_bytes name ≡ path → new ≡ old ++ (name, text) ∷ [] → map text_of new ≡ map text_of old ++ (path, text.items) ∷ []
pair_added path old new name text named added = ap (map text_of) added ∙ map-append text_of old ((name, text) ∷ []) ∙ ap (λ p. map text_of old ++ (p, text.items) ∷ []) named

pub path_added : (path : List ℕ) (old new : List Pair) (bytes : List ℕ) → map text_of new ≡ map text_of old ++ (path, bytes) ∷ [] → paths_of new ≡ paths_of old ++ path ∷ []
path_added path old new bytes added = ap (map (λ (t : Text). t.0)) added ∙ map-append (λ (t : Text). t.0) (map text_of old) ((path, bytes) ∷ [])

-- ---- what was found at a path

pub absent : (path : List ℕ) (reading : Reading) (there : Option (List ℕ)) (seen : List Text) → there ≡ None → HasRead seen reading → HasRead (with_text seen (text_there path there)) reading
absent path reading there seen e h = subst (λ o. HasRead (with_text seen (text_there path o)) reading) (sym e) (subst (λ l. HasRead l reading) (sym (append-nil seen)) h)

pub bytes_found : (path bytes : List ℕ) (reading : Reading) (there : Option (List ℕ)) (seen : List Text) → there ≡ Some bytes → HasRead (with_text seen (Some (path, bytes))) reading → HasRead (with_text seen (text_there path there)) reading
bytes_found path bytes reading there seen e h = subst (λ o. HasRead (with_text seen (text_there path o)) reading) (sym e) h

past : (passes : Bool) (left : ℕ) (kept : List Pair) (seen : List Text) (t : Text) → left < static_length t → AreKept passes left kept seen → 33554432 < sum_by static_length (seen ++ t ∷ [])
past true left kept seen t longer h = let sum = sum_more static_length seen t in omega arith
past false left kept seen t longer h = let sum = sum_more static_length seen t in let were = h.1 in omega arith

past_now : (passes : Bool) (left : ℕ) (kept : List Pair) (seen : List Text) → passes ≡ true → 33554432 < sum_by static_length seen → AreKept passes left kept seen
past_now true left kept seen e h = h
past_now false left kept seen e h = absurd (cc)

static_too_long : (path bytes : List ℕ) (old new : Reading) (seen : List Text) → is_php path ≡ false → new.php_left ≡ old.php_left → new.passes_static ≡ true → room old path < length bytes → HasRead seen old
    → HasRead (with_text seen (Some (path, bytes))) new
static_too_long path bytes old new seen other php passes longer h =
    let sum = sum_more php_length seen (path, bytes) in
    let none = no_php path bytes other in
    let were = h.php in
    let room_is : room old path ≡ old.static_left = room_of old path false other in
    let size = static_of path bytes other in
    record {
      php = omega arith;
      kept = past_now new.passes_static new.static_left new.texts.items (seen ++ (path, bytes) ∷ []) passes (past old.passes_static old.static_left old.texts.items seen (path, bytes) (omega arith) h.kept);
    }

pub too_long : (path : List ℕ) (old new : Reading) (there : Option (List ℕ)) (seen : List Text) → is_php path ≡ false → new.php_left ≡ old.php_left → new.passes_static ≡ true → IsSomeAnd there (λ bytes. room old path < length bytes) → HasRead seen old
    → HasRead (with_text seen (text_there path there)) new
too_long path old new None seen other php passes longer h = absurd longer
too_long path old new (Some bytes) seen other php passes longer h = static_too_long path bytes old new seen other php passes longer h

pub passes_total : (path : List ℕ) (old : Reading) (there : Option (List ℕ)) (seen : List Text) → is_php path ≡ true → IsSomeAnd there (λ bytes. room old path < length bytes) → HasRead seen old → 8388608 < sum_by php_length (with_text seen (text_there path there))
passes_total path old None seen php longer h = absurd longer
passes_total path old (Some bytes) seen php longer h =
    let sum = sum_more php_length seen (path, bytes) in
    let size = php_of path bytes php in
    let were = h.php in
    let room_is : room old path ≡ old.php_left = room_of old path true php in
    omega arith
