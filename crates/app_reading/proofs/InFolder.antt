-- The texts at the paths of an application in a folder are its texts, and the limits that they pass.
use Rattle.std.proofs.Common.{◌≡◌, ◌↔◌, ℕ, ◌+◌, ◌<◌, ◌&&◌, Bool, true, false, not, cond, nat_lt, List, [], ◌∷◌, length, map, Option, None, Some, is_some, refl, sym, ap, ◌∙◌, subst, arith, String, Vec, Ordering}
use Rattle.std.specs.List.{Contains, list_all, sum_by, cons_option}
use Rattle.std.specs.List.Sorted.{IsStrictlySortedBy}
use Rattle.std.specs.declared.cmp.Ordering.TheVariants.{Less, Equal, Greater}
use Rattle.std.specs.Ordering.{nat_cmp, is_eq, eq_by_cmp}
use Rattle.std.specs.Cmp.Lexicographic.{slice_cmp, nat_list_cmp_total}
use Rattle.std.specs.Cmp.{eq_by_cmp_equiv}
use Rattle.std.specs.FinMap as fin
use Rattle.std.proofs.lemmas.Bool.Decides.{nat_tests}
use Rattle.std.proofs.lemmas.List.{length-map}
use Rattle.std.proofs.lemmas.Map.Views.{list_any-from_Contains, Contains-from_any}
use Rattle.std.specs.declared.alloc.Global.{Global}
use Rattle.less_terms.specs.Paths.{is_path}
use Rattle.less_outside.specs.Files.{Files}
use Rattle.app_load.specs.declared.fault.LimitName.{LimitName}
use Rattle.app_load.specs.declared.fault.LimitName.TheVariants as limit
use Rattle.app_load.specs.Applications.{Text, text_of, php_length, static_length, first_limit}
use Rattle.app_reading.specs.declared.fault.TextsFault.{TextsFault}
use Rattle.app_reading.specs.declared.fault.TextsFault.TheVariants.{Limit, ReadFault, Memory}
use Rattle.app_reading.specs.declared.texts.Reading.{Reading}
use Rattle.app_reading.specs.Parts.{is_part, whole, AreParts}
use Rattle.app_reading.specs.Texts.{AreTextsIn, IsLimitIn}
use Rattle.app_reading.specs.Reading.{HasRead, AreKept, PassesTotal, text_there, text_in, texts_in, path_limit}
use Rattle.app_reading.proofs.Lists.{here, later, from_filter_map, into_filter_map}

abbrev Pair : Type 0
Pair = String Global × Vec ℕ Global

abbrev cmp : List ℕ → List ℕ → Ordering
cmp = slice_cmp nat_cmp

abbrev first : Text → List ℕ
first t = t.0

-- ---- what stands at a path

equal : (o : Ordering) → is_eq o ≡ true → o ≡ Equal
equal Less e = absurd (cc)
equal Equal e = refl
equal Greater e = absurd (cc)

exact : (x y : List ℕ) → eq_by_cmp cmp x y ≡ true → x ≡ y
exact x y e = fin.slice_cmp-IsAntisymmetric fin.nat_cmp-IsAntisymmetric x y (equal (cmp x y) e)

has_key : (files : Files) (p bytes : List ℕ) → fin.get files p ≡ Some bytes → Contains (fin.keys files) p
has_key files p bytes e = Contains-from_any exact p (fin.keys files) (sym (fin.contains_key-keys files p) ∙ ap is_some e)

some_of : (o : Option (List ℕ)) → is_some o ≡ true → (bytes : List ℕ) × (o ≡ Some bytes)
some_of None e = absurd (cc)
some_of (Some bytes) e = (bytes, refl)

key_has : (files : Files) (p : List ℕ) → Contains (fin.keys files) p → (bytes : List ℕ) × (fin.get files p ≡ Some bytes)
key_has files p m = some_of (fin.get files p) (fin.contains_key-keys files p ∙ list_any-from_Contains (eq_by_cmp_equiv nat_list_cmp_total) p (fin.keys files) m)

there_is : (path : List ℕ) (there : Option (List ℕ)) (t : Text) → text_there path there ≡ Some t → (path ≡ t.0) × (there ≡ Some t.1)
there_is path None t e = absurd (cc)
there_is path (Some bytes) t e =
    let same : (path, bytes) ≡ t = cc in
    (ap (λ (u : Text). u.0) same, ap (λ (u : Text). Some u.1) same)

-- ---- texts

text_exact : (below : List ℕ) (files : Files) (paths : List (List ℕ)) → AreParts below (fin.keys files) paths → (t : Text)
    → Contains (texts_in below files paths) t ↔ ((is_part t.0 ≡ true) × (fin.get files (whole below t.0) ≡ Some t.1))
text_exact below files paths parts t = (
  λ m. let r = from_filter_map (text_in below files) paths t m in
      let is = there_is r.0 (fin.get files (whole below r.0)) t r.2 in
      let part = (parts.exact r.0).0 r.1 in
      (subst (λ p. is_part p ≡ true) is.0 part.0, subst (λ p. fin.get files (whole below p) ≡ Some t.1) is.0 is.1),
  λ k. into_filter_map (text_in below files) paths t.0 t ((parts.exact t.0).1 (k.0, has_key files (whole below t.0) t.1 k.1)) (ap (text_there t.0) k.1),
)

paths_kept : (below : List ℕ) (files : Files) (paths : List (List ℕ)) → ((p : List ℕ) → Contains paths p → (bytes : List ℕ) × (fin.get files (whole below p) ≡ Some bytes))
    → map first (texts_in below files paths) ≡ paths
paths_kept below files [] has = refl
paths_kept below files (p ∷ paths) has =
    ap (λ o. map first (cons_option (text_there p o) (texts_in below files paths))) (has p (here p paths)).1
    ∙ ap (λ l. p ∷ l) (paths_kept below files paths (λ q m. has q (later p paths q m)))

paths_are : (below : List ℕ) (files : Files) (paths : List (List ℕ)) → AreParts below (fin.keys files) paths → map first (texts_in below files paths) ≡ paths
paths_are below files paths parts = paths_kept below files paths (λ p m. key_has files (whole below p) ((parts.exact p).0 m).1)

texts_are : (below : List ℕ) (files : Files) (paths : List (List ℕ)) → AreParts below (fin.keys files) paths → AreTextsIn below files (texts_in below files paths)
texts_are below files paths parts = record {
  ascending = subst (IsStrictlySortedBy cmp) (sym (paths_are below files paths parts)) parts.ascending;
  exact = text_exact below files paths parts;
}

-- ---- limits

all_paths : (ts : List Text) → list_all is_path (map first ts) ≡ list_all (λ t. is_path t.0) ts
all_paths [] = refl
all_paths (t ∷ ts) = ap (λ rest. is_path t.0 && rest) (all_paths ts)

front_limit : (all many : Bool) (rest : Option LimitName) → Option LimitName
front_limit all many rest = cond (not all) (Some limit.Path) (cond many (Some limit.Files) rest)

front_is : (ts : List Text) (paths : List (List ℕ)) → map first ts ≡ paths → path_limit paths ≡ front_limit (list_all (λ t. is_path t.0) ts) (nat_lt 2000 (length ts)) None
unfolding front_limit
front_is ts paths e =
    ap path_limit (sym e)
    ∙ ap (λ all. cond (not all) (Some limit.Path) (cond (nat_lt 2000 (length (map first ts))) (Some limit.Files) None)) (all_paths ts)
    ∙ ap (λ len. cond (not (list_all (λ t. is_path t.0) ts)) (Some limit.Path) (cond (nat_lt 2000 len) (Some limit.Files) None)) (length-map ts first)

front_told : (all many : Bool) (rest : Option LimitName) (n : LimitName) → front_limit all many None ≡ Some n → front_limit all many rest ≡ Some n
unfolding front_limit
front_told false many rest n e = e
front_told true true rest n e = e
front_told true false rest n e = absurd (cc)

front_passed : (all many : Bool) (rest : Option LimitName) → front_limit all many None ≡ None → front_limit all many rest ≡ rest
unfolding front_limit
front_passed false many rest e = absurd (cc)
front_passed true true rest e = absurd (cc)
front_passed true false rest e = refl

abbrev size_limit : List Text → Option LimitName
size_limit ts = cond (nat_lt 8388608 (sum_by php_length ts)) (Some limit.Total) (cond (nat_lt 33554432 (sum_by static_length ts)) (Some limit.Static) None)

first_is : (ts : List Text) → first_limit ts ≡ front_limit (list_all (λ t. is_path t.0) ts) (nat_lt 2000 (length ts)) (size_limit ts)
unfolding front_limit
first_is ts = refl

past_total : (ts : List Text) → 8388608 < sum_by php_length ts → size_limit ts ≡ Some limit.Total
past_total ts h =
    let test : nat_lt 8388608 (sum_by php_length ts) ≡ true = grind (arith, nat_tests) in
    ap (λ b. cond b (Some limit.Total) (cond (nat_lt 33554432 (sum_by static_length ts)) (Some limit.Static) None)) test

past_static : (ts : List Text) (left : ℕ) → sum_by php_length ts + left ≡ 8388608 → 33554432 < sum_by static_length ts → size_limit ts ≡ Some limit.Static
past_static ts left within h =
    let few : nat_lt 8388608 (sum_by php_length ts) ≡ false = grind (arith, nat_tests) in
    let test : nat_lt 33554432 (sum_by static_length ts) ≡ true = grind (arith, nat_tests) in
    ap (λ b. cond b (Some limit.Total) (cond (nat_lt 33554432 (sum_by static_length ts)) (Some limit.Static) None)) few
    ∙ ap (λ b. cond b (Some limit.Static) None) test

sizes_told : (ts : List Text) (paths : List (List ℕ)) (n : LimitName) → map first ts ≡ paths → path_limit paths ≡ None → size_limit ts ≡ Some n → first_limit ts ≡ Some n
sizes_told ts paths n same few told = first_is ts ∙ front_passed _ _ (size_limit ts) (sym (front_is ts paths same) ∙ few) ∙ told

-- ---- what is told of a folder

pub paths_pass : (below : List ℕ) (paths : List (List ℕ)) (n : LimitName) → path_limit paths ≡ Some n → (files : Files) → AreParts below (fin.keys files) paths → IsLimitIn below files (Limit n)
paths_pass below paths n told files parts =
    let ts = texts_in below files paths in
    (ts, texts_are below files paths parts, first_is ts ∙ front_told _ _ (size_limit ts) n (sym (front_is ts paths (paths_are below files paths parts)) ∙ told))

pub total_passes : (below : List ℕ) (paths : List (List ℕ)) (fault : TextsFault) → path_limit paths ≡ None → (files : Files) → AreParts below (fin.keys files) paths → PassesTotal (texts_in below files paths) fault → IsLimitIn below files fault
total_passes below paths (Limit n) few files parts past =
    let ts = texts_in below files paths in
    (ts, texts_are below files paths parts, sizes_told ts paths n (paths_are below files paths parts) few (past_total ts past.1 ∙ ap Some (sym past.0)))
total_passes below paths ReadFault few files parts past = tt
total_passes below paths Memory few files parts past = tt

static_past : (passes : Bool) (left : ℕ) (kept : List Pair) (seen : List Text) → passes ≡ true → AreKept passes left kept seen → 33554432 < sum_by static_length seen
static_past true left kept seen e h = h
static_past false left kept seen e h = absurd (cc)

pub static_passes : (below : List ℕ) (paths : List (List ℕ)) (reading : Reading) → path_limit paths ≡ None → reading.passes_static ≡ true → (files : Files) → AreParts below (fin.keys files) paths → HasRead (texts_in below files paths) reading
    → IsLimitIn below files (Limit limit.Static)
static_passes below paths reading few passes files parts read =
    let ts = texts_in below files paths in
    let past = static_past reading.passes_static reading.static_left reading.texts.items ts passes read.kept in
    (ts, texts_are below files paths parts, sizes_told ts paths limit.Static (paths_are below files paths parts) few (past_static ts reading.php_left read.php past))

all_kept : (passes : Bool) (left : ℕ) (kept : List Pair) (seen : List Text) → passes ≡ false → AreKept passes left kept seen → map text_of kept ≡ seen
all_kept true left kept seen e h = absurd (cc)
all_kept false left kept seen e h = h.0

pub texts_read : (below : List ℕ) (paths : List (List ℕ)) (reading : Reading) → reading.passes_static ≡ false → (files : Files) → AreParts below (fin.keys files) paths → HasRead (texts_in below files paths) reading
    → AreTextsIn below files (map text_of reading.texts.items)
texts_read below paths reading passes files parts read =
    subst (AreTextsIn below files) (sym (all_kept reading.passes_static reading.static_left reading.texts.items (texts_in below files paths) passes read.kept)) (texts_are below files paths parts)
