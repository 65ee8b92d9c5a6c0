-- A set of texts after one more, and names that were seen.
use Rattle.std.proofs.Common.{arith, ◌≡◌, ℕ, suc, ◌+◌, ◌<◌, length, drop, get_or, drop-cons, Bool, true, false, ◌||◌, not, List, [], ◌∷◌, Vec, Option, Some, refl, ap, sym, ◌∙◌, if◌then◌else◌}
use Rattle.std.specs.List.{list_any}
use Rattle.std.specs.Str.{bytes_eq}
use Rattle.std.specs.declared.alloc.Global.{Global}
use Rattle.std.specs.Ordering.{nat_cmp, is_eq, match_ordering}
use Rattle.std.specs.declared.cmp.Ordering.{Ordering}
use Rattle.std.specs.declared.cmp.Ordering.TheVariants.{Less, Equal, Greater}
use Rattle.std.specs.Cmp.Lexicographic.{slice_cmp}
use Rattle.std.specs.BTreeMap.{is_at}
use Rattle.std.specs.BTreeSet.{insert_key}
use Rattle.std.proofs.lemmas.Map.Text.{is_eq-slice_cmp}
use Rattle.std.proofs.lemmas.Slice.Eq.{bytes_eq-Decides}
use Rattle.app_load.specs.Seen.{has, Noted}
use Rattle.app_load.specs.Findings.{Name, Finding, declares, leaves, findings_of, finding_of}
use Rattle.app_load.specs.declared.finding.Finding as code
use Rattle.app_load.specs.Twice.{key, first_again}

abbrev pub keys_cmp : Vec ℕ Global → Vec ℕ Global → Ordering
keys_cmp x y = slice_cmp nat_cmp x.items y.items

-- whether a key is in the set, as texts
pub contains_has : (keys : List (Vec ℕ Global)) (k : Vec ℕ Global) → list_any (is_at (keys_cmp k)) keys ≡ has keys k.items
contains_has [] k = refl
contains_has (x ∷ xs) k = ap (λ b. b || list_any (is_at (keys_cmp k)) xs) (is_eq-slice_cmp k.items x.items) ∙ ap (λ b. bytes_eq k.items x.items || b) (contains_has xs k)

or_swap : (a b c : Bool) → (a || (b || c)) ≡ (b || (a || c))
or_swap true true c = refl
or_swap true false c = refl
or_swap false true c = refl
or_swap false false c = refl

or_again : (a c : Bool) → (a || c) ≡ (a || (a || c))
or_again true c = refl
or_again false c = refl

same_items : (k x : Vec ℕ Global) → keys_cmp k x ≡ Equal → k.items ≡ x.items
same_items k x e = (bytes_eq-Decides k.items x.items).0 (sym (is_eq-slice_cmp k.items x.items) ∙ ap is_eq e)

-- a key that was put in is there, and the others are as before; `more` says so of the keys behind the first
at_order : (x : Vec ℕ Global) (xs ys : List (Vec ℕ Global)) (k : Vec ℕ Global) (text : List ℕ) → has ys text ≡ (bytes_eq text k.items || has xs text) → (o : Ordering) → keys_cmp k x ≡ o
    → has (match_ordering o (k ∷ x ∷ xs) (x ∷ xs) (x ∷ ys)) text ≡ (bytes_eq text k.items || has (x ∷ xs) text)
at_order x xs ys k text more Less e = refl
at_order x xs ys k text more Equal e = or_again (bytes_eq text x.items) (has xs text) ∙ ap (λ t. bytes_eq text t || has (x ∷ xs) text) (sym (same_items k x e))
at_order x xs ys k text more Greater e = ap (λ b. bytes_eq text x.items || b) more ∙ or_swap (bytes_eq text x.items) (bytes_eq text k.items) (has xs text)

pub has_insert : (keys : List (Vec ℕ Global)) (k : Vec ℕ Global) (text : List ℕ) → has (insert_key keys_cmp keys k) text ≡ (bytes_eq text k.items || has keys text)
has_insert [] k text = refl
has_insert (x ∷ xs) k text = at_order x xs (insert_key keys_cmp xs k) k text (has_insert xs k text) (keys_cmp k x) refl

-- ---- names

pub is_again : (before : List (List ℕ)) (n : Name) (fs : List Finding) → list_any (bytes_eq (key n)) before ≡ true → first_again before (declares n ∷ fs) ≡ Some n
is_again before n fs e = ap (λ b. if b then Some n else first_again (key n ∷ before) fs) e

pub is_first : (before : List (List ℕ)) (n : Name) (fs : List Finding) → list_any (bytes_eq (key n)) before ≡ false → first_again before (declares n ∷ fs) ≡ first_again (key n ∷ before) fs
is_first before n fs e = ap (λ b. if b then Some n else first_again (key n ∷ before) fs) e

-- a name that was not there before is noted
pub noted_new : (keys new : List (Vec ℕ Global)) (n : Name) (left all : List Finding) → Noted keys (declares n ∷ left) all → has keys (key n) ≡ false
    → ((text : List ℕ) → has new text ≡ (bytes_eq text (key n) || has keys text)) → Noted new left all
noted_new keys new n left all noted absent added = record {
  before = key n ∷ noted.before;
  held = λ text. added text ∙ ap (λ b. bytes_eq text (key n) || b) (noted.held text);
  same = sym (is_first noted.before n left (sym (noted.held (key n)) ∙ absent)) ∙ noted.same;
}

-- a jump is passed over
pub noted_jump : (keys : List (Vec ℕ Global)) (l : ℕ) (left all : List Finding) → Noted keys (leaves l ∷ left) all → Noted keys left all
noted_jump keys l left all noted = record { before = noted.before; held = noted.held; same = noted.same }

-- a name that was there before is the first that comes again
pub noted_again : (keys : List (Vec ℕ Global)) (n : Name) (left all : List Finding) → Noted keys (declares n ∷ left) all → has keys (key n) ≡ true → first_again [] all ≡ Some n
noted_again keys n left all noted there = sym noted.same ∙ is_again noted.before n left (sym (noted.held (key n)) ∙ there)

-- the findings from one on
pub next_finding : (found : List code.Finding) (i : ℕ) (d : code.Finding) → i < length found → findings_of (drop i found) ≡ finding_of (get_or found i d) ∷ findings_of (drop (suc i) found)
next_finding found i d within = ap findings_of (drop-cons found i d within)

pub is_absent : (is_new there : Bool) → is_new ≡ not there → is_new ≡ true → there ≡ false
is_absent true false e f = refl
is_absent false false e f = refl
is_absent false true e f = sym f
is_absent true true e f = e

pub step_new : (keys new : List (Vec ℕ Global)) (k : List ℕ) (n : Name) (left all : List Finding) (is_new : Bool) → k ≡ key n → is_new ≡ not (has keys k) → is_new ≡ true
    → ((text : List ℕ) → has new text ≡ (bytes_eq text k || has keys text)) → Noted keys (declares n ∷ left) all → Noted new left all
step_new keys new k n left all is_new is told fresh added noted = noted_new keys new n left all noted
    (ap (has keys) (sym is) ∙ is_absent is_new (has keys k) told fresh)
    (λ text. added text ∙ ap (λ b. bytes_eq text b || has keys text) is)

is_there : (is_new there : Bool) → is_new ≡ not there → is_new ≡ false → there ≡ true
is_there true true e f = refl
is_there false true e f = refl
is_there true false e f = sym f
is_there false false e f = e

pub step_again : (keys : List (Vec ℕ Global)) (k : List ℕ) (n : Name) (left all : List Finding) (is_new : Bool) → k ≡ key n → is_new ≡ not (has keys k) → is_new ≡ false
    → Noted keys (declares n ∷ left) all → first_again [] all ≡ Some n
step_again keys k n left all is_new is told there noted = noted_again keys n left all noted (ap (has keys) (sym is) ∙ is_there is_new (has keys k) told there)

-- a list from one element on
pub drop_next : {A : Type 0} (xs : List A) (i : ℕ) (d : A) → i < length xs → d ≡ get_or xs i d → d ∷ drop (i + 1) xs ≡ drop i xs
drop_next xs i d within is = let one_more : i + 1 ≡ suc i = omega arith in
    ap (λ n. d ∷ drop n xs) one_more ∙ ap (λ f. f ∷ drop (suc i) xs) is ∙ sym (drop-cons xs i d within)
