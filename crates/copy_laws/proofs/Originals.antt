-- A copy is the copy of its files without placeholders.
use Rattle.std.proofs.Common.{◌≡◌, ℕ, Bool, true, false, ◌&&◌, List, [], ◌∷◌, ◌++◌, refl, sym, ap, subst, ◌∙◌, map, true≢false}
use Rattle.std.specs.Prelude.{Option, Some, None, if◌then◌else◌, ⊤}
use Rattle.std.specs.Str.{bytes_eq}
use Rattle.php_tree.specs.Parts.{bodies_in}
use Rattle.app_load.specs.Copies.{IsTreeCopy, IsCopyOf}
use Rattle.app_load.specs.CopyParts.{IsThere, StandOnce}
use Rattle.app_load.specs.Entries.{Entry, file, function, is_same}
use Rattle.app_load.specs.Files.{Tree, File}
use Rattle.app_load.specs.Kept.{Keeps}
use Rattle.app_load.specs.Parts.{Part, Parts, body_entry, part_at, parts, parts_or_none, file_parts}
use Rattle.app_load.proofs.Bodies.{Bodies, named_alike, names_itself}
use Rattle.copy_laws.specs.Exact.{IsExactOrNone, FilesExact}
use Rattle.copy_laws.specs.Originals.{no_stub, kept_in, AreOriginal}
use Rattle.copy_laws.specs.Restored.{restored_or_none, restored_files}
use Rattle.copy_laws.proofs.Copying.{Fit, same_parts}
use Rattle.copy_laws.proofs.Flat.{files_flat}
use Rattle.copy_laws.proofs.Restoring.{files_free, files_found, files_spanned, files_counted}

-- ---- what stands at an entry that stands once

abbrev AreAt : (Entry → Option Part) → Parts → Type 0
AreAt look [] = ⊤
AreAt look ((e, p) ∷ ps) = (look e ≡ Some p) × AreAt look ps

at_left : (look : Entry → Option Part) (ps qs : Parts) → AreAt look (ps ++ qs) → AreAt look ps
at_left look [] qs a = tt {0}
at_left look ((e, p) ∷ ps) qs a = (a.0, at_left look ps qs a.1)

at_right : (look : Entry → Option Part) (ps qs : Parts) → AreAt look (ps ++ qs) → AreAt look qs
at_right look [] qs a = a
at_right look ((e, p) ∷ ps) qs a = at_right look ps qs a.1

both_true : (a b : Bool) → (a && b) ≡ true → (a ≡ true) × (b ≡ true)
both_true true b e = (refl, e)
both_true false b e = absurd (true≢false (sym e))

pub same_entry : (d e : Entry) → is_same d e ≡ true → d ≡ e
same_entry (file p) (file q) h = ap file (named_alike p q h)
same_entry (function p n) (function q m) h =
    let both = both_true (bytes_eq p q) (bytes_eq n m) h in ap (λ l. function l n) (named_alike p q both.0) ∙ ap (function q) (named_alike n m both.1)
same_entry (file p) (function q m) h = absurd (true≢false (sym h))
same_entry (function p n) (file q) h = absurd (true≢false (sym h))

pub is_itself : (e : Entry) → is_same e e ≡ true
is_itself (file p) = names_itself p
is_itself (function p n) = ap (λ c. c && bytes_eq n n) (names_itself p) ∙ names_itself n

behind : (e d : Entry) (p q : Part) (x : Option Part) (ps : Parts) (c : Bool) → is_same e d ≡ c → part_at ps e ≡ None → part_at ps d ≡ Some q → x ≡ Some q → (if c then Some p else x) ≡ Some q
behind e d p q x ps true same none there is = absurd (subst IsThere (sym there ∙ (sym (ap (part_at ps) (same_entry e d same)) ∙ none)) (tt {0}))
behind e d p q x ps false same none there is = is

at_behind : (e : Entry) (p : Part) (ps qs : Parts) → part_at ps e ≡ None → AreAt (part_at ps) qs → AreAt (part_at ((e, p) ∷ ps)) qs
at_behind e p ps [] none a = tt {0}
at_behind e p ps ((d, q) ∷ qs) none a = (behind e d p q (part_at ps d) ps (is_same e d) refl none a.0 a.0, at_behind e p ps qs none a.1)

pub stand_there : (ps : Parts) → StandOnce ps → AreAt (part_at ps) ps
stand_there [] once = tt {0}
stand_there ((e, p) ∷ ps) once = (ap (λ c. if c then Some p else part_at ps e) (is_itself e), at_behind e p ps ps once.0 (stand_there ps once.1))

-- ---- files

module _ (look : Entry → Option Part) where
  abbrev keeps : Keeps
  keeps e = no_stub (look e)

  bodies_fit : (path : List ℕ) (bs : Bodies) → AreAt look (map (body_entry path) bs) → Fit keeps path bs
  bodies_fit path [] a = tt {0}
  bodies_fit path ((n, b) ∷ bs) a = (ap no_stub a.0, bodies_fit path bs a.1)

  tree_copied : (path text : List ℕ) (t : Option Tree) → IsExactOrNone path t → AreAt look (parts_or_none path t) → IsTreeCopy keeps path text (restored_or_none t) text t
  tree_copied path text None e a = refl
  tree_copied path text (Some ss) e a = same_parts keeps path ss e (ap no_stub a.0) (bodies_fit path (bodies_in ss) a.1)

  all_copied : (gs : List File) → FilesExact gs → AreAt look (parts gs) → IsCopyOf keeps (restored_files gs) gs
  all_copied [] e a = tt {0}
  all_copied (g ∷ gs) e a =
      (record { same_path = refl; same_parts = tree_copied g.path g.text g.tree e.0 (at_left look (file_parts g) (parts gs) a) }, all_copied gs e.1 (at_right look (file_parts g) (parts gs) a))

pub originals : (gs : List File) → FilesExact gs → StandOnce (parts gs) → AreOriginal (kept_in gs) (restored_files gs) gs
originals gs exact once = record {
  copied = all_copied (part_at (parts gs)) gs exact (stand_there (parts gs) once);
  free = files_free gs;
  findings = files_found gs;
  spans = files_spanned gs;
  functions = files_counted gs;
  flat = files_flat gs;
}
