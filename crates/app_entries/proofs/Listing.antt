-- Entries that are listed, one after the other.
use Rattle.std.proofs.Common.{◌≡◌, ℕ, ◌+◌, ◌<◌, ◌≤◌, List, [], ◌∷◌, ◌++◌, length, map, take, get_or, refl, sym, ap, ◌∙◌}
use Rattle.std.proofs.lemmas.List.{append-nil, append_assoc, map-append, take_more, take_all}
use Rattle.std.proofs.lemmas.List.Concat.{flat_map-cons}
use Rattle.std.proofs.lemmas.Grind.{flat_map-append}
use Rattle.php_tree.specs.declared.file.FunSpan.{FunSpan}
use Rattle.app_load.specs.declared.app.AppFile.{AppFile}
use Rattle.app_load.specs.Entries.{Entry, function}
use Rattle.app_entries.specs.Ordinals.{function_entry, file_entries, entries_in}
use Rattle.app_entries.specs.Listed.{entry_in}

-- ---- functions

-- the first functions are listed behind what was there
pub record HasFunctions (path : List ℕ) (before now : List Entry) (fs : List FunSpan) : Type 0 where
  pub listed : now ≡ before ++ map entry_in (map (function_entry path) fs)

pub functions_begin : (path : List ℕ) (before : List Entry) (fs : List FunSpan) → HasFunctions path before before (take 0 fs)
functions_begin path before fs = record { listed = sym (append-nil before) }

pub functions_go_on : (path : List ℕ) (before now next : List Entry) (fs : List FunSpan) (i : ℕ) (f : FunSpan) → HasFunctions path before now (take i fs) → i < length fs → f ≡ get_or fs i f → next ≡ now ++ function path f.name ∷ []
    → HasFunctions path before next (take (i + 1) fs)
functions_go_on path before now next fs i f has h e added =
    let more : take (i + 1) fs ≡ take i fs ++ f ∷ [] = take_more fs i f h ∙ ap (λ g. take i fs ++ g ∷ []) (sym e) in
    let names : map entry_in (map (function_entry path) (take (i + 1) fs)) ≡ map entry_in (map (function_entry path) (take i fs)) ++ function path f.name ∷ [] =
    ap (λ l. map entry_in (map (function_entry path) l)) more
    ∙ ap (map entry_in) (map-append (function_entry path) (take i fs) (f ∷ []))
    ∙ map-append entry_in (map (function_entry path) (take i fs)) (function_entry path f ∷ []) in
    record {
      listed = added ∙ ap (λ l. l ++ function path f.name ∷ []) has.listed ∙ append_assoc before _ _ ∙ ap (λ l. before ++ l) (sym names);
    }

pub functions_end : (path : List ℕ) (before now : List Entry) (fs : List FunSpan) (i : ℕ) → HasFunctions path before now (take i fs) → length fs ≤ i → now ≡ before ++ map entry_in (map (function_entry path) fs)
functions_end path before now fs i has h = has.listed ∙ ap (λ l. before ++ map entry_in (map (function_entry path) l)) (take_all i fs h)

-- ---- files

pub record HasFiles (now : List Entry) (files : List AppFile) : Type 0 where
  pub listed : now ≡ map entry_in (entries_in files)

pub files_begin : (files : List AppFile) → HasFiles [] (take 0 files)
files_begin files = record { listed = refl }

pub files_go_on : (now next : List Entry) (files : List AppFile) (i : ℕ) (f : AppFile) → HasFiles now (take i files) → i < length files → f ≡ get_or files i f → next ≡ now ++ map entry_in (file_entries f) → HasFiles next (take (i + 1) files)
files_go_on now next files i f has h e added =
    let more : take (i + 1) files ≡ take i files ++ f ∷ [] = take_more files i f h ∙ ap (λ g. take i files ++ g ∷ []) (sym e) in
    let one : entries_in (f ∷ []) ≡ file_entries f = flat_map-cons file_entries f [] ∙ append-nil (file_entries f) in
    let names : map entry_in (entries_in (take (i + 1) files)) ≡ map entry_in (entries_in (take i files)) ++ map entry_in (file_entries f) =
    ap (λ l. map entry_in (entries_in l)) more
    ∙ ap (map entry_in) (flat_map-append file_entries (take i files) (f ∷ []) ∙ ap (λ l. entries_in (take i files) ++ l) one)
    ∙ map-append entry_in (entries_in (take i files)) (file_entries f) in
    record { listed = added ∙ ap (λ l. l ++ map entry_in (file_entries f)) has.listed ∙ sym names }

pub files_end : (now : List Entry) (files : List AppFile) (i : ℕ) → HasFiles now (take i files) → length files ≤ i → now ≡ map entry_in (entries_in files)
files_end now files i has h = has.listed ∙ ap (λ l. map entry_in (entries_in l)) (take_all i files h)
