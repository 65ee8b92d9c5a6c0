-- The number of a path is that of a file.
use Rattle.std.proofs.Common.{◌≡◌, ℕ, zero, suc, ◌<◌, Bool, true, false, ◌||◌, List, [], ◌∷◌, length, get_or, slice_get, position, Option, Some, None, if◌then◌else◌, refl, sym, ap, subst, ◌∙◌, arith}
use Rattle.std.proofs.lemmas.List.Quantifiers.{position-Some}
use Rattle.std.specs.Cmp.Lexicographic.{same_text}
use Rattle.std.specs.List.{list_any}
use Rattle.std.specs.Str.{bytes_eq}
use Rattle.php_names.proofs.Tables.{bytes_eq-swapped}
use Rattle.php_tables.proofs.Names.{none_passes}
use Rattle.php_meaning.specs.World.{is_among}
use Rattle.php_meaning.specs.Folders.{joined_path, resolved, file_at}
use Rattle.php_folders.specs.Files.{IsFile}

among_if : (b c r s : Bool) → b ≡ c → r ≡ s → (if b then true else r) ≡ (c || s)
among_if b true r s e f = ap (λ a. if a then true else r) e
among_if b false r s e f = ap (λ a. if a then true else r) e ∙ f

among_any : (path : List ℕ) (files : List (List ℕ)) → is_among path files ≡ list_any (bytes_eq path) files
among_any path [] = refl
among_any path (p ∷ ps) = among_if (bytes_eq p path) (bytes_eq path p) (is_among path ps) (list_any (bytes_eq path) ps) (bytes_eq-swapped p path) (among_any path ps)

or_right : (a b : Bool) → b ≡ true → (a || b) ≡ true
or_right true b e = refl
or_right false b e = e

passes_at : (test : List ℕ → Bool) (files : List (List ℕ)) (i : ℕ) (d : List ℕ) → i < length files → test (get_or files i d) ≡ true → list_any test files ≡ true
passes_at test [] i d within e = absurd (omega arith)
passes_at test (p ∷ ps) zero d within e = ap (λ b. b || list_any test ps) e
passes_at test (p ∷ ps) (suc i) d within e = or_right (test p) (list_any test ps) (passes_at test ps i d (omega arith) e)

got : (files : List (List ℕ)) (i : ℕ) → i < length files → slice_get files i ≡ Some (get_or files i [])
got [] i within = absurd (omega arith)
got (p ∷ ps) zero within = refl
got (p ∷ ps) (suc i) within = got ps i (omega arith)

pub found_file : (files : List (List ℕ)) (path : List ℕ) (n : Option ℕ) → n ≡ position (bytes_eq path) files → IsFile files (if is_among path files then Some path else None) n
found_file files path None e = ap (λ b. if b then Some path else None) (among_any path files ∙ none_passes (bytes_eq path) files (sym e))
found_file files path (Some i) e =
    let at = position-Some (bytes_eq path) files i [] (sym e) in
    let same : path ≡ get_or files i [] = same_text path (get_or files i []) (sym at.1) in
    record {
      path = path;
      place = got files i at.0 ∙ ap Some (sym same);
      is = ap (λ b. if b then Some path else None) (among_any path files ∙ passes_at (bytes_eq path) files i [] at.0 at.1);
    }

pub at_end : (files : List (List ℕ)) (folder parts ss new : List (List ℕ)) (path : List ℕ) (n : Option ℕ) → parts ≡ ss → resolved folder parts ≡ Some new → path ≡ joined_path new →
    n ≡ position (bytes_eq path) files → IsFile files (file_at files (resolved folder ss)) n
at_end files folder parts ss new path n parts_are leads path_is number =
    subst (λ r. IsFile files r n)
    (ap (λ p. if is_among p files then Some p else None) path_is ∙ (sym (ap (file_at files) leads) ∙ ap (λ q. file_at files (resolved folder q)) parts_are))
    (found_file files path n number)
