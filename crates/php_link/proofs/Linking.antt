-- Files that are linked, and what their program stands for.
use Rattle.std.proofs.Common.{◌≡◌, ℕ, zero, suc, ◌+◌, ◌<◌, ◌≤◌, Bool, false, List, [], ◌∷◌, ◌++◌, length, map, take, get_or, slice_get, Option, Some, None, refl, sym, ap, subst, ◌∙◌, add-one, append_assoc, arith}
use Rattle.std.specs.List.{list_any, flat_map, AllByRecursion}
use Rattle.std.specs.List.Sorted.{IsStrictlySortedBy}
use Rattle.std.specs.declared.cmp.Ordering.TheVariants.{Less}
use Rattle.std.specs.Ordering.{nat_cmp, is_eq}
use Rattle.std.specs.Cmp.Lexicographic.{slice_cmp}
use Rattle.std.specs.Str.{bytes_eq}
use Rattle.std.proofs.lemmas.List.{map-append}
use Rattle.std.proofs.lemmas.Map.Text.{is_eq-slice_cmp}
use Rattle.php_tree.specs.declared.name.VarName.{VarName}
use Rattle.php_tree.specs.declared.file.FileTree.{FileTree}
use Rattle.php_tree.specs.StatementOf.{statements_of}
use Rattle.php_tree.specs.Renamed.{name_at, renamed_statements}
use Rattle.php_renumber.specs.declared.numbers.Numbers.{Numbers}
use Rattle.php_renumber.specs.Numbers.{number_in}
use Rattle.app_load.specs.declared.app.AppFile.{AppFile}
use Rattle.app_load.specs.Files.{Tree, File, tree_of, tree_or_none, file_of, files_of}
use Rattle.app_load.specs.Parts.{Parts, tree_parts, parts_or_none, file_parts, body_entry, parts}
use Rattle.app_load.specs.CopyParts.{paths_of}
use Rattle.app_files.specs.FileSets.{AreWhole, path_bytes}
use Rattle.php_tree.specs.Parts.{bodies_in}
use Rattle.php_world.specs.Naming.{Naming}
use Rattle.php_state.specs.declared.program.ProgramFile.{ProgramFile}
use Rattle.php_state.specs.declared.program.Program.{Program}
use Rattle.php_state.specs.Linked.{parts_of_file, program_parts, path_of_file, text_of_name, AreApart, superglobals, IsLinked}
use Rattle.php_link.specs.declared.names.Names.{Names}
use Rattle.php_link.specs.Names.{Knows, Grows, AreSame, Goes, AreNumbered, first_names}
use Rattle.php_link.specs.Links.{PhpFile, if_php, php_files, file_named, IsLinkedFile, AreLinked, HasNames, IsLinkOf}
use Rattle.php_link.proofs.Texts.{Lone, apart, both_false, begins, grows_more}
use Rattle.php_link.proofs.Goings.{stays, goes_on, knew}
use Rattle.php_link.proofs.Twice.{statements_twice}

-- ---- one file

pub one_linked : (old new : Names) (path : List ℕ) (tree : FileTree) (numbers : Numbers) (f : ProgramFile) → AreNumbered old new tree.variables numbers
    → statements_of f.statements ≡ renamed_statements (number_in numbers) (statements_of tree.stmts) → f.path ≡ path → IsLinkedFile old new path tree f
one_linked old new path tree numbers f numbered same at = record {
  goes = numbered.goes;
  is = λ name k.
      ap (λ p. (p, renamed_statements name (statements_of f.statements))) at
      ∙ (ap (λ ss. (path, renamed_statements name ss)) same
      ∙ ap (λ z. (path, z)) (statements_twice (number_in numbers) name (name_at tree.variables) (numbered.named name k) (statements_of tree.stmts)));
}

of_none : (file : AppFile) → file.tree ≡ None → php_files (files_of (file ∷ [])) ≡ []
of_none file e = ap (λ o. if_php (path_bytes file) (tree_or_none o) ++ []) e

of_some : (file : AppFile) (tree : FileTree) → file.tree ≡ Some tree → php_files (files_of (file ∷ [])) ≡ (path_bytes file, tree_of tree) ∷ []
of_some file tree e = ap (λ o. if_php (path_bytes file) (tree_or_none o) ++ []) e

nothing_more : {A : Type 0} (xs : List A) → xs ++ [] ≡ xs
nothing_more [] = refl
nothing_more (x ∷ xs) = ap (λ z. x ∷ z) (nothing_more xs)

pub none_added : (names : Names) (file : AppFile) (linked : List ProgramFile) → AreSame names → file.tree ≡ None → AreLinked names names (file ∷ []) linked linked
none_added names file linked same none = record {
  goes = stays names same;
  are = λ name k. sym (ap (λ z. map (file_named name) linked ++ z) (of_none file none) ∙ nothing_more (map (file_named name) linked));
}

pub one_added : (old new : Names) (file : AppFile) (tree : FileTree) (path : List ℕ) (f : ProgramFile) (before after : List ProgramFile) → file.tree ≡ Some tree → path ≡ path_bytes file → IsLinkedFile old new path tree f
    → after ≡ before ++ f ∷ [] → AreLinked old new (file ∷ []) before after
one_added old new file tree path f before after some at linked e = record {
  goes = linked.goes;
  are = λ name k.
      ap (map (file_named name)) e ∙ (map-append (file_named name) before (f ∷ [])
      ∙ ap (λ z. map (file_named name) before ++ z) (ap (λ z. z ∷ []) (linked.is name k ∙ ap (λ p. (p, tree_of tree)) at) ∙ sym (of_some file tree some)));
}

-- ---- all files

php_append : (xs ys : List File) → php_files (xs ++ ys) ≡ php_files xs ++ php_files ys
php_append [] ys = refl
php_append (x ∷ xs) ys = ap (λ z. if_php x.path x.tree ++ z) (php_append xs ys) ∙ sym (append_assoc (if_php x.path x.tree) (php_files xs) (php_files ys))

next_file : (files : List AppFile) (i : ℕ) (x : AppFile) → i < length files → x ≡ get_or files i x → php_files (files_of (take (suc i) files)) ≡ php_files (files_of (take i files)) ++ php_files (files_of (x ∷ []))
next_file [] i x less is = absurd (omega arith)
next_file (y ∷ ys) zero x less is = ap (λ z. php_files (files_of (z ∷ []))) (sym is)
next_file (y ∷ ys) (suc i) x less is =
    ap (λ z. if_php (path_bytes y) (tree_or_none y.tree) ++ z) (next_file ys i x (omega arith) is)
    ∙ sym (append_assoc (if_php (path_bytes y) (tree_or_none y.tree)) (php_files (files_of (take i ys))) (php_files (files_of (x ∷ []))))

pub none_yet : (old : Names) (files : List AppFile) (linked : List ProgramFile) → AreSame old → linked ≡ [] → AreLinked old old (take 0 files) [] linked
none_yet old files linked same e = record { goes = stays old same; are = λ name k. ap (map (file_named name)) e }

pub one_more : (old now new : Names) (files : List AppFile) (i : ℕ) (x : AppFile) (linked after : List ProgramFile) → i < length files → x ≡ get_or files i x
    → AreLinked old now (take i files) [] linked → AreLinked now new (x ∷ []) linked after → AreLinked old new (take (i + 1) files) [] after
one_more old now new files i x linked after less is so_far one =
    subst (λ n. AreLinked old new (take n files) [] after) (sym (add-one i)) (record {
      goes = goes_on old now new so_far.goes one.goes;
      are = λ name k.
          one.are name k ∙ (ap (λ z. z ++ php_files (files_of (x ∷ []))) (so_far.are name (knew name now new one.goes k)) ∙ sym (next_file files i x less is));
    })

take_all : (files : List AppFile) (i : ℕ) → length files ≤ i → take i files ≡ files
take_all [] zero past = refl
take_all [] (suc i) past = refl
take_all (x ∷ xs) zero past = absurd (omega arith)
take_all (x ∷ xs) (suc i) past = ap (λ z. x ∷ z) (take_all xs i (omega arith))

pub all_linked : (old now : Names) (files : List AppFile) (i : ℕ) (linked : List ProgramFile) → length files ≤ i → AreLinked old now (take i files) [] linked → AreLinked old now files [] linked
all_linked old now files i linked past so_far = subst (λ fs. AreLinked old now fs [] linked) (take_all files i past) so_far

-- ---- paths

abbrev path_in : PhpFile → List ℕ
path_in f = f.0

path_if : (path : List ℕ) (tree : Option Tree) (rest : List PhpFile) → map path_in (if_php path tree ++ rest) ≡ map path_in (if_php path tree) ++ map path_in rest
path_if path None rest = refl
path_if path (Some ss) rest = refl

none_if : (p q : List ℕ) (tree : Option Tree) (rest : List PhpFile) → bytes_eq p q ≡ false → list_any (bytes_eq p) (map path_in rest) ≡ false → list_any (bytes_eq p) (map path_in (if_php q tree ++ rest)) ≡ false
none_if p q None rest e f = f
none_if p q (Some ss) rest e f = both_false (bytes_eq p q) (list_any (bytes_eq p) (map path_in rest)) e f

none_below : (p : List ℕ) (files : List AppFile) → AllByRecursion (λ y. slice_cmp nat_cmp p y ≡ Less) (map path_bytes files) → list_any (bytes_eq p) (map path_in (php_files (files_of files))) ≡ false
none_below p [] h = refl
none_below p (f ∷ fs) h = none_if p (path_bytes f) (tree_or_none f.tree) (php_files (files_of fs)) (sym (is_eq-slice_cmp p (path_bytes f)) ∙ ap is_eq h.0) (none_below p fs h.1)

lone_if : (q : List ℕ) (tree : Option Tree) (rest : List PhpFile) → list_any (bytes_eq q) (map path_in rest) ≡ false → Lone (map path_in rest) → Lone (map path_in (if_php q tree ++ rest))
lone_if q None rest e h = h
lone_if q (Some ss) rest e h = (e, h)

lone_paths : (files : List AppFile) → IsStrictlySortedBy (slice_cmp nat_cmp) (map path_bytes files) → Lone (map path_in (php_files (files_of files)))
unfolding IsStrictlySortedBy
lone_paths [] h = tt
lone_paths (f ∷ fs) h = lone_if (path_bytes f) (tree_or_none f.tree) (php_files (files_of fs)) (none_below (path_bytes f) fs h.0) (lone_paths fs h.1)

paths_named : (name : ℕ → List ℕ) (fs : List ProgramFile) → map path_in (map (file_named name) fs) ≡ map path_of_file fs
paths_named name [] = refl
paths_named name (f ∷ fs) = ap (λ z. f.path ∷ z) (paths_named name fs)

-- some function has the names of a list
abbrev text_at : List (List ℕ) → ℕ → List ℕ
text_at texts n = get_or texts n []

knows_them : (texts : List (List ℕ)) → Knows (text_at texts) texts
knows_them [] n text e = cc
knows_them (x ∷ xs) zero text e = cc
knows_them (x ∷ xs) (suc n) text e = knows_them xs n text e

linked_paths : (old new : Names) (files : List AppFile) (linked : List ProgramFile) → AreLinked old new files [] linked → map path_of_file linked ≡ map path_in (php_files (files_of files))
linked_paths old new files linked all = sym (paths_named (text_at new.table) linked) ∙ ap (map path_in) (all.are (text_at new.table) (knows_them new.table))

pub paths_apart : (old new : Names) (files : List AppFile) (linked : List ProgramFile) → AreWhole files → AreLinked old new files [] linked → AreApart (map path_of_file linked)
paths_apart old new files linked whole all = subst AreApart (sym (linked_paths old new files linked all)) (apart (map path_in (php_files (files_of files))) (lone_paths files whole.ascending))

past_bodies : (path : List ℕ) (bs : List (List ℕ × Tree)) (rest : Parts) → paths_of (map (body_entry path) bs ++ rest) ≡ paths_of rest
past_bodies path [] rest = refl
past_bodies path ((name, ss) ∷ bs) rest = past_bodies path bs rest

paths_if : (path : List ℕ) (tree : Option Tree) (rest : Parts) (fs : List PhpFile) → paths_of rest ≡ map path_in fs → paths_of (parts_or_none path tree ++ rest) ≡ map path_in (if_php path tree ++ fs)
paths_if path None rest fs e = e
paths_if path (Some ss) rest fs e = ap (λ z. path ∷ z) (past_bodies path (bodies_in ss) rest ∙ e)

paths_in : (fs : List File) → paths_of (parts fs) ≡ map path_in (php_files fs)
paths_in [] = refl
paths_in (f ∷ fs) = paths_if f.path f.tree (parts fs) (php_files fs) (paths_in fs)

-- ---- parts

abbrev php_parts : PhpFile → Parts
php_parts f = tree_parts f.0 f.1

parts_if : (path : List ℕ) (tree : Option Tree) (rest : List PhpFile) → flat_map php_parts (if_php path tree ++ rest) ≡ parts_or_none path tree ++ flat_map php_parts rest
parts_if path None rest = refl
parts_if path (Some ss) rest = refl

parts_in : (fs : List File) → flat_map php_parts (php_files fs) ≡ parts fs
parts_in [] = refl
parts_in (f ∷ fs) = parts_if f.path f.tree (php_files fs) ∙ ap (λ z. parts_or_none f.path f.tree ++ z) (parts_in fs)

parts_named : (t : Naming) (fs : List ProgramFile) → flat_map (parts_of_file t) fs ≡ flat_map php_parts (map (file_named t.name) fs)
parts_named t [] = refl
parts_named t (f ∷ fs) = ap (λ z. parts_of_file t f ++ z) (parts_named t fs)

-- ---- the program

has_knows : (name : ℕ → List ℕ) (list : List VarName) → ((n : ℕ) (x : VarName) → slice_get list n ≡ Some x → name n ≡ x.text) → Knows name (map text_of_name list)
has_knows name [] h n text e = cc
has_knows name (x ∷ xs) h zero text e = let f : name 0 ≡ x.text = h zero x refl in let g : x.text ≡ text = cc in f ∙ g
has_knows name (x ∷ xs) h (suc n) text e = has_knows (λ m. name (suc m)) xs (λ m. h (suc m)) n text e

pub is_link : (files : List AppFile) (old new : Names) (linked : List ProgramFile) (paths : List (List ℕ)) → AreWhole files → AreSame old → old.table ≡ first_names → AreApart first_names
    → paths ≡ map path_of_file linked → AreLinked old new files [] linked → IsLinkOf files (record { files = linked; paths = paths; names = new.list })
is_link files old new linked paths whole same first first_apart at all =
    let grown : Grows first_names new.table = λ n text e. all.goes.grows n text (ap (λ z. slice_get z n) first ∙ e) in
    let begin : Grows first_names (map text_of_name new.list) = λ n text e. ap (λ z. slice_get z n) all.goes.same ∙ grown n text e in
    let knows = λ (t : Naming) (h : HasNames t (record { files = linked; paths = paths; names = new.list })). subst (Knows t.name) all.goes.same (has_knows t.name new.list h) in
    record {
      linked = record {
        paths_are = at;
        paths_differ = subst AreApart (sym at) (paths_apart old new files linked whole all);
        names_begin = begins superglobals (map text_of_name new.list) (λ n text e. begin n text (grows_more superglobals ([] ∷ []) n text e));
      };
      files_are = λ t h. all.are t.name (knows t h);
      parts_are = λ t h. parts_named t linked ∙ (ap (flat_map php_parts) (all.are t.name (knows t h)) ∙ parts_in (files_of files));
      paths_are = at ∙ (linked_paths old new files linked all ∙ sym (paths_in (files_of files)));
      names_differ = subst AreApart (sym all.goes.same) (all.goes.apart (subst AreApart (sym first) first_apart));
      names_begin = begin;
    }
