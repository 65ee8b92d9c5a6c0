-- The parts of a copy beside those of its original.
use Rattle.std.proofs.Common.{◌≡◌, ℕ, Bool, true, false, ◌&&◌, List, [], ◌∷◌, ◌++◌, refl, sym, ap, subst, ◌∙◌, map, true≢false}
use Rattle.std.specs.Prelude.{Option, Some, None, if◌then◌else◌}
use Rattle.std.specs.Str.{bytes_eq}
use Rattle.php_tree.specs.Parts.{all_without_bodies, bodies_in}
use Rattle.app_load.specs.Entries.{Entry, file, function, is_same}
use Rattle.app_load.specs.Files.{Tree, File}
use Rattle.app_load.specs.Kept.{Keeps}
use Rattle.app_load.specs.Parts.{Part, body, stub, Parts, part_of, body_entry, part_at, parts, parts_or_none, tree_parts, file_parts}
use Rattle.app_load.specs.Copies.{copied, removed_file, tree_copy, IsTreeCopy, IsFileCopy, IsCopyOf}
use Rattle.app_load.specs.CopyParts.{IsGone, IsThere, AreThere, path_of, AreCopyParts, StandOnce, paths_of}
use Rattle.app_load.proofs.Bodies.{look, named_alike, names_itself, IsFound, IsWithin, AreFound}
use Rattle.app_load.proofs.CopiedTrees.{all_same, all_gone, IsKept, all_kept}
use Rattle.app_load.proofs.DirectTrees.{all_direct, all_inner}
use Rattle.app_load.proofs.PartsOf.{or_part, part_append, part_or_none, body_here, body_elsewhere, no_file, gone_part, gone_parts, are_there_left, are_there_right, found_there, part_is, once_named}

-- ---- the parts of a program are those of the copied trees

abbrev pub copied_or_none : Keeps → List ℕ → Option Tree → Option Tree
copied_or_none keeps path None = None
copied_or_none keeps path (Some ss) = Some (tree_copy keeps path ss)

abbrev pub copied_file : Keeps → File → Parts
copied_file keeps f = parts_or_none f.path (copied_or_none keeps f.path f.tree)

abbrev pub copied_parts : Keeps → List File → Parts
copied_parts keeps [] = []
copied_parts keeps (f ∷ fs) = copied_file keeps f ++ copied_parts keeps fs

tree_alike : (keeps : Keeps) (path text : List ℕ) (a : Option Tree) (copy : List ℕ) (b : Option Tree) → IsTreeCopy keeps path text a copy b → parts_or_none path b ≡ parts_or_none path (copied_or_none keeps path a)
tree_alike keeps path text None copy None h = refl
tree_alike keeps path text (Some ss) copy (Some ts) h = h
tree_alike keeps path text (Some ss) copy None h = absurd h
tree_alike keeps path text None copy (Some ts) h = absurd h

parts_alike : (keeps : Keeps) (fs gs : List File) → IsCopyOf keeps fs gs → parts gs ≡ copied_parts keeps fs
parts_alike keeps [] [] h = refl
parts_alike keeps (f ∷ fs) (g ∷ gs) h =
    ap (λ path. parts_or_none path g.tree ++ parts gs) h.0.same_path
    ∙ ap (λ ps. ps ++ parts gs) (tree_alike keeps f.path f.text f.tree g.text g.tree h.0.same_parts)
    ∙ ap (λ ps. copied_file keeps f ++ ps) (parts_alike keeps fs gs h.1)
parts_alike keeps (f ∷ fs) [] h = absurd h
parts_alike keeps [] (g ∷ gs) h = absurd h

-- ---- gone

module _ (keeps : Keeps) where
  module _ (e : Entry) (out : keeps e ≡ false) where
    kept_path : (path q : List ℕ) (p : Part) (x : Option Part) (c : Bool) → bytes_eq path q ≡ c → keeps (file path) ≡ true → e ≡ file q → IsGone x → IsGone (if c then Some p else x)
    kept_path path q p x true named k is g = absurd (true≢false (sym k ∙ (ap (λ l. keeps (file l)) (named_alike path q named) ∙ (ap keeps (sym is) ∙ out))))
    kept_path path q p x false named k is g = g

    a_stub : (c : Bool) → IsGone (if c then Some stub else None)
    a_stub true = tt {0}
    a_stub false = tt {0}

    body_gone : (path q n : List ℕ) (ss : Tree) (c : Bool) → bytes_eq path q ≡ c → e ≡ function q n → IsGone (part_at (map (body_entry path) (bodies_in (copied keeps path ss))) (function q n))
    body_gone path q n ss true named is =
        subst IsGone (sym (body_here path q n (bodies_in (copied keeps path ss)) named))
        (gone_part (look n (bodies_in (copied keeps path ss))) (all_gone keeps path n (ap (λ l. keeps (function l n)) (named_alike path q named) ∙ (ap keeps (sym is) ∙ out)) ss))
    body_gone path q n ss false named is = subst IsGone (sym (body_elsewhere path q n (bodies_in (copied keeps path ss)) named)) (tt {0})

    tree_gone : (path : List ℕ) (ss : Tree) (c : Bool) (d : Entry) → keeps (file path) ≡ c → e ≡ d → IsGone (part_at (tree_parts path (if c then copied keeps path ss else removed_file path)) d)
    tree_gone path ss true (file q) k is = kept_path path q (part_of (all_without_bodies (copied keeps path ss))) (part_at (map (body_entry path) (bodies_in (copied keeps path ss))) (file q)) (bytes_eq path q) refl k is
        (subst IsGone (sym (no_file path q (bodies_in (copied keeps path ss)))) (tt {0}))
    tree_gone path ss true (function q n) k is = body_gone path q n ss (bytes_eq path q) refl is
    tree_gone path ss false (file q) k is = a_stub (bytes_eq path q)
    tree_gone path ss false (function q n) k is = tt {0}

    file_gone : (path : List ℕ) (t : Option Tree) → IsGone (part_at (parts_or_none path (copied_or_none keeps path t)) e)
    file_gone path None = tt {0}
    file_gone path (Some ss) = tree_gone path ss (keeps (file path)) e refl refl

    pub gone : (fs : List File) → IsGone (part_at (copied_parts keeps fs) e)
    gone [] = tt {0}
    gone (f ∷ fs) = gone_parts e (copied_file keeps f) (copied_parts keeps fs) (file_gone f.path f.tree) (gone fs)

  -- ---- files

  module _ (q : List ℕ) (stays : keeps (file q) ≡ true) where
    alike : (c : Bool) (s t : Part) (x y : Option Part) → s ≡ t → x ≡ y → (if c then Some s else x) ≡ (if c then Some t else y)
    alike c s t x y e f = ap (λ p. if c then Some p else x) e ∙ ap (λ z. if c then Some t else z) f

    not_here : (path : List ℕ) (p : Part) (x : Option Part) (c : Bool) → bytes_eq path q ≡ c → keeps (file path) ≡ false → x ≡ None → (if c then Some stub else None) ≡ (if c then Some p else x)
    not_here path p x true named k e = absurd (true≢false (sym stays ∙ (sym (ap (λ l. keeps (file l)) (named_alike path q named)) ∙ k)))
    not_here path p x false named k e = sym e

    tree_file : (path : List ℕ) (ss : Tree) (c : Bool) → keeps (file path) ≡ c → part_at (tree_parts path (if c then copied keeps path ss else removed_file path)) (file q) ≡ part_at (tree_parts path ss) (file q)
    tree_file path ss true k = alike (bytes_eq path q) (part_of (all_without_bodies (copied keeps path ss))) (part_of (all_without_bodies ss)) (part_at (map (body_entry path) (bodies_in (copied keeps path ss))) (file q)) (part_at (map (body_entry path) (bodies_in ss)) (file q))
        (ap part_of (all_same keeps path ss)) (no_file path q (bodies_in (copied keeps path ss)) ∙ sym (no_file path q (bodies_in ss)))
    tree_file path ss false k = not_here path (part_of (all_without_bodies ss)) (part_at (map (body_entry path) (bodies_in ss)) (file q)) (bytes_eq path q) refl k (no_file path q (bodies_in ss))

    one_file : (path : List ℕ) (t : Option Tree) → part_at (parts_or_none path (copied_or_none keeps path t)) (file q) ≡ part_at (parts_or_none path t) (file q)
    one_file path None = refl
    one_file path (Some ss) = tree_file path ss (keeps (file path)) refl

    pub files_stay : (fs : List File) → part_at (copied_parts keeps fs) (file q) ≡ part_at (parts fs) (file q)
    files_stay [] = refl
    files_stay (f ∷ fs) =
        part_append (file q) (copied_file keeps f) (copied_parts keeps fs)
        ∙ (ap (λ x. or_part x (part_at (copied_parts keeps fs) (file q))) (one_file f.path f.tree)
        ∙ (ap (or_part (part_at (file_parts f) (file q))) (files_stay fs)
        ∙ sym (part_append (file q) (file_parts f) (parts fs))))

  -- ---- functions

  -- what is found in the copy is found alike in the original
  abbrev IsKeptPart : Option Part → Option Part → Type 0
  IsKeptPart None y = Unit {0}
  IsKeptPart (Some p) y = y ≡ Some p

  abbrev ArePartsApart : Option Part → Option Part → Type 0
  ArePartsApart None y = Unit {0}
  ArePartsApart (Some p) y = y ≡ None

  kept_part : (x y : Option Tree) → IsKept x y → IsKeptPart (part_or_none x) (part_or_none y)
  kept_part None y k = tt {0}
  kept_part (Some b) y k = ap part_or_none k

  kept_or : (x y v w : Option Part) → ArePartsApart x y → IsKeptPart v x → IsKeptPart w y → IsKeptPart (or_part v w) (or_part x y)
  kept_or x y (Some b) w a k l = ap (λ o. or_part o y) k
  kept_or x y None None a k l = tt {0}
  kept_or (Some c) y None (Some b) a k l = absurd (subst IsThere (sym l ∙ a) (tt {0}))
  kept_or None y None (Some b) a k l = l

  none_right : (x y : Option Part) → or_part x y ≡ None → y ≡ None
  none_right (Some c) y e = absurd (subst IsThere e (tt {0}))
  none_right None y e = e

  once_left : (ps qs : Parts) → StandOnce (ps ++ qs) → StandOnce ps
  once_left [] qs o = tt {0}
  once_left ((e, p) ∷ ps) qs o = (none_left (part_at ps e) (part_at qs e) (sym (part_append e ps qs) ∙ o.0), once_left ps qs o.1)
    where
      none_left : (x y : Option Part) → or_part x y ≡ None → x ≡ None
      none_left (Some c) y e = absurd (subst IsThere e (tt {0}))
      none_left None y e = refl

  once_right : (ps qs : Parts) → StandOnce (ps ++ qs) → StandOnce qs
  once_right [] qs o = o
  once_right ((e, p) ∷ ps) qs o = once_right ps qs o.1

  both_true : (a b : Bool) → (a && b) ≡ true → (a ≡ true) × (b ≡ true)
  both_true true b e = (refl, e)
  both_true false b e = absurd (true≢false (sym e))

  same_entry : (d e : Entry) → is_same d e ≡ true → d ≡ e
  same_entry (file p) (file q) h = ap file (named_alike p q h)
  same_entry (function p n) (function q m) h =
      let both = both_true (bytes_eq p q) (bytes_eq n m) h in ap (λ l. function l n) (named_alike p q both.0) ∙ ap (function q) (named_alike n m both.1)
  same_entry (file p) (function q m) h = absurd (true≢false (sym h))
  same_entry (function p n) (file q) h = absurd (true≢false (sym h))

  apart_at : (d e : Entry) (p : Part) (x y : Option Part) (qs : Parts) (c : Bool) → is_same d e ≡ c → part_at qs d ≡ None → y ≡ part_at qs e → ArePartsApart x y → ArePartsApart (if c then Some p else x) y
  apart_at d e p x y qs true same none is a = is ∙ subst (λ l. part_at qs l ≡ None) (same_entry d e same) none
  apart_at d e p x y qs false same none is a = a

  apart : (e : Entry) (ps qs : Parts) → StandOnce (ps ++ qs) → ArePartsApart (part_at ps e) (part_at qs e)
  apart e [] qs o = tt {0}
  apart e ((d, p) ∷ ps) qs o =
      apart_at d e p (part_at ps e) (part_at qs e) qs (is_same d e) refl (none_right (part_at ps d) (part_at qs d) (sym (part_append d ps qs) ∙ o.0)) refl (apart e ps qs o.1)

  module _ (q n : List ℕ) (stays : keeps (function q n) ≡ true) where
    body_kept : (path : List ℕ) (ss : Tree) (c : Bool) → bytes_eq path q ≡ c → StandOnce (tree_parts path ss)
        → IsKeptPart (part_at (map (body_entry path) (bodies_in (copied keeps path ss))) (function q n)) (part_at (map (body_entry path) (bodies_in ss)) (function q n))
    body_kept path ss true named o =
        subst (λ x. IsKeptPart x (part_at (map (body_entry path) (bodies_in ss)) (function q n))) (sym (body_here path q n (bodies_in (copied keeps path ss)) named))
        (subst (IsKeptPart (part_or_none (look n (bodies_in (copied keeps path ss))))) (sym (body_here path q n (bodies_in ss) named))
        (kept_part (look n (bodies_in (copied keeps path ss))) (look n (bodies_in ss))
        (all_kept keeps path n (ap (λ l. keeps (function l n)) (named_alike path q named) ∙ stays) ss (once_named path (bodies_in ss) (names_itself path) o.1))))
    body_kept path ss false named o =
        subst (λ x. IsKeptPart x (part_at (map (body_entry path) (bodies_in ss)) (function q n))) (sym (body_elsewhere path q n (bodies_in (copied keeps path ss)) named)) (tt {0})

    tree_kept : (path : List ℕ) (ss : Tree) (c : Bool) → StandOnce (tree_parts path ss)
        → IsKeptPart (part_at (tree_parts path (if c then copied keeps path ss else removed_file path)) (function q n)) (part_at (tree_parts path ss) (function q n))
    tree_kept path ss true o = body_kept path ss (bytes_eq path q) refl o
    tree_kept path ss false o = tt {0}

    file_kept : (path : List ℕ) (t : Option Tree) → StandOnce (parts_or_none path t) → IsKeptPart (part_at (parts_or_none path (copied_or_none keeps path t)) (function q n)) (part_at (parts_or_none path t) (function q n))
    file_kept path None o = tt {0}
    file_kept path (Some ss) o = tree_kept path ss (keeps (file path)) o

    functions_kept : (fs : List File) → StandOnce (parts fs) → IsKeptPart (part_at (copied_parts keeps fs) (function q n)) (part_at (parts fs) (function q n))
    functions_kept [] o = tt {0}
    functions_kept (f ∷ fs) o =
        subst (λ x. IsKeptPart x (part_at (parts (f ∷ fs)) (function q n))) (sym (part_append (function q n) (copied_file keeps f) (copied_parts keeps fs)))
        (subst (IsKeptPart (or_part (part_at (copied_file keeps f) (function q n)) (part_at (copied_parts keeps fs) (function q n)))) (sym (part_append (function q n) (file_parts f) (parts fs)))
        (kept_or (part_at (file_parts f) (function q n)) (part_at (parts fs) (function q n)) (part_at (copied_file keeps f) (function q n)) (part_at (copied_parts keeps fs) (function q n))
        (apart (function q n) (file_parts f) (parts fs) o) (file_kept f.path f.tree (once_left (file_parts f) (parts fs) o)) (functions_kept fs (once_right (file_parts f) (parts fs) o))))

    as_it_was : (x y : Option Part) → IsThere x → IsKeptPart x y → x ≡ y
    as_it_was None y t k = absurd t
    as_it_was (Some p) y t k = sym k

    pub functions_stay : (fs : List File) → StandOnce (parts fs) → IsThere (part_at (copied_parts keeps fs) (function q n)) → part_at (copied_parts keeps fs) (function q n) ≡ part_at (parts fs) (function q n)
    functions_stay fs o t = as_it_was (part_at (copied_parts keeps fs) (function q n)) (part_at (parts fs) (function q n)) t (functions_kept fs o)

-- ---- what stands in a part is there

abbrev part_in : Part → Option Part → Part
part_in p None = p
part_in p (Some x) = x

found_body : (x : Option Tree) (t : Tree) → part_or_none x ≡ Some (body t) → x ≡ Some t
found_body None t e = absurd (subst IsThere (sym e) (tt {0}))
found_body (Some b) t e = ap Some (part_is b t (ap (part_in stub) e))

module _ (path : List ℕ) (u : Tree) (t : Tree) where
  inside : (q : List ℕ) → AreThere (part_at (map (body_entry path) (bodies_in u))) q (bodies_in t) → AreThere (part_at (tree_parts path u)) q (bodies_in t)
  inside q f = are_there_right ((file path, part_of (all_without_bodies u)) ∷ []) (map (body_entry path) (bodies_in u)) q (bodies_in t) f

  at_file : (q : List ℕ) (x : Option Part) (c : Bool) → bytes_eq path q ≡ c → x ≡ None → (if c then Some (part_of (all_without_bodies u)) else x) ≡ Some (body t) → AreThere (part_at (tree_parts path u)) q (bodies_in t)
  at_file q x true named none e =
      inside q (found_there path q (bodies_in u) (bodies_in t) named
      (subst (λ b. AreFound (bodies_in u) (bodies_in b)) (part_is (all_without_bodies u) t (ap (part_in stub) e)) (all_direct (bodies_in u) u (λ n f. f))))
  at_file q x false named none e = absurd (subst IsThere (sym e ∙ none) (tt {0}))

  at_function : (q n : List ℕ) (c : Bool) → bytes_eq path q ≡ c → part_at (map (body_entry path) (bodies_in u)) (function q n) ≡ Some (body t) → AreThere (part_at (tree_parts path u)) q (bodies_in t)
  at_function q n true named e =
      inside q (found_there path q (bodies_in u) (bodies_in t) named
      (all_inner (bodies_in u) n t u (λ m f. f) (found_body (look n (bodies_in u)) t (sym (body_here path q n (bodies_in u) named) ∙ e))))
  at_function q n false named e = absurd (subst IsThere (sym e ∙ body_elsewhere path q n (bodies_in u) named) (tt {0}))

  tree_declared : (e : Entry) → part_at (tree_parts path u) e ≡ Some (body t) → AreThere (part_at (tree_parts path u)) (path_of e) (bodies_in t)
  tree_declared (file q) e = at_file q (part_at (map (body_entry path) (bodies_in u)) (file q)) (bytes_eq path q) refl (no_file path q (bodies_in u)) e
  tree_declared (function q n) e = at_function q n (bytes_eq path q) refl e

file_declared : (path : List ℕ) (a : Option Tree) (e : Entry) (t : Tree) → part_at (parts_or_none path a) e ≡ Some (body t) → AreThere (part_at (parts_or_none path a)) (path_of e) (bodies_in t)
file_declared path None e t h = absurd (subst IsThere (sym h) (tt {0}))
file_declared path (Some u) e t h = tree_declared path u t e h

found_either : {R : Type 0} (x y : Option Part) (p : Part) → or_part x y ≡ Some p → (x ≡ Some p → R) → (y ≡ Some p → R) → R
found_either (Some c) y p e left right = left e
found_either None y p e left right = right e

declared : (keeps : Keeps) (fs : List File) (e : Entry) (t : Tree) → part_at (copied_parts keeps fs) e ≡ Some (body t) → AreThere (part_at (copied_parts keeps fs)) (path_of e) (bodies_in t)
declared keeps [] e t h = absurd (subst IsThere (sym h) (tt {0}))
declared keeps (f ∷ fs) e t h =
    found_either (part_at (copied_file keeps f) e) (part_at (copied_parts keeps fs) e) (body t) (sym (part_append e (copied_file keeps f) (copied_parts keeps fs)) ∙ h)
    (λ g. are_there_left (copied_file keeps f) (copied_parts keeps fs) (path_of e) (bodies_in t) (file_declared f.path (copied_or_none keeps f.path f.tree) e t g))
    (λ g. are_there_right (copied_file keeps f) (copied_parts keeps fs) (path_of e) (bodies_in t) (declared keeps fs e t g))

-- ---- all of it

whole : (keeps : Keeps) (fs : List File) → StandOnce (parts fs) → AreCopyParts keeps (part_at (parts fs)) (part_at (copied_parts keeps fs))
whole keeps fs o = record {
  gone = λ e out. gone keeps e out fs;
  files = λ path stays. files_stay keeps path stays fs;
  functions = λ path name stays there. functions_stay keeps path name stays fs o there;
  declared = declared keeps fs;
}

pub copy_parts : (keeps : Keeps) (fs gs : List File) → StandOnce (parts fs) → IsCopyOf keeps fs gs → AreCopyParts keeps (part_at (parts fs)) (part_at (parts gs))
copy_parts keeps fs gs o h = subst (λ ps. AreCopyParts keeps (part_at (parts fs)) (part_at ps)) (sym (parts_alike keeps fs gs h)) (whole keeps fs o)

-- ---- paths

paths_append : (ps qs : Parts) → paths_of (ps ++ qs) ≡ paths_of ps ++ paths_of qs
paths_append [] qs = refl
paths_append ((file path, p) ∷ ps) qs = ap (λ l. path ∷ l) (paths_append ps qs)
paths_append ((function path name, p) ∷ ps) qs = paths_append ps qs

no_paths : (path : List ℕ) (bs : List (List ℕ × Tree)) → paths_of (map (body_entry path) bs) ≡ []
no_paths path [] = refl
no_paths path ((n, b) ∷ bs) = no_paths path bs

file_paths : (keeps : Keeps) (path : List ℕ) (a : Option Tree) → paths_of (parts_or_none path (copied_or_none keeps path a)) ≡ paths_of (parts_or_none path a)
file_paths keeps path None = refl
file_paths keeps path (Some ss) = ap (λ l. path ∷ l) (no_paths path (bodies_in (tree_copy keeps path ss)) ∙ sym (no_paths path (bodies_in ss)))

all_paths : (keeps : Keeps) (fs : List File) → paths_of (copied_parts keeps fs) ≡ paths_of (parts fs)
all_paths keeps [] = refl
all_paths keeps (f ∷ fs) =
    paths_append (copied_file keeps f) (copied_parts keeps fs)
    ∙ (ap (λ l. l ++ paths_of (copied_parts keeps fs)) (file_paths keeps f.path f.tree)
    ∙ (ap (λ l. paths_of (file_parts f) ++ l) (all_paths keeps fs)
    ∙ sym (paths_append (file_parts f) (parts fs))))

pub same_paths : (keeps : Keeps) (fs gs : List File) → IsCopyOf keeps fs gs → paths_of (parts gs) ≡ paths_of (parts fs)
same_paths keeps fs gs h = ap paths_of (parts_alike keeps fs gs h) ∙ all_paths keeps fs
