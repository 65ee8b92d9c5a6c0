-- The copy of an application for a kept set: its texts, and its trees.
use Rattle.std.specs.Prelude.{◌≡◌, ℕ, ◌+◌, ◌-◌, ◌≤◌, Bool, ◌||◌, nat_lt, not, List, [], ◌∷◌, ◌++◌, map, length, take, drop, replicate, codes, slice_range, Option, Some, None, ⊤, if◌then◌else◌}
use Rattle.std.specs.List.{sum_by, All}
use Rattle.less_terms.specs.Lines.{newlines}
use Rattle.php_tree.specs.declared.file.Span.{Span}
use Rattle.php_tree.specs.declared.file.FunSpan.{FunSpan}
use Rattle.php_tree.specs.Statements as s
use Rattle.php_tree.specs.Statements.{Head, Statement, Statements, Arms, Cases, Clauses, Function, Class, Members}
use Rattle.php_tree.specs.Functions.{entry_name, class_prefix, functions_of}
use Rattle.php_tree.specs.Height.{statements_height}
use Rattle.app_load.specs.Entries.{Entry, file, function}
use Rattle.app_load.specs.Files.{Tree, File}
use Rattle.app_load.specs.Kept.{Keeps}
use Rattle.app_load.specs.Parts.{Parts, file_parts, tree_parts}

-- ---- texts

-- the whole text of a removed file
abbrev pub file_stub : List ℕ → List ℕ
file_stub path = codes "<?php less_removed('file','" ++ (path ++ (codes "');" ++ 10 ∷ []))

-- the front of what stands for a removed body
abbrev pub stub_front : List ℕ → List ℕ → List ℕ
stub_front path name = codes "{less_removed('function','" ++ (path ++ (codes "','" ++ (name ++ codes "');")))

-- what stands for a removed body that had so many line ends
abbrev pub function_stub : List ℕ → List ℕ → ℕ → List ℕ
function_stub path name lines = stub_front path name ++ (replicate lines 10 ++ codes "}")

-- the bytes of a span, both its places included
abbrev pub span_text : List ℕ → Span → List ℕ
span_text text at = slice_range text at.from (at.to + 1)

-- The text of a file from a place on. Each function outside the kept set that begins there or later has its stub, but for
-- those inside one of them: their bodies begin before the place that was reached.
abbrev pub spliced : Keeps → List ℕ → List ℕ → ℕ → List FunSpan → List ℕ
spliced keeps path text at [] = drop at text
spliced keeps path text at (f ∷ fs) =
    if nat_lt f.span.from at || keeps (function path f.name) then spliced keeps path text at fs
    else slice_range text at f.span.from ++ (function_stub path f.name (newlines (span_text text f.span)) ++ spliced keeps path text (f.span.to + 1) fs)

-- the text of a PHP file with these functions
abbrev pub php_copy : Keeps → List ℕ → List ℕ → List FunSpan → List ℕ
php_copy keeps path text functions = if keeps (file path) then spliced keeps path text 0 functions else file_stub path

-- a file that is no PHP file stands unchanged; the functions are those of the file's tree
abbrev pub text_copy : Keeps → List ℕ → List ℕ → Option (List FunSpan) → List ℕ
text_copy keeps path text None = text
text_copy keeps path text (Some functions) = php_copy keeps path text functions

abbrev pub functions_or_none : Option Tree → Option (List FunSpan)
functions_or_none None = None
functions_or_none (Some ss) = Some (functions_of ss)

abbrev pub file_copy : Keeps → File → List ℕ × List ℕ
file_copy keeps f = (f.path, text_copy keeps f.path f.text (functions_or_none f.tree))

-- the files of the copy
abbrev pub copy_text : Keeps → List File → List (List ℕ × List ℕ)
copy_text keeps files = map (file_copy keeps) files

-- ---- trees

-- the one statement of a removed body, or of a removed file
abbrev pub removed_body : List ℕ → List ℕ → Tree
removed_body path name = s.statement (s.removed (codes "function") path (Some name) 0) s.no_more

abbrev pub removed_file : List ℕ → Tree
removed_file path = s.statement (s.removed (codes "file") path None 0) s.no_more

-- the tree with each outermost body outside the kept set replaced
abbrev mutual
  pub copied_statement : Keeps → List ℕ → Statement (List ℕ) → Statement (List ℕ)
  copied_statement keeps p (s.block ss l) = s.block (copied keeps p ss) l
  copied_statement keeps p (s.conditional arms ss l) = s.conditional (copied_arms keeps p arms) (copied keeps p ss) l
  copied_statement keeps p (s.while_loop e ss l) = s.while_loop e (copied keeps p ss) l
  copied_statement keeps p (s.do_loop ss e l) = s.do_loop (copied keeps p ss) e l
  copied_statement keeps p (s.for_loop a b c ss l) = s.for_loop a b c (copied keeps p ss) l
  copied_statement keeps p (s.foreach e k v ss l) = s.foreach e k v (copied keeps p ss) l
  copied_statement keeps p (s.switch e arms l) = s.switch e (copied_cases keeps p arms) l
  copied_statement keeps p (s.try ss cs l) = s.try (copied keeps p ss) (copied_clauses keeps p cs) l
  copied_statement keeps p (s.function f l) = s.function (copied_function keeps p [] f) l
  copied_statement keeps p (s.class c l) = s.class (copied_class keeps p c) l
  copied_statement keeps p x = x

  pub copied : Keeps → List ℕ → Statements (List ℕ) → Statements (List ℕ)
  copied keeps p s.no_more = s.no_more
  copied keeps p (s.statement x xs) = s.statement (copied_statement keeps p x) (copied keeps p xs)

  pub copied_arms : Keeps → List ℕ → Arms (List ℕ) → Arms (List ℕ)
  copied_arms keeps p s.no_arms = s.no_arms
  copied_arms keeps p (s.arm e ss arms) = s.arm e (copied keeps p ss) (copied_arms keeps p arms)

  pub copied_cases : Keeps → List ℕ → Cases (List ℕ) → Cases (List ℕ)
  copied_cases keeps p s.no_cases = s.no_cases
  copied_cases keeps p (s.case e ss arms) = s.case e (copied keeps p ss) (copied_cases keeps p arms)
  copied_cases keeps p (s.default_case ss arms) = s.default_case (copied keeps p ss) (copied_cases keeps p arms)

  pub copied_clauses : Keeps → List ℕ → Clauses (List ℕ) → Clauses (List ℕ)
  copied_clauses keeps p s.no_clauses = s.no_clauses
  copied_clauses keeps p (s.clause ns v ss cs) = s.clause ns v (copied keeps p ss) (copied_clauses keeps p cs)

  -- the name stands after what is before it: nothing, or a class and `::`
  pub copied_function : Keeps → List ℕ → List ℕ → Function (List ℕ) → Function (List ℕ)
  copied_function keeps p before (s.with_body h ss at) =
      s.with_body h (if keeps (function p (entry_name before h)) then copied keeps p ss else removed_body p (entry_name before h)) at

  pub copied_class : Keeps → List ℕ → Class (List ℕ) → Class (List ℕ)
  copied_class keeps p (s.with_members k n e is ms l) = s.with_members k n e is (copied_members keeps p (class_prefix n.text) ms) l

  pub copied_members : Keeps → List ℕ → List ℕ → Members (List ℕ) → Members (List ℕ)
  copied_members keeps p before s.no_members = s.no_members
  copied_members keeps p before (s.class_constants cs l ms) = s.class_constants cs l (copied_members keeps p before ms)
  copied_members keeps p before (s.properties mods ps l ms) = s.properties mods ps l (copied_members keeps p before ms)
  copied_members keeps p before (s.method mods f l ms) = s.method mods (copied_function keeps p before f) l (copied_members keeps p before ms)
  copied_members keeps p before (s.bodiless mods h l ms) = s.bodiless mods h l (copied_members keeps p before ms)

-- the tree of a PHP file's copy
abbrev pub tree_copy : Keeps → List ℕ → Tree → Tree
tree_copy keeps path ss = if keeps (file path) then copied keeps path ss else removed_file path

-- The trees of a file and of its copy have the same parts. The lines of placeholders, the places of bodies and ordinals do not
-- count. A file without a tree has the same text.
abbrev pub IsTreeCopy : Keeps → List ℕ → List ℕ → Option Tree → List ℕ → Option Tree → Type 0
IsTreeCopy keeps path text None copy None = copy ≡ text
IsTreeCopy keeps path text (Some ss) copy (Some ts) = tree_parts path ts ≡ tree_parts path (tree_copy keeps path ss)
IsTreeCopy keeps path text (Some ss) copy None = ⊥
IsTreeCopy keeps path text None copy (Some ts) = ⊥

pub record IsFileCopy (keeps : Keeps) (f g : File) : Type 0 where
  pub same_path : g.path ≡ f.path
  pub same_parts : IsTreeCopy keeps f.path f.text f.tree g.text g.tree

-- The files of a program are the copy of an application's for a kept set.
abbrev pub IsCopyOf : Keeps → List File → List File → Type 0
IsCopyOf keeps [] [] = ⊤
IsCopyOf keeps (f ∷ fs) (g ∷ gs) = IsFileCopy keeps f g × IsCopyOf keeps fs gs
IsCopyOf keeps (f ∷ fs) [] = ⊥
IsCopyOf keeps [] (g ∷ gs) = ⊥

-- ---- a copy that is within the limits

abbrev pub tree_height : Keeps → List ℕ → Option Tree → ℕ
tree_height keeps path None = 0
tree_height keeps path (Some ss) = statements_height (tree_copy keeps path ss)

abbrev pub php_length : Keeps → List ℕ → List ℕ → Option Tree → ℕ
php_length keeps path text None = 0
php_length keeps path text (Some ss) = length (php_copy keeps path text (functions_of ss))

-- the bytes of a PHP file in the copy, 0 for every other file
abbrev pub php_bytes : Keeps → File → ℕ
php_bytes keeps f = php_length keeps f.path f.text f.tree

-- A placeholder may be longer than what it stands for, and deeper.
pub record FileFits (keeps : Keeps) (f : File) : Type 0 where
  pub short : php_bytes keeps f ≤ 1048576
  pub flat : tree_height keeps f.path f.tree ≤ 200

pub record Fits (keeps : Keeps) (files : List File) : Type 0 where
  pub each : All (FileFits keeps) files
  pub total : sum_by (php_bytes keeps) files ≤ 8388608
