-- The pages that are played so far: text outside of code, `echo` of literal texts, and `;`.
use Rattle.std.specs.Prelude.{ℕ, Bool, true, false, ◌&&◌, List, [], ◌∷◌, Option, Some, None, codes, if◌then◌else◌}
use Rattle.std.specs.Str.{bytes_eq}
use Rattle.std.specs.Option.{option_and_then}
use Rattle.app_load.specs.Files.{File}
use Rattle.php_frames.specs.Statements as page
use Rattle.php_tree.specs.Expressions as e
use Rattle.php_tree.specs.Expressions.{Expression, Expressions}
use Rattle.php_tree.specs.Statements as s
use Rattle.php_tree.specs.Statements.{Statement, Statements}

-- ---- literal texts

abbrev pub is_text : {V : Type 0} → Expression V → Bool
is_text (e.text bytes l) = true
is_text _ = false

abbrev pub are_texts : {V : Type 0} → Expressions V → Bool
are_texts e.no_more = true
are_texts (e.expression x xs) = is_text x && are_texts xs

-- the bytes of a literal text
abbrev pub text_of : {V : Type 0} → Expression V → List ℕ
text_of (e.text bytes l) = bytes
text_of _ = []

abbrev pub texts_of : {V : Type 0} → Expressions V → List (List ℕ)
texts_of e.no_more = []
texts_of (e.expression x xs) = text_of x ∷ texts_of xs

-- ---- statements

abbrev pub is_plain : {V : Type 0} → Statement V → Bool
is_plain (s.inline bytes l) = true
is_plain (s.echo xs l) = are_texts xs
is_plain (s.nothing l) = true
is_plain _ = false

abbrev pub are_plain : {V : Type 0} → Statements V → Bool
are_plain s.no_more = true
are_plain (s.statement x xs) = is_plain x && are_plain xs

-- what a plain statement does
abbrev pub shown : {V : Type 0} → Statement V → page.Statement
shown (s.inline bytes l) = page.Inline bytes
shown (s.echo xs l) = page.Echo (texts_of xs)
shown _ = page.Empty

abbrev pub shown_all : {V : Type 0} → Statements V → List page.Statement
shown_all s.no_more = []
shown_all (s.statement x xs) = shown x ∷ shown_all xs

-- ---- pages

-- the page that statements are, where each of them is plain
abbrev pub page_of : {V : Type 0} → Statements V → Option (List page.Statement)
page_of ss = if are_plain ss then Some (shown_all ss) else None

abbrev pub page_at : File → Option (List page.Statement)
page_at f = if bytes_eq f.path (codes "index.php") then option_and_then page_of f.tree else None

-- the page that files are: one file `index.php` with the statements of a plain page
abbrev pub page_of_files : List File → Option (List page.Statement)
page_of_files [] = None
page_of_files (f ∷ []) = page_at f
page_of_files (_ ∷ _ ∷ _) = None
