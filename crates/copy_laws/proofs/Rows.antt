-- Three small copies, computed: a placeholder in a function inside a function, one in a method, and one of a whole file; and a copy in
-- which a name stands twice, once with a body and once with a placeholder, which is the copy of nothing for what was kept in it.
use Rattle.std.proofs.Common.{◌≡◌, ℕ, Bool, true, false, List, [], ◌∷◌, refl, subst}
use Rattle.std.specs.Prelude.{codes, Some, None, ⊤}
use Rattle.php_tree.specs.declared.decl.ClassKind.TheVariants.{Plain}
use Rattle.php_tree.specs.declared.decl.Modifiers.{Modifiers}
use Rattle.php_tree.specs.Parts.{no_span}
use Rattle.php_tree.specs.Statements as s
use Rattle.php_tree.specs.Statements.{Head, Statement, Function}
use Rattle.app_load.specs.Copies.{removed_body, removed_file, tree_copy}
use Rattle.app_load.specs.Entries.{Entry, function}
use Rattle.app_load.specs.Files.{Tree, File}
use Rattle.app_load.specs.Parts.{Part, stub, tree_parts}
use Rattle.copy_laws.specs.Originals.{is_body, kept_in}
use Rattle.copy_laws.specs.Restored.{restored}

abbrev path : List ℕ
path = codes "a.php"

abbrev head : List ℕ → Head (List ℕ)
head word = record { name = record { text = word; line = 1 }; parameters = []; gives = None; line = 1 }

abbrev one : Statement (List ℕ) → Tree
one x = s.statement x s.no_more

abbrev declared : List ℕ → Tree → Statement (List ℕ)
declared word ss = s.function (s.with_body (head word) ss no_span) 1

abbrev only : Tree → List File
only ss = (record { path = path; text = []; tree = Some ss }) ∷ []

-- function f() { function g() {less_removed('function','a.php','g');} }
abbrev nested : Tree
nested = one (declared (codes "F") (one (declared (codes "G") (removed_body path (codes "g")))))

nested_original : restored nested ≡ one (declared (codes "F") (one (declared (codes "G") s.no_more)))
nested_original = refl

nested_kept : kept_in (only nested) (function path (codes "f")) ≡ true
nested_kept = refl

nested_gone : kept_in (only nested) (function path (codes "g")) ≡ false
nested_gone = refl

nested_copied : tree_parts path (tree_copy (kept_in (only nested)) path (restored nested)) ≡ tree_parts path nested
nested_copied = refl

-- class C { function m() {less_removed('function','a.php','c::m');} }
abbrev no_modifiers : Modifiers
no_modifiers = record { visibility = None; is_static = false; is_abstract = false; is_final = false; is_var = false }

abbrev in_class : Tree
in_class = one (s.class (s.with_members Plain (record { text = codes "C"; line = 1 }) None [] (s.method no_modifiers (s.with_body (head (codes "M")) (removed_body path (codes "c::m")) no_span) 1 s.no_members) 1) 1)

method_gone : kept_in (only in_class) (function path (codes "c::m")) ≡ false
method_gone = refl

method_copied : tree_parts path (tree_copy (kept_in (only in_class)) path (restored in_class)) ≡ tree_parts path in_class
method_copied = refl

-- <?php less_removed('file','a.php');
file_original : restored (removed_file path) ≡ s.no_more
file_original = refl

file_copied : tree_parts path (tree_copy (kept_in (only (removed_file path))) path (restored (removed_file path))) ≡ tree_parts path (removed_file path)
file_copied = refl

-- function f() {;} function f() {less_removed('function','a.php','f');}
abbrev twice : Tree
twice = s.statement (declared (codes "f") (one (s.nothing 1))) (one (declared (codes "f") (removed_body path (codes "f"))))

abbrev second : List (Entry × Part) → Part
second (a ∷ b ∷ (e, p) ∷ ps) = p
second ps = stub

abbrev IsTrue : Bool → Type 0
IsTrue true = ⊤
IsTrue false = ⊥

-- where a name stands twice, what is kept by name is not enough
twice_is_no_copy : tree_parts path (tree_copy (kept_in (only twice)) path (restored twice)) ≡ tree_parts path twice → ⊥
twice_is_no_copy e = subst (λ ps. IsTrue (is_body (second ps))) e (tt {0})
