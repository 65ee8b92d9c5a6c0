-- Declarations of functions, at a file's entry and where their statements run, over plain values.
use Rattle.std.proofs.Common.{◌≡◌, ℕ, List, drop, get_or, length, ◌<◌, ◌≤◌, ◌+◌, Bool, false, true, Option, Some, None, sym, ap, subst, ◌∙◌}
use Rattle.std.proofs.lemmas.List.{drop_all, drop_more}
use Rattle.php_tree.specs.declared.stmt.Stmt.{Stmt}
use Rattle.php_tree.specs.Parts.{emptied, no_span}
use Rattle.php_tree.specs.Renamed.{renamed_function}
use Rattle.php_tree.specs.StatementOf.{function_of}
use Rattle.php_tree.specs.Statements as s
use Rattle.php_tree.specs.Statements.{Statement, Statements}
use Rattle.php_world.specs.Naming.{Naming}
use Rattle.php_tables.specs.declared.function.Function.{Function}
use Rattle.php_tables.specs.declared.functions.Functions.{Functions}
use Rattle.php_callees.specs.Names.{Declares, declared_in}
use Rattle.php_meaning.specs.Statements.{hoist, hoist_if, hoisted, refused}
use Rattle.php_meaning.specs.World.{World, Name, with_function}
use Rattle.php_rest.specs.Named.{block_named, head_named, stmt_named}
use Rattle.php_rest.specs.Views.{function_named}
use Rattle.php_declarations.specs.Ends.{unless_refused, with_functions}
use Rattle.php_declarations.proofs.Files.{emptied_node}

-- a statement that declares a function
abbrev pub IsNode : Stmt → Function → ℕ → Type 0
IsNode x f line = (t : Naming) → stmt_named t x ≡ s.function (emptied (renamed_function t.name (function_of f.declaration.now))) line

seen : (x : Stmt) (f : Function) (line : ℕ) → IsNode x f line → (t : Naming) (more : Statements Name) (w : World)
    → hoist f.path.now (s.statement (stmt_named t x) more) w ≡ hoist f.path.now (s.statement (s.function (s.with_body (head_named t f.declaration.now) s.no_more no_span) line) more) w
seen x f line node t more w = ap (λ y. hoist f.path.now (s.statement y more) w) (node t ∙ ap (λ g. s.function g line) (emptied_node t f.declaration.now))

pub hoist_taken : (x : Stmt) (f : Function) (line : ℕ) (old new : Functions) (b : Bool) → IsNode x f line → ((t : Naming) → Declares t old new f b) → b ≡ false → (t : Naming) (more : Statements Name) (w : World)
    → refused line ≡ hoist f.path.now (s.statement (stmt_named t x) more) (with_functions (declared_in t old) w)
hoist_taken x f line old new b node told is t more w =
    let law : Declares t old new f false = subst (λ z. Declares t old new f z) is (told t) in
    let v = with_functions (declared_in t old) w in
    sym (seen x f line node t more v ∙ ap (λ b. hoist_if b line (hoist f.path.now more (with_function (function_named t f) v))) law.0)

pub hoist_new : (x : Stmt) (f : Function) (line : ℕ) (old new : Functions) (b : Bool) → IsNode x f line → ((t : Naming) → Declares t old new f b) → b ≡ true → (t : Naming) (more : Statements Name) (w : World)
    → hoist f.path.now more (with_functions (declared_in t new) w) ≡ hoist f.path.now (s.statement (stmt_named t x) more) (with_functions (declared_in t old) w)
hoist_new x f line old new b node told is t more w =
    let law : Declares t old new f true = subst (λ z. Declares t old new f z) is (told t) in
    let v = with_functions (declared_in t old) w in
    ap (λ fs. hoist f.path.now more (with_functions fs w)) law.1
    ∙ sym (seen x f line node t more v ∙ ap (λ b. hoist_if b line (hoist f.path.now more (with_function (function_named t f) v))) law.0)

-- the statements from a number on are the next one and those behind it
pub next_in : (t : Naming) (file : List Stmt) (i : ℕ) (d : Stmt) → i < length file → block_named t (drop i file) ≡ s.statement (stmt_named t (get_or file i d)) (block_named t (drop (i + 1) file))
next_in t file i d within = ap (block_named t) (drop_more file i d within)

-- the function of one statement was declared, or its line is refused
abbrev pub Hoists : Name → Functions → Functions → Stmt → Option ℕ → Type 0
Hoists path old new x o =
    (t : Naming) (more : Statements Name) (w : World) →
    unless_refused o (hoist path more (with_functions (declared_in t new) w)) ≡ hoist path (s.statement (stmt_named t x) more) (with_functions (declared_in t old) w)

-- what is left to be declared
abbrev pub Left : Name → Functions → Functions → List Stmt → ℕ → Type 0
Left path old now file i =
    (t : Naming) (w : World) → hoist path (block_named t (drop i file)) (with_functions (declared_in t now) w) ≡ hoist path (block_named t file) (with_functions (declared_in t old) w)

one_more : (path : Name) (old now new : Functions) (file : List Stmt) (i : ℕ) (x : Stmt) (o : Option ℕ) → i < length file → x ≡ get_or file i x → Hoists path now new x o → Left path old now file i
    → (t : Naming) (w : World) → unless_refused o (hoist path (block_named t (drop (i + 1) file)) (with_functions (declared_in t new) w)) ≡ hoist path (block_named t file) (with_functions (declared_in t old) w)
one_more path old now new file i x o within is hoists left t w =
    hoists t (block_named t (drop (i + 1) file)) w
    ∙ ap (λ z. hoist path (s.statement (stmt_named t z) (block_named t (drop (i + 1) file))) (with_functions (declared_in t now) w)) is
    ∙ ap (λ l. hoist path l (with_functions (declared_in t now) w)) (sym (next_in t file i x within))
    ∙ left t w

pub goes_on : (path : Name) (old now new : Functions) (file : List Stmt) (i : ℕ) (x : Stmt) (o : Option ℕ) → i < length file → x ≡ get_or file i x → Hoists path now new x o → Left path old now file i → o ≡ None → Left path old new file (i + 1)
goes_on path old now new file i x o within is hoists left none t w =
    ap (λ z. unless_refused z (hoist path (block_named t (drop (i + 1) file)) (with_functions (declared_in t new) w))) (sym none)
    ∙ one_more path old now new file i x o within is hoists left t w

pub ends : (path : Name) (old now new : Functions) (file : List Stmt) (i : ℕ) (x : Stmt) (o : Option ℕ) (line : ℕ) → i < length file → x ≡ get_or file i x → Hoists path now new x o → Left path old now file i → o ≡ Some line
    → (t : Naming) (w : World) → refused line ≡ hoist path (block_named t file) (with_functions (declared_in t old) w)
ends path old now new file i x o line within is hoists left some t w =
    ap (λ z. unless_refused z (hoist path (block_named t (drop (i + 1) file)) (with_functions (declared_in t new) w))) (sym some)
    ∙ one_more path old now new file i x o within is hoists left t w

-- nothing is left to be declared
pub finished : (path : Name) (old now : Functions) (file : List Stmt) (i : ℕ) → length file ≤ i → Left path old now file i
    → (t : Naming) (w : World) → hoisted (with_functions (declared_in t now) w) ≡ hoist path (block_named t file) (with_functions (declared_in t old) w)
finished path old now file i past left t w =
    ap (λ l. hoist path (block_named t l) (with_functions (declared_in t now) w)) (sym (drop_all i file past)) ∙ left t w
