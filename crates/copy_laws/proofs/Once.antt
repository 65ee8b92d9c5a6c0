-- In a file in which no name is declared twice no entry stands twice.
use Rattle.std.proofs.Common.{◌≡◌, ℕ, ◌+◌, Bool, true, false, ◌||◌, List, [], ◌∷◌, ◌++◌, refl, sym, ap, subst, ◌∙◌, map, true≢false}
use Rattle.std.specs.Prelude.{Option, Some, None, if◌then◌else◌, ⊤}
use Rattle.std.specs.List.{list_any}
use Rattle.std.specs.Str.{bytes_eq}
use Rattle.php_tree.specs.Functions.{entry_name, class_prefix}
use Rattle.php_tree.specs.Parts.{all_without_bodies, bodies, bodies_in, arms_bodies, cases_bodies, clauses_bodies, function_bodies, members_bodies}
use Rattle.php_tree.specs.Statements as s
use Rattle.php_tree.specs.Statements.{Head, Statement, Statements, Arms, Cases, Clauses, Function, Class, Members}
use Rattle.app_load.specs.declared.finding.Sort.TheVariants as sort
use Rattle.app_load.specs.Files.{Tree}
use Rattle.app_load.specs.Findings.{Name, Finding, declares, leaves, jump, named, parameter, head, constant, property, findings, findings_in, arms_findings, cases_findings, clauses_findings, function_findings, members_findings}
use Rattle.app_load.specs.Twice.{key, first_again, first_twice}
use Rattle.app_load.proofs.Bodies.{Bodies, look, named_alike, names_itself, AreOnce}
use Rattle.plain_names.specs.Words.{ArePlain}
use Rattle.copy_laws.proofs.Keyed.{keyed, or_true, function_keyed, method_keyed}

-- the names of bodies are among those that are declared, in their order
data Among : Bodies → List Finding → Type 0 where
  nothing : Among [] []
  skip : {bs : Bodies} {fs : List Finding} → (f : Finding) → Among bs fs → Among bs (f ∷ fs)
  take : {bs : Bodies} {fs : List Finding} → (n : List ℕ) (b : Tree) (m : Name) → keyed n ≡ key m → Among bs fs → Among ((n, b) ∷ bs) (declares m ∷ fs)

together : {bs cs : Bodies} {fs gs : List Finding} → Among bs fs → Among cs gs → Among (bs ++ cs) (fs ++ gs)
together nothing h = h
together (skip f g) h = skip f (together g h)
together (take n b m e g) h = take n b m e (together g h)

none_among : (fs : List Finding) → Among [] fs
none_among [] = nothing
none_among (f ∷ fs) = skip f (none_among fs)

-- ---- no name twice

abbrev IsNothing : Option Name → Type 0
IsNothing None = ⊤
IsNothing (Some n) = ⊥

is_new : (c : Bool) (n : Name) (x : Option Name) → (if c then Some n else x) ≡ None → (c ≡ false) × (x ≡ None)
is_new true n x e = absurd (subst IsNothing (sym e) (tt {0}))
is_new false n x e = (refl, e)

other : (n m : List ℕ) (b : Tree) (x : Option Tree) (before : List (List ℕ)) (k : Name) (c : Bool) → bytes_eq n m ≡ c → keyed n ≡ key k
    → list_any (bytes_eq (keyed m)) before ≡ true → list_any (bytes_eq (key k)) before ≡ false → x ≡ None → (if c then Some b else x) ≡ None
other n m b x before k true same e seen new none = absurd (true≢false (sym seen ∙ (ap (λ l. list_any (bytes_eq l) before) (ap keyed (sym (named_alike n m same)) ∙ e) ∙ new)))
other n m b x before k false same e seen new none = none

-- a name whose key was seen is not there
absent : (m : List ℕ) (before : List (List ℕ)) {bs : Bodies} {fs : List Finding} → list_any (bytes_eq (keyed m)) before ≡ true → first_again before fs ≡ None → Among bs fs → look m bs ≡ None
absent m before seen once nothing = refl
absent m before seen once (skip (leaves l) g) = absent m before seen once g
absent m before {fs = (_ ∷ fs)} seen once (skip (declares k) g) =
    absent m (key k ∷ before) (or_true (bytes_eq (keyed m) (key k)) (list_any (bytes_eq (keyed m)) before) seen) (is_new (list_any (bytes_eq (key k)) before) k (first_again (key k ∷ before) fs) once).1 g
absent m before {bs = (_ ∷ bs)} {fs = (_ ∷ fs)} seen once (take n b k e g) =
    let new = is_new (list_any (bytes_eq (key k)) before) k (first_again (key k ∷ before) fs) once in
    other n m b (look m bs) before k (bytes_eq n m) refl e seen new.0
    (absent m (key k ∷ before) (or_true (bytes_eq (keyed m) (key k)) (list_any (bytes_eq (keyed m)) before) seen) new.1 g)

once_among : (before : List (List ℕ)) {bs : Bodies} {fs : List Finding} → first_again before fs ≡ None → Among bs fs → AreOnce bs
once_among before once nothing = tt {0}
once_among before once (skip (leaves l) g) = once_among before once g
once_among before {fs = (_ ∷ fs)} once (skip (declares k) g) = once_among (key k ∷ before) (is_new (list_any (bytes_eq (key k)) before) k (first_again (key k ∷ before) fs) once).1 g
once_among before {fs = (_ ∷ fs)} once (take n b k e g) =
    let new = is_new (list_any (bytes_eq (key k)) before) k (first_again (key k ∷ before) fs) once in
    (absent n (key k ∷ before) (ap (λ c. c || list_any (bytes_eq (keyed n)) before) (ap (λ l. bytes_eq l (key k)) e ∙ names_itself (key k))) new.1 g, once_among (key k ∷ before) new.1 g)

-- ---- the bodies of a tree are declared

plain_left : (fs gs : List Finding) → ArePlain (fs ++ gs) → ArePlain fs
plain_left [] gs w = tt {0}
plain_left (leaves l ∷ fs) gs w = plain_left fs gs w
plain_left (declares n ∷ fs) gs w = (w.0, plain_left fs gs w.1)

plain_right : (fs gs : List Finding) → ArePlain (fs ++ gs) → ArePlain gs
plain_right [] gs w = w
plain_right (leaves l ∷ fs) gs w = plain_right fs gs w
plain_right (declares n ∷ fs) gs w = plain_right fs gs w.1

module _ (t : List ℕ → List ℕ) where
  mutual
    among : (n : ℕ) (x : Statement (List ℕ)) → ArePlain (findings t n x) → Among (bodies x) (findings t n x)
    among n (s.block ss l) w = all_among n ss w
    among n (s.conditional arms ss l) w = together (arms_among n arms (plain_left (arms_findings t n arms) (findings_in t n ss) w)) (all_among n ss (plain_right (arms_findings t n arms) (findings_in t n ss) w))
    among n (s.while_loop e ss l) w = all_among (n + 1) ss w
    among n (s.do_loop ss e l) w = all_among (n + 1) ss w
    among n (s.for_loop a b c ss l) w = all_among (n + 1) ss w
    among n (s.foreach e k v ss l) w = all_among (n + 1) ss w
    among n (s.switch e arms l) w = cases_among (n + 1) arms w
    among n (s.break z l) w = none_among (jump n z l)
    among n (s.continue z l) w = none_among (jump n z l)
    among n (s.try ss cs l) w = together (all_among n ss (plain_left (findings_in t n ss) (clauses_findings t n cs) w)) (clauses_among n cs (plain_right (findings_in t n ss) (clauses_findings t n cs) w))
    among n (s.function (s.with_body h ss at) l) w =
        take (entry_name [] h) (all_without_bodies ss) (record { sort = sort.Function; class = []; function = []; word = h.name.text; line = h.name.line }) (function_keyed h.name.text h.name.line w.0)
        (together (none_among (map (parameter t [] h.name.text) h.parameters)) (all_among 0 ss (plain_right (map (parameter t [] h.name.text) h.parameters) (findings_in t 0 ss) w.1)))
    among n (s.class (s.with_members k c e is ms i) l) w = skip (named sort.Class [] [] c.text c.line) (members_among c.text ms w.1)
    among n x w = nothing

    all_among : (n : ℕ) (ss : Tree) → ArePlain (findings_in t n ss) → Among (bodies_in ss) (findings_in t n ss)
    all_among n s.no_more w = nothing
    all_among n (s.statement x xs) w = together (among n x (plain_left (findings t n x) (findings_in t n xs) w)) (all_among n xs (plain_right (findings t n x) (findings_in t n xs) w))

    arms_among : (n : ℕ) (xs : Arms (List ℕ)) → ArePlain (arms_findings t n xs) → Among (arms_bodies xs) (arms_findings t n xs)
    arms_among n s.no_arms w = nothing
    arms_among n (s.arm e ss xs) w = together (all_among n ss (plain_left (findings_in t n ss) (arms_findings t n xs) w)) (arms_among n xs (plain_right (findings_in t n ss) (arms_findings t n xs) w))

    cases_among : (n : ℕ) (xs : Cases (List ℕ)) → ArePlain (cases_findings t n xs) → Among (cases_bodies xs) (cases_findings t n xs)
    cases_among n s.no_cases w = nothing
    cases_among n (s.case e ss xs) w = together (all_among n ss (plain_left (findings_in t n ss) (cases_findings t n xs) w)) (cases_among n xs (plain_right (findings_in t n ss) (cases_findings t n xs) w))
    cases_among n (s.default_case ss xs) w = together (all_among n ss (plain_left (findings_in t n ss) (cases_findings t n xs) w)) (cases_among n xs (plain_right (findings_in t n ss) (cases_findings t n xs) w))

    clauses_among : (n : ℕ) (xs : Clauses (List ℕ)) → ArePlain (clauses_findings t n xs) → Among (clauses_bodies xs) (clauses_findings t n xs)
    clauses_among n s.no_clauses w = nothing
    clauses_among n (s.clause ns v ss xs) w = together (all_among n ss (plain_left (findings_in t n ss) (clauses_findings t n xs) w)) (clauses_among n xs (plain_right (findings_in t n ss) (clauses_findings t n xs) w))

    method_among : (class : List ℕ) (g : Function (List ℕ)) → ArePlain (function_findings t sort.Method class g) → Among (function_bodies (class_prefix class) g) (function_findings t sort.Method class g)
    method_among class (s.with_body h ss at) w =
        take (entry_name (class_prefix class) h) (all_without_bodies ss) (record { sort = sort.Method; class = class; function = []; word = h.name.text; line = h.name.line }) (method_keyed class h.name.text h.name.line w.0)
        (together (none_among (map (parameter t class h.name.text) h.parameters)) (all_among 0 ss (plain_right (map (parameter t class h.name.text) h.parameters) (findings_in t 0 ss) w.1)))

    members_among : (class : List ℕ) (ms : Members (List ℕ)) → ArePlain (members_findings t class ms) → Among (members_bodies (class_prefix class) ms) (members_findings t class ms)
    members_among class s.no_members w = nothing
    members_among class (s.class_constants cs l ms) w = together (none_among (map (constant class) cs)) (members_among class ms (plain_right (map (constant class) cs) (members_findings t class ms) w))
    members_among class (s.properties mods ps l ms) w = together (none_among (map (property class) ps)) (members_among class ms (plain_right (map (property class) ps) (members_findings t class ms) w))
    members_among class (s.method mods g l ms) w = together (method_among class g (plain_left (function_findings t sort.Method class g) (members_findings t class ms) w)) (members_among class ms (plain_right (function_findings t sort.Method class g) (members_findings t class ms) w))
    members_among class (s.bodiless mods h l ms) w = together (none_among (head t sort.Method class h)) (members_among class ms (plain_right (head t sort.Method class h) (members_findings t class ms) w))

-- no body of a tree has the name of another
pub bodies_once : (t : List ℕ → List ℕ) (ss : Tree) → first_twice (findings_in t 0 ss) ≡ None → ArePlain (findings_in t 0 ss) → AreOnce (bodies_in ss)
bodies_once t ss once plain = once_among [] once (all_among t 0 ss plain)
