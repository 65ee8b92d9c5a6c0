-- The copy of a tree without its placeholders has the parts of the tree.
use Rattle.std.proofs.Common.{◌≡◌, ℕ, Bool, true, false, List, [], ◌∷◌, ◌++◌, refl, sym, ap, ◌∙◌, map, inl, inr, true≢false}
use Rattle.std.specs.Prelude.{Some, None, codes, if◌then◌else◌, ⊤}
use Rattle.std.proofs.lemmas.List.{map-append}
use Rattle.php_tree.specs.Functions.{entry_name, class_prefix}
use Rattle.php_tree.specs.Parts.{without_bodies, all_without_bodies, arms_without_bodies, cases_without_bodies, clauses_without_bodies, emptied, emptied_members, bodies, bodies_in, arms_bodies, cases_bodies, clauses_bodies, function_bodies, members_bodies}
use Rattle.php_tree.specs.Statements as s
use Rattle.php_tree.specs.Statements.{Statement, Statements, Arms, Cases, Clauses, Function, Class, Members}
use Rattle.app_load.specs.Copies.{copied, copied_arms, copied_cases, copied_clauses, copied_function, copied_members, removed_body, removed_file, tree_copy}
use Rattle.app_load.specs.Entries.{file, function}
use Rattle.app_load.specs.Files.{Tree}
use Rattle.app_load.specs.Kept.{Keeps}
use Rattle.app_load.specs.Parts.{part_of, body_entry, tree_parts}
use Rattle.app_load.proofs.Bodies.{Bodies}
use Rattle.app_load.proofs.CopiedTrees.{all_same}
use Rattle.copy_laws.specs.Exact.{IsExact, AreExact, ArmsExact, CasesExact, ClausesExact, FunctionExact, MembersExact, IsExactTree}
use Rattle.copy_laws.specs.Originals.{is_body}
use Rattle.copy_laws.specs.Restored.{restored_before, restored, restored_arms, restored_cases, restored_clauses, restored_function, restored_members}

-- ---- outside bodies no placeholder is left out

same_function : (f : Function (List ℕ)) → emptied (restored_function f) ≡ emptied f
same_function (s.with_body h ss at) = refl

same_members : (ms : Members (List ℕ)) → emptied_members (restored_members ms) ≡ emptied_members ms
same_members s.no_members = refl
same_members (s.class_constants cs l ms) = ap (s.class_constants cs l) (same_members ms)
same_members (s.properties mods ps l ms) = ap (s.properties mods ps l) (same_members ms)
same_members (s.method mods f l ms) = ap (λ g. s.method mods g l (emptied_members (restored_members ms))) (same_function f) ∙ ap (s.method mods (emptied f) l) (same_members ms)
same_members (s.bodiless mods h l ms) = ap (s.bodiless mods h l) (same_members ms)

-- a statement in front of the same rest
in_front : {x y : Statement (List ℕ)} (rest : Tree) → x ≡ y → s.statement x (all_without_bodies rest) ≡ s.statement y (all_without_bodies rest)
in_front rest e = ap (λ x. s.statement x (all_without_bodies rest)) e

module _ (p : List ℕ) where
  mutual
    bare_before : (x : Statement (List ℕ)) (rest : Tree) → IsExact p x → all_without_bodies (restored_before x rest) ≡ s.statement (without_bodies x) (all_without_bodies rest)
    bare_before (s.block ss l) rest e = in_front rest (ap (λ t. s.block t l) (bare ss e))
    bare_before (s.conditional arms ss l) rest e = in_front rest (ap (λ t. s.conditional t (all_without_bodies (restored ss)) l) (bare_arms arms e.0) ∙ ap (λ t. s.conditional (arms_without_bodies arms) t l) (bare ss e.1))
    bare_before (s.while_loop x ss l) rest e = in_front rest (ap (λ t. s.while_loop x t l) (bare ss e))
    bare_before (s.do_loop ss x l) rest e = in_front rest (ap (λ t. s.do_loop t x l) (bare ss e))
    bare_before (s.for_loop a b c ss l) rest e = in_front rest (ap (λ t. s.for_loop a b c t l) (bare ss e))
    bare_before (s.foreach x k v ss l) rest e = in_front rest (ap (λ t. s.foreach x k v t l) (bare ss e))
    bare_before (s.switch x arms l) rest e = in_front rest (ap (λ t. s.switch x t l) (bare_cases arms e))
    bare_before (s.try ss cs l) rest e = in_front rest (ap (λ t. s.try t (clauses_without_bodies (restored_clauses cs)) l) (bare ss e.0) ∙ ap (λ t. s.try (all_without_bodies ss) t l) (bare_clauses cs e.1))
    bare_before (s.function f l) rest e = in_front rest (ap (λ g. s.function g l) (same_function f))
    bare_before (s.class (s.with_members k n x is ms i) l) rest e = in_front rest (ap (λ t. s.class (s.with_members k n x is t i) l) (same_members ms))
    bare_before (s.removed what path name l) rest e = absurd e
    bare_before x rest e = refl

    pub bare : (ss : Tree) → AreExact p ss → all_without_bodies (restored ss) ≡ all_without_bodies ss
    bare s.no_more e = refl
    bare (s.statement x xs) e = bare_before x (restored xs) e.0 ∙ ap (s.statement (without_bodies x)) (bare xs e.1)

    bare_arms : (xs : Arms (List ℕ)) → ArmsExact p xs → arms_without_bodies (restored_arms xs) ≡ arms_without_bodies xs
    bare_arms s.no_arms e = refl
    bare_arms (s.arm x ss xs) e = ap (λ t. s.arm x t (arms_without_bodies (restored_arms xs))) (bare ss e.0) ∙ ap (s.arm x (all_without_bodies ss)) (bare_arms xs e.1)

    bare_cases : (xs : Cases (List ℕ)) → CasesExact p xs → cases_without_bodies (restored_cases xs) ≡ cases_without_bodies xs
    bare_cases s.no_cases e = refl
    bare_cases (s.case x ss xs) e = ap (λ t. s.case x t (cases_without_bodies (restored_cases xs))) (bare ss e.0) ∙ ap (s.case x (all_without_bodies ss)) (bare_cases xs e.1)
    bare_cases (s.default_case ss xs) e = ap (λ t. s.default_case t (cases_without_bodies (restored_cases xs))) (bare ss e.0) ∙ ap (s.default_case (all_without_bodies ss)) (bare_cases xs e.1)

    bare_clauses : (xs : Clauses (List ℕ)) → ClausesExact p xs → clauses_without_bodies (restored_clauses xs) ≡ clauses_without_bodies xs
    bare_clauses s.no_clauses e = refl
    bare_clauses (s.clause ns v ss xs) e = ap (λ t. s.clause ns v t (clauses_without_bodies (restored_clauses xs))) (bare ss e.0) ∙ ap (s.clause ns v (all_without_bodies ss)) (bare_clauses xs e.1)

-- a tree with no placeholder outside bodies is a body
begins_no_stub : (p : List ℕ) (x : Statement (List ℕ)) (xs : Tree) → IsExact p x → is_body (part_of (s.statement (without_bodies x) xs)) ≡ true
begins_no_stub p (s.removed what path name l) xs e = absurd e
begins_no_stub p (s.class (s.with_members k n x is ms i) l) xs e = refl
begins_no_stub p (s.function (s.with_body h ss at) l) xs e = refl
begins_no_stub p x xs e = refl

pub exact_is_body : (p : List ℕ) (ss : Tree) → AreExact p ss → is_body (part_of (all_without_bodies ss)) ≡ true
exact_is_body p s.no_more e = refl
exact_is_body p (s.statement x xs) e = begins_no_stub p x (all_without_bodies xs) e.0

-- ---- bodies

-- a kept set keeps what has a body, and nothing that has a placeholder
abbrev pub Fit : Keeps → List ℕ → Bodies → Type 0
Fit keeps p [] = ⊤
Fit keeps p ((n, b) ∷ bs) = (keeps (function p n) ≡ is_body (part_of b)) × Fit keeps p bs

fit_left : (keeps : Keeps) (p : List ℕ) (bs cs : Bodies) → Fit keeps p (bs ++ cs) → Fit keeps p bs
fit_left keeps p [] cs f = tt {0}
fit_left keeps p ((n, b) ∷ bs) cs f = (f.0, fit_left keeps p bs cs f.1)

fit_right : (keeps : Keeps) (p : List ℕ) (bs cs : Bodies) → Fit keeps p (bs ++ cs) → Fit keeps p cs
fit_right keeps p [] cs f = f
fit_right keeps p ((n, b) ∷ bs) cs f = fit_right keeps p bs cs f.1

module _ (keeps : Keeps) (p : List ℕ) where
  -- the same parts
  abbrev Alike : Bodies → Bodies → Type 0
  Alike bs cs = map (body_entry p) bs ≡ map (body_entry p) cs

  alike : (bs bs' cs cs' : Bodies) → Alike bs bs' → Alike cs cs' → Alike (bs ++ cs) (bs' ++ cs')
  alike bs bs' cs cs' e f =
      map-append (body_entry p) bs cs
      ∙ (ap (λ l. l ++ map (body_entry p) cs) e
      ∙ (ap (λ l. map (body_entry p) bs' ++ l) f
      ∙ sym (map-append (body_entry p) bs' cs')))

  -- a removed body and its placeholder
  gone : (name : List ℕ) (ss t : Tree) (line : ℕ) (c : Bool) → c ≡ false → t ≡ s.statement (s.removed (codes "function") p (Some name) line) s.no_more
      → Alike ((name, all_without_bodies (if c then copied keeps p ss else removed_body p name)) ∷ bodies_in (if c then copied keeps p ss else removed_body p name)) ((name, all_without_bodies t) ∷ bodies_in t)
  gone name ss t line true k e = absurd (true≢false k)
  gone name ss t line false k e = sym (ap (λ u. map (body_entry p) ((name, all_without_bodies u) ∷ bodies_in u)) e)

  -- a kept body
  there : (name : List ℕ) (ss t : Tree) (c : Bool) → c ≡ true → all_without_bodies (copied keeps p ss) ≡ all_without_bodies t → Alike (bodies_in (copied keeps p ss)) (bodies_in t)
      → Alike ((name, all_without_bodies (if c then copied keeps p ss else removed_body p name)) ∷ bodies_in (if c then copied keeps p ss else removed_body p name)) ((name, all_without_bodies t) ∷ bodies_in t)
  there name ss t true k e a = ap (λ u. body_entry p (name, u) ∷ map (body_entry p) (bodies_in (copied keeps p ss))) e ∙ ap (λ l. body_entry p (name, all_without_bodies t) ∷ l) a
  there name ss t false k e a = absurd (true≢false (sym k))

  mutual
    alike_before : (x : Statement (List ℕ)) (rest more : Tree) → IsExact p x → Fit keeps p (bodies x) → Alike (bodies_in (copied keeps p rest)) (bodies_in more)
        → Alike (bodies_in (copied keeps p (restored_before x rest))) (bodies x ++ bodies_in more)
    alike_before (s.block ss l) rest more e f a = alike (bodies_in (copied keeps p (restored ss))) (bodies_in ss) (bodies_in (copied keeps p rest)) (bodies_in more) (all_alike ss e f) a
    alike_before (s.conditional arms ss l) rest more e f a =
        alike (arms_bodies (copied_arms keeps p (restored_arms arms)) ++ bodies_in (copied keeps p (restored ss))) (arms_bodies arms ++ bodies_in ss) (bodies_in (copied keeps p rest)) (bodies_in more)
        (alike (arms_bodies (copied_arms keeps p (restored_arms arms))) (arms_bodies arms) (bodies_in (copied keeps p (restored ss))) (bodies_in ss)
        (arms_alike arms e.0 (fit_left keeps p (arms_bodies arms) (bodies_in ss) f)) (all_alike ss e.1 (fit_right keeps p (arms_bodies arms) (bodies_in ss) f))) a
    alike_before (s.while_loop x ss l) rest more e f a = alike (bodies_in (copied keeps p (restored ss))) (bodies_in ss) (bodies_in (copied keeps p rest)) (bodies_in more) (all_alike ss e f) a
    alike_before (s.do_loop ss x l) rest more e f a = alike (bodies_in (copied keeps p (restored ss))) (bodies_in ss) (bodies_in (copied keeps p rest)) (bodies_in more) (all_alike ss e f) a
    alike_before (s.for_loop x y z ss l) rest more e f a = alike (bodies_in (copied keeps p (restored ss))) (bodies_in ss) (bodies_in (copied keeps p rest)) (bodies_in more) (all_alike ss e f) a
    alike_before (s.foreach x k v ss l) rest more e f a = alike (bodies_in (copied keeps p (restored ss))) (bodies_in ss) (bodies_in (copied keeps p rest)) (bodies_in more) (all_alike ss e f) a
    alike_before (s.switch x arms l) rest more e f a = alike (cases_bodies (copied_cases keeps p (restored_cases arms))) (cases_bodies arms) (bodies_in (copied keeps p rest)) (bodies_in more) (cases_alike arms e f) a
    alike_before (s.try ss cs l) rest more e f a =
        alike (bodies_in (copied keeps p (restored ss)) ++ clauses_bodies (copied_clauses keeps p (restored_clauses cs))) (bodies_in ss ++ clauses_bodies cs) (bodies_in (copied keeps p rest)) (bodies_in more)
        (alike (bodies_in (copied keeps p (restored ss))) (bodies_in ss) (clauses_bodies (copied_clauses keeps p (restored_clauses cs))) (clauses_bodies cs)
        (all_alike ss e.0 (fit_left keeps p (bodies_in ss) (clauses_bodies cs) f)) (clauses_alike cs e.1 (fit_right keeps p (bodies_in ss) (clauses_bodies cs) f))) a
    alike_before (s.function g l) rest more e f a = alike (function_bodies [] (copied_function keeps p [] (restored_function g))) (function_bodies [] g) (bodies_in (copied keeps p rest)) (bodies_in more) (function_alike [] g e f) a
    alike_before (s.class (s.with_members k n x is ms i) l) rest more e f a =
        alike (members_bodies (class_prefix n.text) (copied_members keeps p (class_prefix n.text) (restored_members ms))) (members_bodies (class_prefix n.text) ms) (bodies_in (copied keeps p rest)) (bodies_in more)
        (members_alike (class_prefix n.text) ms e f) a
    alike_before (s.removed what path name l) rest more e f a = absurd e
    alike_before x rest more e f a = a

    pub all_alike : (ss : Tree) → AreExact p ss → Fit keeps p (bodies_in ss) → Alike (bodies_in (copied keeps p (restored ss))) (bodies_in ss)
    all_alike s.no_more e f = refl
    all_alike (s.statement x xs) e f = alike_before x (restored xs) xs e.0 (fit_left keeps p (bodies x) (bodies_in xs) f) (all_alike xs e.1 (fit_right keeps p (bodies x) (bodies_in xs) f))

    arms_alike : (xs : Arms (List ℕ)) → ArmsExact p xs → Fit keeps p (arms_bodies xs) → Alike (arms_bodies (copied_arms keeps p (restored_arms xs))) (arms_bodies xs)
    arms_alike s.no_arms e f = refl
    arms_alike (s.arm x ss xs) e f = alike (bodies_in (copied keeps p (restored ss))) (bodies_in ss) (arms_bodies (copied_arms keeps p (restored_arms xs))) (arms_bodies xs)
        (all_alike ss e.0 (fit_left keeps p (bodies_in ss) (arms_bodies xs) f)) (arms_alike xs e.1 (fit_right keeps p (bodies_in ss) (arms_bodies xs) f))

    cases_alike : (xs : Cases (List ℕ)) → CasesExact p xs → Fit keeps p (cases_bodies xs) → Alike (cases_bodies (copied_cases keeps p (restored_cases xs))) (cases_bodies xs)
    cases_alike s.no_cases e f = refl
    cases_alike (s.case x ss xs) e f = alike (bodies_in (copied keeps p (restored ss))) (bodies_in ss) (cases_bodies (copied_cases keeps p (restored_cases xs))) (cases_bodies xs)
        (all_alike ss e.0 (fit_left keeps p (bodies_in ss) (cases_bodies xs) f)) (cases_alike xs e.1 (fit_right keeps p (bodies_in ss) (cases_bodies xs) f))
    cases_alike (s.default_case ss xs) e f = alike (bodies_in (copied keeps p (restored ss))) (bodies_in ss) (cases_bodies (copied_cases keeps p (restored_cases xs))) (cases_bodies xs)
        (all_alike ss e.0 (fit_left keeps p (bodies_in ss) (cases_bodies xs) f)) (cases_alike xs e.1 (fit_right keeps p (bodies_in ss) (cases_bodies xs) f))

    clauses_alike : (xs : Clauses (List ℕ)) → ClausesExact p xs → Fit keeps p (clauses_bodies xs) → Alike (clauses_bodies (copied_clauses keeps p (restored_clauses xs))) (clauses_bodies xs)
    clauses_alike s.no_clauses e f = refl
    clauses_alike (s.clause ns v ss xs) e f = alike (bodies_in (copied keeps p (restored ss))) (bodies_in ss) (clauses_bodies (copied_clauses keeps p (restored_clauses xs))) (clauses_bodies xs)
        (all_alike ss e.0 (fit_left keeps p (bodies_in ss) (clauses_bodies xs) f)) (clauses_alike xs e.1 (fit_right keeps p (bodies_in ss) (clauses_bodies xs) f))

    function_alike : (before : List ℕ) (g : Function (List ℕ)) → FunctionExact p before g → Fit keeps p (function_bodies before g) → Alike (function_bodies before (copied_function keeps p before (restored_function g))) (function_bodies before g)
    function_alike before (s.with_body h ss at) (inl e) f =
        gone (entry_name before h) (restored ss) ss e.line (keeps (function p (entry_name before h))) (f.0 ∙ ap (λ t. is_body (part_of (all_without_bodies t))) e.alone) e.alone
    function_alike before (s.with_body h ss at) (inr e) f =
        there (entry_name before h) (restored ss) ss (keeps (function p (entry_name before h))) (f.0 ∙ exact_is_body p ss e) (all_same keeps p (restored ss) ∙ bare p ss e) (all_alike ss e f.1)

    members_alike : (before : List ℕ) (ms : Members (List ℕ)) → MembersExact p before ms → Fit keeps p (members_bodies before ms) → Alike (members_bodies before (copied_members keeps p before (restored_members ms))) (members_bodies before ms)
    members_alike before s.no_members e f = refl
    members_alike before (s.class_constants cs l ms) e f = members_alike before ms e f
    members_alike before (s.properties mods ps l ms) e f = members_alike before ms e f
    members_alike before (s.method mods g l ms) e f = alike (function_bodies before (copied_function keeps p before (restored_function g))) (function_bodies before g) (members_bodies before (copied_members keeps p before (restored_members ms))) (members_bodies before ms)
        (function_alike before g e.0 (fit_left keeps p (function_bodies before g) (members_bodies before ms) f)) (members_alike before ms e.1 (fit_right keeps p (function_bodies before g) (members_bodies before ms) f))
    members_alike before (s.bodiless mods h l ms) e f = members_alike before ms e f

  -- ---- the tree of a file

  file_gone : (ss t : Tree) (line : ℕ) (c : Bool) → c ≡ false → t ≡ s.statement (s.removed (codes "file") p None line) s.no_more → tree_parts p t ≡ tree_parts p (if c then copied keeps p ss else removed_file p)
  file_gone ss t line true k e = absurd (true≢false k)
  file_gone ss t line false k e = ap (tree_parts p) e

  file_there : (ss t : Tree) (c : Bool) → c ≡ true → all_without_bodies (copied keeps p ss) ≡ all_without_bodies t → Alike (bodies_in (copied keeps p ss)) (bodies_in t)
      → tree_parts p t ≡ tree_parts p (if c then copied keeps p ss else removed_file p)
  file_there ss t true k e a = sym (ap (λ u. (file p, part_of u) ∷ map (body_entry p) (bodies_in (copied keeps p ss))) e ∙ ap (λ l. (file p, part_of (all_without_bodies t)) ∷ l) a)
  file_there ss t false k e a = absurd (true≢false (sym k))

  pub same_parts : (ss : Tree) → IsExactTree p ss → keeps (file p) ≡ is_body (part_of (all_without_bodies ss)) → Fit keeps p (bodies_in ss) → tree_parts p ss ≡ tree_parts p (tree_copy keeps p (restored ss))
  same_parts ss (inl e) k f = file_gone (restored ss) ss e.line (keeps (file p)) (k ∙ ap (λ t. is_body (part_of (all_without_bodies t))) e.alone) e.alone
  same_parts ss (inr e) k f = file_there (restored ss) ss (keeps (file p)) (k ∙ exact_is_body p ss e) (all_same keeps p (restored ss) ∙ bare p ss e) (all_alike ss e f)
