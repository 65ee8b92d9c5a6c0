-- The functions that stand directly in a tree are among all its functions, and so are those in each of its bodies.
use Rattle.std.proofs.Common.{◌≡◌, ℕ, Bool, true, false, List, [], ◌∷◌, ◌++◌, refl, sym, ap, subst, ◌∙◌}
use Rattle.std.specs.Prelude.{Option, Some, None, if◌then◌else◌}
use Rattle.std.specs.Str.{bytes_eq}
use Rattle.php_tree.specs.Statements as s
use Rattle.php_tree.specs.Statements.{Head, Statement, Statements, Arms, Cases, Clauses, Function, Class, Members}
use Rattle.php_tree.specs.Functions.{entry_name, class_prefix}
use Rattle.php_tree.specs.Parts.{without_bodies, all_without_bodies, arms_without_bodies, cases_without_bodies, clauses_without_bodies, emptied, emptied_members, emptied_class, bodies, bodies_in, arms_bodies, cases_bodies, clauses_bodies, function_bodies, class_bodies, members_bodies}
use Rattle.app_load.specs.Files.{Tree}
use Rattle.app_load.proofs.Bodies.{Bodies, look, or_else, look_append, IsFound, IsWithin, within_left, within_right, within_behind, first_within, AreFound, found_append}

module _ (all : Bodies) where
  function_direct : (before : List ℕ) (f : Function (List ℕ)) → IsWithin (function_bodies before f) all → AreFound all (function_bodies before (emptied f))
  function_direct before (s.with_body h ss at) w = (first_within (entry_name before h) (all_without_bodies ss) (bodies_in ss) all w, tt {0})

  members_direct : (before : List ℕ) (ms : Members (List ℕ)) → IsWithin (members_bodies before ms) all → AreFound all (members_bodies before (emptied_members ms))
  members_direct before s.no_members w = tt {0}
  members_direct before (s.class_constants cs l ms) w = members_direct before ms w
  members_direct before (s.properties mods ps l ms) w = members_direct before ms w
  members_direct before (s.method mods f l ms) w = found_append all (function_bodies before (emptied f)) (members_bodies before (emptied_members ms))
      (function_direct before f (within_left (function_bodies before f) (members_bodies before ms) all w)) (members_direct before ms (within_right (function_bodies before f) (members_bodies before ms) all w))
  members_direct before (s.bodiless mods h l ms) w = members_direct before ms w

  mutual
    direct : (x : Statement (List ℕ)) → IsWithin (bodies x) all → AreFound all (bodies (without_bodies x))
    direct (s.inline t l) w = tt {0}
    direct (s.echo xs l) w = tt {0}
    direct (s.evaluate x l) w = tt {0}
    direct (s.nothing l) w = tt {0}
    direct (s.block ss l) w = all_direct ss w
    direct (s.conditional xs ss l) w = found_append all (arms_bodies (arms_without_bodies xs)) (bodies_in (all_without_bodies ss))
        (arms_direct xs (within_left (arms_bodies xs) (bodies_in ss) all w)) (all_direct ss (within_right (arms_bodies xs) (bodies_in ss) all w))
    direct (s.while_loop x ss l) w = all_direct ss w
    direct (s.do_loop ss x l) w = all_direct ss w
    direct (s.for_loop xs ys zs ss l) w = all_direct ss w
    direct (s.foreach x key y ss l) w = all_direct ss w
    direct (s.switch x cs l) w = cases_direct cs w
    direct (s.break i l) w = tt {0}
    direct (s.continue i l) w = tt {0}
    direct (s.return x l) w = tt {0}
    direct (s.global xs l) w = tt {0}
    direct (s.static_vars xs l) w = tt {0}
    direct (s.unset xs l) w = tt {0}
    direct (s.throw x l) w = tt {0}
    direct (s.try ss cs l) w = found_append all (bodies_in (all_without_bodies ss)) (clauses_bodies (clauses_without_bodies cs))
        (all_direct ss (within_left (bodies_in ss) (clauses_bodies cs) all w)) (clauses_direct cs (within_right (bodies_in ss) (clauses_bodies cs) all w))
    direct (s.function f l) w = function_direct [] f w
    direct (s.class (s.with_members k c e is ms i) l) w = members_direct (class_prefix c.text) ms w
    direct (s.constants cs l) w = tt {0}
    direct (s.removed what path name l) w = tt {0}

    pub all_direct : (ss : Tree) → IsWithin (bodies_in ss) all → AreFound all (bodies_in (all_without_bodies ss))
    all_direct s.no_more w = tt {0}
    all_direct (s.statement x xs) w = found_append all (bodies (without_bodies x)) (bodies_in (all_without_bodies xs))
        (direct x (within_left (bodies x) (bodies_in xs) all w)) (all_direct xs (within_right (bodies x) (bodies_in xs) all w))

    arms_direct : (xs : Arms (List ℕ)) → IsWithin (arms_bodies xs) all → AreFound all (arms_bodies (arms_without_bodies xs))
    arms_direct s.no_arms w = tt {0}
    arms_direct (s.arm x ss xs) w = found_append all (bodies_in (all_without_bodies ss)) (arms_bodies (arms_without_bodies xs))
        (all_direct ss (within_left (bodies_in ss) (arms_bodies xs) all w)) (arms_direct xs (within_right (bodies_in ss) (arms_bodies xs) all w))

    cases_direct : (cs : Cases (List ℕ)) → IsWithin (cases_bodies cs) all → AreFound all (cases_bodies (cases_without_bodies cs))
    cases_direct s.no_cases w = tt {0}
    cases_direct (s.case x ss cs) w = found_append all (bodies_in (all_without_bodies ss)) (cases_bodies (cases_without_bodies cs))
        (all_direct ss (within_left (bodies_in ss) (cases_bodies cs) all w)) (cases_direct cs (within_right (bodies_in ss) (cases_bodies cs) all w))
    cases_direct (s.default_case ss cs) w = found_append all (bodies_in (all_without_bodies ss)) (cases_bodies (cases_without_bodies cs))
        (all_direct ss (within_left (bodies_in ss) (cases_bodies cs) all w)) (cases_direct cs (within_right (bodies_in ss) (cases_bodies cs) all w))

    clauses_direct : (cs : Clauses (List ℕ)) → IsWithin (clauses_bodies cs) all → AreFound all (clauses_bodies (clauses_without_bodies cs))
    clauses_direct s.no_clauses w = tt {0}
    clauses_direct (s.clause ns v ss cs) w = found_append all (bodies_in (all_without_bodies ss)) (clauses_bodies (clauses_without_bodies cs))
        (all_direct ss (within_left (bodies_in ss) (clauses_bodies cs) all w)) (clauses_direct cs (within_right (bodies_in ss) (clauses_bodies cs) all w))

-- ---- a body that is found

some_same : {b c : Tree} → Some b ≡ Some c → b ≡ c
some_same {b} e = ap (value_or b) e
  where
    value_or : Tree → Option Tree → Tree
    value_or d None = d
    value_or d (Some x) = x

found_in : {R : Type 0} (x y : Option Tree) (b : Tree) → or_else x y ≡ Some b → (x ≡ Some b → R) → (y ≡ Some b → R) → R
found_in (Some c) y b e left right = left e
found_in None y b e left right = right e

found_first : {R : Type 0} (c : Bool) (x : Tree) (y : Option Tree) (b : Tree) → (if c then Some x else y) ≡ Some b → (x ≡ b → R) → (y ≡ Some b → R) → R
found_first true x y b e first behind = first (some_same e)
found_first false x y b e first behind = behind e

module _ (all : Bodies) (n : List ℕ) (b : Tree) where
  inner_append : (xs ys : Bodies) → IsWithin (xs ++ ys) all → look n (xs ++ ys) ≡ Some b → (IsWithin xs all → look n xs ≡ Some b → AreFound all (bodies_in b)) → (IsWithin ys all → look n ys ≡ Some b → AreFound all (bodies_in b)) → AreFound all (bodies_in b)
  inner_append xs ys w e f g = found_in (look n xs) (look n ys) b (sym (look_append n xs ys) ∙ e) (f (within_left xs ys all w)) (g (within_right xs ys all w))

  nothing : None ≡ Some b → AreFound all (bodies_in b)
  nothing e = absurd (subst IsFound (sym e) (tt {0}))

  mutual
    inner : (x : Statement (List ℕ)) → IsWithin (bodies x) all → look n (bodies x) ≡ Some b → AreFound all (bodies_in b)
    inner (s.inline t l) w e = nothing e
    inner (s.echo xs l) w e = nothing e
    inner (s.evaluate x l) w e = nothing e
    inner (s.nothing l) w e = nothing e
    inner (s.block ss l) w e = all_inner ss w e
    inner (s.conditional xs ss l) w e = inner_append (arms_bodies xs) (bodies_in ss) w e (arms_inner xs) (all_inner ss)
    inner (s.while_loop x ss l) w e = all_inner ss w e
    inner (s.do_loop ss x l) w e = all_inner ss w e
    inner (s.for_loop xs ys zs ss l) w e = all_inner ss w e
    inner (s.foreach x key y ss l) w e = all_inner ss w e
    inner (s.switch x cs l) w e = cases_inner cs w e
    inner (s.break i l) w e = nothing e
    inner (s.continue i l) w e = nothing e
    inner (s.return x l) w e = nothing e
    inner (s.global xs l) w e = nothing e
    inner (s.static_vars xs l) w e = nothing e
    inner (s.unset xs l) w e = nothing e
    inner (s.throw x l) w e = nothing e
    inner (s.try ss cs l) w e = inner_append (bodies_in ss) (clauses_bodies cs) w e (all_inner ss) (clauses_inner cs)
    inner (s.function f l) w e = function_inner [] f w e
    inner (s.class (s.with_members k c x is ms i) l) w e = members_inner (class_prefix c.text) ms w e
    inner (s.constants cs l) w e = nothing e
    inner (s.removed what path name l) w e = nothing e

    pub all_inner : (ss : Tree) → IsWithin (bodies_in ss) all → look n (bodies_in ss) ≡ Some b → AreFound all (bodies_in b)
    all_inner s.no_more w e = nothing e
    all_inner (s.statement x xs) w e = inner_append (bodies x) (bodies_in xs) w e (inner x) (all_inner xs)

    arms_inner : (xs : Arms (List ℕ)) → IsWithin (arms_bodies xs) all → look n (arms_bodies xs) ≡ Some b → AreFound all (bodies_in b)
    arms_inner s.no_arms w e = nothing e
    arms_inner (s.arm x ss xs) w e = inner_append (bodies_in ss) (arms_bodies xs) w e (all_inner ss) (arms_inner xs)

    cases_inner : (cs : Cases (List ℕ)) → IsWithin (cases_bodies cs) all → look n (cases_bodies cs) ≡ Some b → AreFound all (bodies_in b)
    cases_inner s.no_cases w e = nothing e
    cases_inner (s.case x ss cs) w e = inner_append (bodies_in ss) (cases_bodies cs) w e (all_inner ss) (cases_inner cs)
    cases_inner (s.default_case ss cs) w e = inner_append (bodies_in ss) (cases_bodies cs) w e (all_inner ss) (cases_inner cs)

    clauses_inner : (cs : Clauses (List ℕ)) → IsWithin (clauses_bodies cs) all → look n (clauses_bodies cs) ≡ Some b → AreFound all (bodies_in b)
    clauses_inner s.no_clauses w e = nothing e
    clauses_inner (s.clause ns v ss cs) w e = inner_append (bodies_in ss) (clauses_bodies cs) w e (all_inner ss) (clauses_inner cs)

    function_inner : (before : List ℕ) (f : Function (List ℕ)) → IsWithin (function_bodies before f) all → look n (function_bodies before f) ≡ Some b → AreFound all (bodies_in b)
    function_inner before (s.with_body h ss at) w e =
        let behind = within_behind (entry_name before h) (all_without_bodies ss) (bodies_in ss) all w in
        found_first (bytes_eq (entry_name before h) n) (all_without_bodies ss) (look n (bodies_in ss)) b e
        (λ is. subst (λ t. AreFound all (bodies_in t)) is (all_direct all ss behind)) (all_inner ss behind)

    members_inner : (before : List ℕ) (ms : Members (List ℕ)) → IsWithin (members_bodies before ms) all → look n (members_bodies before ms) ≡ Some b → AreFound all (bodies_in b)
    members_inner before s.no_members w e = nothing e
    members_inner before (s.class_constants cs l ms) w e = members_inner before ms w e
    members_inner before (s.properties mods ps l ms) w e = members_inner before ms w e
    members_inner before (s.method mods f l ms) w e = inner_append (function_bodies before f) (members_bodies before ms) w e (function_inner before f) (members_inner before ms)
    members_inner before (s.bodiless mods h l ms) w e = members_inner before ms w e
