-- The trees of a copy beside those of its original.
use Rattle.std.proofs.Common.{◌≡◌, ℕ, Bool, true, false, List, [], ◌∷◌, ◌++◌, refl, sym, ap, subst, ◌∙◌, true≢false}
use Rattle.std.specs.Prelude.{Option, Some, None, if◌then◌else◌}
use Rattle.std.specs.Str.{bytes_eq}
use Rattle.php_tree.specs.Statements as s
use Rattle.php_tree.specs.Statements.{Head, Statement, Statements, Arms, Cases, Clauses, Function, Class, Members}
use Rattle.php_tree.specs.Functions.{entry_name, class_prefix}
use Rattle.php_tree.specs.Parts.{without_bodies, all_without_bodies, arms_without_bodies, cases_without_bodies, clauses_without_bodies, emptied, emptied_members, emptied_class, bodies, bodies_in, arms_bodies, cases_bodies, clauses_bodies, function_bodies, class_bodies, members_bodies}
use Rattle.app_load.specs.Entries.{Entry, file, function}
use Rattle.app_load.specs.Files.{Tree}
use Rattle.app_load.specs.Kept.{Keeps}
use Rattle.app_load.specs.Parts.{part_of, stub}
use Rattle.app_load.specs.Copies.{copied_statement, copied, copied_arms, copied_cases, copied_clauses, copied_function, copied_class, copied_members, removed_body}
use Rattle.app_load.proofs.Bodies.{Bodies, look, or_else, named_alike, names_itself, look_append, IsFound, IsGoneBody, gone_append, IsWithin, within_left, within_right, within_behind, first_within, AreFound, found_append, AreOnce, once_left, once_right}

-- ---- what stands outside bodies stays

module _ (keeps : Keeps) (p : List ℕ) where
  same_function : (before : List ℕ) (f : Function (List ℕ)) → emptied (copied_function keeps p before f) ≡ emptied f
  same_function before (s.with_body h ss at) = refl

  same_members : (before : List ℕ) (ms : Members (List ℕ)) → emptied_members (copied_members keeps p before ms) ≡ emptied_members ms
  same_members before s.no_members = refl
  same_members before (s.class_constants cs l ms) = ap (s.class_constants cs l) (same_members before ms)
  same_members before (s.properties mods ps l ms) = ap (s.properties mods ps l) (same_members before ms)
  same_members before (s.method mods f l ms) = ap (λ g. s.method mods g l (emptied_members (copied_members keeps p before ms))) (same_function before f) ∙ ap (s.method mods (emptied f) l) (same_members before ms)
  same_members before (s.bodiless mods h l ms) = ap (s.bodiless mods h l) (same_members before ms)

  mutual
    same : (x : Statement (List ℕ)) → without_bodies (copied_statement keeps p x) ≡ without_bodies x
    same (s.inline t l) = refl
    same (s.echo xs l) = refl
    same (s.evaluate x l) = refl
    same (s.nothing l) = refl
    same (s.block ss l) = ap (λ t. s.block t l) (all_same ss)
    same (s.conditional xs ss l) = ap (λ t. s.conditional t (all_without_bodies (copied keeps p ss)) l) (arms_same xs) ∙ ap (λ t. s.conditional (arms_without_bodies xs) t l) (all_same ss)
    same (s.while_loop x ss l) = ap (λ t. s.while_loop x t l) (all_same ss)
    same (s.do_loop ss x l) = ap (λ t. s.do_loop t x l) (all_same ss)
    same (s.for_loop xs ys zs ss l) = ap (λ t. s.for_loop xs ys zs t l) (all_same ss)
    same (s.foreach x key y ss l) = ap (λ t. s.foreach x key y t l) (all_same ss)
    same (s.switch x cs l) = ap (λ t. s.switch x t l) (cases_same cs)
    same (s.break n l) = refl
    same (s.continue n l) = refl
    same (s.return x l) = refl
    same (s.global xs l) = refl
    same (s.static_vars xs l) = refl
    same (s.unset xs l) = refl
    same (s.throw x l) = refl
    same (s.try ss cs l) = ap (λ t. s.try t (clauses_without_bodies (copied_clauses keeps p cs)) l) (all_same ss) ∙ ap (λ t. s.try (all_without_bodies ss) t l) (clauses_same cs)
    same (s.function f l) = ap (λ g. s.function g l) (same_function [] f)
    same (s.class (s.with_members k n e is ms i) l) = ap (λ t. s.class (s.with_members k n e is t i) l) (same_members (class_prefix n.text) ms)
    same (s.constants cs l) = refl
    same (s.removed what path name l) = refl

    pub all_same : (ss : Tree) → all_without_bodies (copied keeps p ss) ≡ all_without_bodies ss
    all_same s.no_more = refl
    all_same (s.statement x xs) = ap (λ y. s.statement y (all_without_bodies (copied keeps p xs))) (same x) ∙ ap (s.statement (without_bodies x)) (all_same xs)

    arms_same : (xs : Arms (List ℕ)) → arms_without_bodies (copied_arms keeps p xs) ≡ arms_without_bodies xs
    arms_same s.no_arms = refl
    arms_same (s.arm x ss xs) = ap (λ t. s.arm x t (arms_without_bodies (copied_arms keeps p xs))) (all_same ss) ∙ ap (s.arm x (all_without_bodies ss)) (arms_same xs)

    cases_same : (cs : Cases (List ℕ)) → cases_without_bodies (copied_cases keeps p cs) ≡ cases_without_bodies cs
    cases_same s.no_cases = refl
    cases_same (s.case x ss cs) = ap (λ t. s.case x t (cases_without_bodies (copied_cases keeps p cs))) (all_same ss) ∙ ap (s.case x (all_without_bodies ss)) (cases_same cs)
    cases_same (s.default_case ss cs) = ap (λ t. s.default_case t (cases_without_bodies (copied_cases keeps p cs))) (all_same ss) ∙ ap (s.default_case (all_without_bodies ss)) (cases_same cs)

    clauses_same : (cs : Clauses (List ℕ)) → clauses_without_bodies (copied_clauses keeps p cs) ≡ clauses_without_bodies cs
    clauses_same s.no_clauses = refl
    clauses_same (s.clause ns v ss cs) = ap (λ t. s.clause ns v t (clauses_without_bodies (copied_clauses keeps p cs))) (all_same ss) ∙ ap (s.clause ns v (all_without_bodies ss)) (clauses_same cs)

-- ---- a function that is not kept is gone

module _ (keeps : Keeps) (p n : List ℕ) (out : keeps (function p n) ≡ false) where
  -- the name of a function that is kept is another one
  other_name : (m : List ℕ) (b : Tree) (x : Option Tree) (c : Bool) → bytes_eq m n ≡ c → keeps (function p m) ≡ true → IsGoneBody x → IsGoneBody (if c then Some b else x)
  other_name m b x true e k g = absurd (true≢false (sym k ∙ (ap (λ l. keeps (function p l)) (named_alike m n e) ∙ out)))
  other_name m b x false e k g = g

  a_stub : (path name : List ℕ) (c : Bool) → IsGoneBody (if c then Some (all_without_bodies (removed_body path name)) else None)
  a_stub path name true = refl
  a_stub path name false = tt {0}

  body_gone : (m : List ℕ) (ss : Tree) (c : Bool) → keeps (function p m) ≡ c → IsGoneBody (look n (bodies_in (copied keeps p ss)))
      → IsGoneBody (look n ((m, all_without_bodies (if c then copied keeps p ss else removed_body p m)) ∷ bodies_in (if c then copied keeps p ss else removed_body p m)))
  body_gone m ss true k g = other_name m (all_without_bodies (copied keeps p ss)) (look n (bodies_in (copied keeps p ss))) (bytes_eq m n) refl k g
  body_gone m ss false k g = a_stub p m (bytes_eq m n)

  mutual
    gone : (x : Statement (List ℕ)) → IsGoneBody (look n (bodies (copied_statement keeps p x)))
    gone (s.inline t l) = tt {0}
    gone (s.echo xs l) = tt {0}
    gone (s.evaluate x l) = tt {0}
    gone (s.nothing l) = tt {0}
    gone (s.block ss l) = all_gone ss
    gone (s.conditional xs ss l) = gone_append n (arms_bodies (copied_arms keeps p xs)) (bodies_in (copied keeps p ss)) (arms_gone xs) (all_gone ss)
    gone (s.while_loop x ss l) = all_gone ss
    gone (s.do_loop ss x l) = all_gone ss
    gone (s.for_loop xs ys zs ss l) = all_gone ss
    gone (s.foreach x key y ss l) = all_gone ss
    gone (s.switch x cs l) = cases_gone cs
    gone (s.break i l) = tt {0}
    gone (s.continue i l) = tt {0}
    gone (s.return x l) = tt {0}
    gone (s.global xs l) = tt {0}
    gone (s.static_vars xs l) = tt {0}
    gone (s.unset xs l) = tt {0}
    gone (s.throw x l) = tt {0}
    gone (s.try ss cs l) = gone_append n (bodies_in (copied keeps p ss)) (clauses_bodies (copied_clauses keeps p cs)) (all_gone ss) (clauses_gone cs)
    gone (s.function f l) = function_gone [] f
    gone (s.class (s.with_members k c e is ms i) l) = members_gone (class_prefix c.text) ms
    gone (s.constants cs l) = tt {0}
    gone (s.removed what path name l) = tt {0}

    pub all_gone : (ss : Tree) → IsGoneBody (look n (bodies_in (copied keeps p ss)))
    all_gone s.no_more = tt {0}
    all_gone (s.statement x xs) = gone_append n (bodies (copied_statement keeps p x)) (bodies_in (copied keeps p xs)) (gone x) (all_gone xs)

    arms_gone : (xs : Arms (List ℕ)) → IsGoneBody (look n (arms_bodies (copied_arms keeps p xs)))
    arms_gone s.no_arms = tt {0}
    arms_gone (s.arm x ss xs) = gone_append n (bodies_in (copied keeps p ss)) (arms_bodies (copied_arms keeps p xs)) (all_gone ss) (arms_gone xs)

    cases_gone : (cs : Cases (List ℕ)) → IsGoneBody (look n (cases_bodies (copied_cases keeps p cs)))
    cases_gone s.no_cases = tt {0}
    cases_gone (s.case x ss cs) = gone_append n (bodies_in (copied keeps p ss)) (cases_bodies (copied_cases keeps p cs)) (all_gone ss) (cases_gone cs)
    cases_gone (s.default_case ss cs) = gone_append n (bodies_in (copied keeps p ss)) (cases_bodies (copied_cases keeps p cs)) (all_gone ss) (cases_gone cs)

    clauses_gone : (cs : Clauses (List ℕ)) → IsGoneBody (look n (clauses_bodies (copied_clauses keeps p cs)))
    clauses_gone s.no_clauses = tt {0}
    clauses_gone (s.clause ns v ss cs) = gone_append n (bodies_in (copied keeps p ss)) (clauses_bodies (copied_clauses keeps p cs)) (all_gone ss) (clauses_gone cs)

    function_gone : (before : List ℕ) (f : Function (List ℕ)) → IsGoneBody (look n (function_bodies before (copied_function keeps p before f)))
    function_gone before (s.with_body h ss at) = body_gone (entry_name before h) ss (keeps (function p (entry_name before h))) refl (all_gone ss)

    members_gone : (before : List ℕ) (ms : Members (List ℕ)) → IsGoneBody (look n (members_bodies before (copied_members keeps p before ms)))
    members_gone before s.no_members = tt {0}
    members_gone before (s.class_constants cs l ms) = members_gone before ms
    members_gone before (s.properties mods ps l ms) = members_gone before ms
    members_gone before (s.method mods f l ms) = gone_append n (function_bodies before (copied_function keeps p before f)) (members_bodies before (copied_members keeps p before ms)) (function_gone before f) (members_gone before ms)
    members_gone before (s.bodiless mods h l ms) = members_gone before ms

-- ---- a kept function that is there is as it was

-- what is found in a copy of bodies is found alike in them
abbrev pub IsKept : Option Tree → Option Tree → Type 0
IsKept None original = Unit {0}
IsKept (Some b) original = original ≡ Some b

-- nothing is found behind where it was found before
abbrev AreApart : Option Tree → Option Tree → Type 0
AreApart None y = Unit {0}
AreApart (Some b) y = y ≡ None

none_right : (x y : Option Tree) → or_else x y ≡ None → y ≡ None
none_right (Some c) y e = absurd (subst IsFound e (tt {0}))
none_right None y e = e

apart_at : (n m : List ℕ) (b : Tree) (x y : Option Tree) (ys : Bodies) (c : Bool) → bytes_eq m n ≡ c → look m ys ≡ None → y ≡ look n ys → AreApart x y → AreApart (if c then Some b else x) y
apart_at n m b x y ys true e none is a = is ∙ subst (λ l. look l ys ≡ None) (named_alike m n e) none
apart_at n m b x y ys false e none is a = a

apart : (n : List ℕ) (xs ys : Bodies) → AreOnce (xs ++ ys) → AreApart (look n xs) (look n ys)
apart n [] ys once = tt {0}
apart n ((m, b) ∷ xs) ys once =
    apart_at n m b (look n xs) (look n ys) ys (bytes_eq m n) refl (none_right (look m xs) (look m ys) (sym (look_append m xs ys) ∙ once.0)) refl (apart n xs ys once.1)

kept_or : (x y v w : Option Tree) → AreApart x y → IsKept v x → IsKept w y → IsKept (or_else v w) (or_else x y)
kept_or x y (Some b) w a k l = ap (λ o. or_else o y) k
kept_or x y None None a k l = tt {0}
kept_or (Some c) y None (Some b) a k l = absurd (subst IsFound (sym l ∙ a) (tt {0}))
kept_or None y None (Some b) a k l = l

kept_append : (n : List ℕ) (xs ys vs ws : Bodies) → AreOnce (xs ++ ys) → IsKept (look n vs) (look n xs) → IsKept (look n ws) (look n ys) → IsKept (look n (vs ++ ws)) (look n (xs ++ ys))
kept_append n xs ys vs ws once k l =
    subst (λ o. IsKept o (look n (xs ++ ys))) (sym (look_append n vs ws))
    (subst (IsKept (or_else (look n vs) (look n ws))) (sym (look_append n xs ys)) (kept_or (look n xs) (look n ys) (look n vs) (look n ws) (apart n xs ys once) k l))

module _ (keeps : Keeps) (p n : List ℕ) (stays : keeps (function p n) ≡ true) where
  at_name : (ss : Tree) (x y : Option Tree) (c : Bool) → IsKept x y → IsKept (if c then Some (all_without_bodies (copied keeps p ss)) else x) (if c then Some (all_without_bodies ss) else y)
  at_name ss x y true k = ap Some (sym (all_same keeps p ss))
  at_name ss x y false k = k

  not_at_name : (m : List ℕ) (b : Tree) (y : Option Tree) (c : Bool) → bytes_eq m n ≡ c → keeps (function p m) ≡ false → IsKept (if c then Some b else None) y
  not_at_name m b y true e out = absurd (true≢false (sym stays ∙ (sym (ap (λ l. keeps (function p l)) (named_alike m n e)) ∙ out)))
  not_at_name m b y false e out = tt {0}

  body_kept : (m : List ℕ) (ss : Tree) (c : Bool) → keeps (function p m) ≡ c → IsKept (look n (bodies_in (copied keeps p ss))) (look n (bodies_in ss))
      → IsKept (look n ((m, all_without_bodies (if c then copied keeps p ss else removed_body p m)) ∷ bodies_in (if c then copied keeps p ss else removed_body p m)))
      (look n ((m, all_without_bodies ss) ∷ bodies_in ss))
  body_kept m ss true k g = at_name ss (look n (bodies_in (copied keeps p ss))) (look n (bodies_in ss)) (bytes_eq m n) g
  body_kept m ss false k g = not_at_name m (removed_body p m) (look n ((m, all_without_bodies ss) ∷ bodies_in ss)) (bytes_eq m n) refl k

  mutual
    kept : (x : Statement (List ℕ)) → AreOnce (bodies x) → IsKept (look n (bodies (copied_statement keeps p x))) (look n (bodies x))
    kept (s.inline t l) o = tt {0}
    kept (s.echo xs l) o = tt {0}
    kept (s.evaluate x l) o = tt {0}
    kept (s.nothing l) o = tt {0}
    kept (s.block ss l) o = all_kept ss o
    kept (s.conditional xs ss l) o = kept_append n (arms_bodies xs) (bodies_in ss) (arms_bodies (copied_arms keeps p xs)) (bodies_in (copied keeps p ss)) o
        (arms_kept xs (once_left (arms_bodies xs) (bodies_in ss) o)) (all_kept ss (once_right (arms_bodies xs) (bodies_in ss) o))
    kept (s.while_loop x ss l) o = all_kept ss o
    kept (s.do_loop ss x l) o = all_kept ss o
    kept (s.for_loop xs ys zs ss l) o = all_kept ss o
    kept (s.foreach x key y ss l) o = all_kept ss o
    kept (s.switch x cs l) o = cases_kept cs o
    kept (s.break i l) o = tt {0}
    kept (s.continue i l) o = tt {0}
    kept (s.return x l) o = tt {0}
    kept (s.global xs l) o = tt {0}
    kept (s.static_vars xs l) o = tt {0}
    kept (s.unset xs l) o = tt {0}
    kept (s.throw x l) o = tt {0}
    kept (s.try ss cs l) o = kept_append n (bodies_in ss) (clauses_bodies cs) (bodies_in (copied keeps p ss)) (clauses_bodies (copied_clauses keeps p cs)) o
        (all_kept ss (once_left (bodies_in ss) (clauses_bodies cs) o)) (clauses_kept cs (once_right (bodies_in ss) (clauses_bodies cs) o))
    kept (s.function f l) o = function_kept [] f o
    kept (s.class (s.with_members k c e is ms i) l) o = members_kept (class_prefix c.text) ms o
    kept (s.constants cs l) o = tt {0}
    kept (s.removed what path name l) o = tt {0}

    pub all_kept : (ss : Tree) → AreOnce (bodies_in ss) → IsKept (look n (bodies_in (copied keeps p ss))) (look n (bodies_in ss))
    all_kept s.no_more o = tt {0}
    all_kept (s.statement x xs) o = kept_append n (bodies x) (bodies_in xs) (bodies (copied_statement keeps p x)) (bodies_in (copied keeps p xs)) o
        (kept x (once_left (bodies x) (bodies_in xs) o)) (all_kept xs (once_right (bodies x) (bodies_in xs) o))

    arms_kept : (xs : Arms (List ℕ)) → AreOnce (arms_bodies xs) → IsKept (look n (arms_bodies (copied_arms keeps p xs))) (look n (arms_bodies xs))
    arms_kept s.no_arms o = tt {0}
    arms_kept (s.arm x ss xs) o = kept_append n (bodies_in ss) (arms_bodies xs) (bodies_in (copied keeps p ss)) (arms_bodies (copied_arms keeps p xs)) o
        (all_kept ss (once_left (bodies_in ss) (arms_bodies xs) o)) (arms_kept xs (once_right (bodies_in ss) (arms_bodies xs) o))

    cases_kept : (cs : Cases (List ℕ)) → AreOnce (cases_bodies cs) → IsKept (look n (cases_bodies (copied_cases keeps p cs))) (look n (cases_bodies cs))
    cases_kept s.no_cases o = tt {0}
    cases_kept (s.case x ss cs) o = kept_append n (bodies_in ss) (cases_bodies cs) (bodies_in (copied keeps p ss)) (cases_bodies (copied_cases keeps p cs)) o
        (all_kept ss (once_left (bodies_in ss) (cases_bodies cs) o)) (cases_kept cs (once_right (bodies_in ss) (cases_bodies cs) o))
    cases_kept (s.default_case ss cs) o = kept_append n (bodies_in ss) (cases_bodies cs) (bodies_in (copied keeps p ss)) (cases_bodies (copied_cases keeps p cs)) o
        (all_kept ss (once_left (bodies_in ss) (cases_bodies cs) o)) (cases_kept cs (once_right (bodies_in ss) (cases_bodies cs) o))

    clauses_kept : (cs : Clauses (List ℕ)) → AreOnce (clauses_bodies cs) → IsKept (look n (clauses_bodies (copied_clauses keeps p cs))) (look n (clauses_bodies cs))
    clauses_kept s.no_clauses o = tt {0}
    clauses_kept (s.clause ns v ss cs) o = kept_append n (bodies_in ss) (clauses_bodies cs) (bodies_in (copied keeps p ss)) (clauses_bodies (copied_clauses keeps p cs)) o
        (all_kept ss (once_left (bodies_in ss) (clauses_bodies cs) o)) (clauses_kept cs (once_right (bodies_in ss) (clauses_bodies cs) o))

    function_kept : (before : List ℕ) (f : Function (List ℕ)) → AreOnce (function_bodies before f) → IsKept (look n (function_bodies before (copied_function keeps p before f))) (look n (function_bodies before f))
    function_kept before (s.with_body h ss at) o = body_kept (entry_name before h) ss (keeps (function p (entry_name before h))) refl (all_kept ss o.1)

    members_kept : (before : List ℕ) (ms : Members (List ℕ)) → AreOnce (members_bodies before ms) → IsKept (look n (members_bodies before (copied_members keeps p before ms))) (look n (members_bodies before ms))
    members_kept before s.no_members o = tt {0}
    members_kept before (s.class_constants cs l ms) o = members_kept before ms o
    members_kept before (s.properties mods ps l ms) o = members_kept before ms o
    members_kept before (s.method mods f l ms) o = kept_append n (function_bodies before f) (members_bodies before ms) (function_bodies before (copied_function keeps p before f)) (members_bodies before (copied_members keeps p before ms)) o
        (function_kept before f (once_left (function_bodies before f) (members_bodies before ms) o)) (members_kept before ms (once_right (function_bodies before f) (members_bodies before ms) o))
    members_kept before (s.bodiless mods h l ms) o = members_kept before ms o
