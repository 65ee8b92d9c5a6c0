-- The bodies of a tree with variables by name are those of the tree, with variables by name.
use Rattle.std.proofs.Common.{◌≡◌, ℕ, List, [], ◌∷◌, ◌++◌, map, refl, sym, ap, ◌∙◌}
use Rattle.std.proofs.lemmas.List.{map-append}
use Rattle.php_tree.specs.Functions.{entry_name, class_prefix}
use Rattle.php_tree.specs.Parts.{no_span, without_bodies, all_without_bodies, arms_without_bodies, cases_without_bodies, clauses_without_bodies, emptied_members, bodies, bodies_in, arms_bodies, cases_bodies, clauses_bodies, function_bodies, members_bodies}
use Rattle.php_tree.specs.Renamed.{renamed, renamed_all, renamed_var, renamed_constants, renamed_defaults, renamed_head, renamed_statement, renamed_statements, renamed_arms, renamed_cases, renamed_clauses, renamed_function, renamed_members}
use Rattle.php_tree.specs.Statements as s
use Rattle.php_tree.specs.Statements.{Statement, Statements, Arms, Cases, Clauses, Function, Members}

module _ {V W : Type 0} (f : V → W) where
  -- ---- bodies taken out

  members_emptied : (ms : Members V) → emptied_members (renamed_members f ms) ≡ renamed_members f (emptied_members ms)
  members_emptied s.no_members = refl
  members_emptied (s.class_constants cs l ms) = ap (λ z. s.class_constants (renamed_constants f cs) l z) (members_emptied ms)
  members_emptied (s.properties mods ps l ms) = ap (λ z. s.properties mods (renamed_defaults f ps) l z) (members_emptied ms)
  members_emptied (s.method mods (s.with_body h ss at) l ms) = ap (λ z. s.method mods (s.with_body (renamed_head f h) s.no_more no_span) l z) (members_emptied ms)
  members_emptied (s.bodiless mods h l ms) = ap (λ z. s.bodiless mods (renamed_head f h) l z) (members_emptied ms)

  mutual
    without : (x : Statement V) → without_bodies (renamed_statement f x) ≡ renamed_statement f (without_bodies x)
    without (s.block ss l) = λ i. s.block (all_without ss i) l
    without (s.conditional arms ss l) = λ i. s.conditional (arms_without arms i) (all_without ss i) l
    without (s.while_loop e ss l) = λ i. s.while_loop (renamed f e) (all_without ss i) l
    without (s.do_loop ss e l) = λ i. s.do_loop (all_without ss i) (renamed f e) l
    without (s.for_loop a b c ss l) = λ i. s.for_loop (renamed_all f a) (renamed_all f b) (renamed_all f c) (all_without ss i) l
    without (s.foreach e k v ss l) = λ i. s.foreach (renamed f e) (renamed_var f k) (f v) (all_without ss i) l
    without (s.switch e arms l) = λ i. s.switch (renamed f e) (cases_without arms i) l
    without (s.try ss cs l) = λ i. s.try (all_without ss i) (clauses_without cs i) l
    without (s.function (s.with_body h ss at) l) = refl
    without (s.class (s.with_members k n p is ms l) j) = λ i. s.class (s.with_members k n p is (members_emptied ms i) l) j
    without x = refl

    pub all_without : (ss : Statements V) → all_without_bodies (renamed_statements f ss) ≡ renamed_statements f (all_without_bodies ss)
    all_without s.no_more = refl
    all_without (s.statement x xs) = λ i. s.statement (without x i) (all_without xs i)

    arms_without : (xs : Arms V) → arms_without_bodies (renamed_arms f xs) ≡ renamed_arms f (arms_without_bodies xs)
    arms_without s.no_arms = refl
    arms_without (s.arm e ss xs) = λ i. s.arm (renamed f e) (all_without ss i) (arms_without xs i)

    cases_without : (xs : Cases V) → cases_without_bodies (renamed_cases f xs) ≡ renamed_cases f (cases_without_bodies xs)
    cases_without s.no_cases = refl
    cases_without (s.case e ss xs) = λ i. s.case (renamed f e) (all_without ss i) (cases_without xs i)
    cases_without (s.default_case ss xs) = λ i. s.default_case (all_without ss i) (cases_without xs i)

    clauses_without : (xs : Clauses V) → clauses_without_bodies (renamed_clauses f xs) ≡ renamed_clauses f (clauses_without_bodies xs)
    clauses_without s.no_clauses = refl
    clauses_without (s.clause ns v ss xs) = λ i. s.clause ns (f v) (all_without ss i) (clauses_without xs i)

  -- ---- the bodies

  abbrev pub body_renamed : List ℕ × Statements V → List ℕ × Statements W
  body_renamed p = (p.0, renamed_statements f p.1)

  both : (a b : List (List ℕ × Statements W)) (x y : List (List ℕ × Statements V)) → a ≡ map body_renamed x → b ≡ map body_renamed y → a ++ b ≡ map body_renamed (x ++ y)
  both a b x y e g = ap (λ l. l ++ b) e ∙ ap (λ l. map body_renamed x ++ l) g ∙ sym (map-append body_renamed x y)

  mutual
    listed : (x : Statement V) → bodies (renamed_statement f x) ≡ map body_renamed (bodies x)
    listed (s.block ss l) = all_listed ss
    listed (s.conditional arms ss l) = both (arms_bodies (renamed_arms f arms)) (bodies_in (renamed_statements f ss)) (arms_bodies arms) (bodies_in ss) (arms_listed arms) (all_listed ss)
    listed (s.while_loop e ss l) = all_listed ss
    listed (s.do_loop ss e l) = all_listed ss
    listed (s.for_loop a b c ss l) = all_listed ss
    listed (s.foreach e k v ss l) = all_listed ss
    listed (s.switch e arms l) = cases_listed arms
    listed (s.try ss cs l) = both (bodies_in (renamed_statements f ss)) (clauses_bodies (renamed_clauses f cs)) (bodies_in ss) (clauses_bodies cs) (all_listed ss) (clauses_listed cs)
    listed (s.function g l) = function_listed [] g
    listed (s.class (s.with_members k n p is ms l) j) = members_listed (class_prefix n.text) ms
    listed x = refl

    pub all_listed : (ss : Statements V) → bodies_in (renamed_statements f ss) ≡ map body_renamed (bodies_in ss)
    all_listed s.no_more = refl
    all_listed (s.statement x xs) = both (bodies (renamed_statement f x)) (bodies_in (renamed_statements f xs)) (bodies x) (bodies_in xs) (listed x) (all_listed xs)

    arms_listed : (xs : Arms V) → arms_bodies (renamed_arms f xs) ≡ map body_renamed (arms_bodies xs)
    arms_listed s.no_arms = refl
    arms_listed (s.arm e ss xs) = both (bodies_in (renamed_statements f ss)) (arms_bodies (renamed_arms f xs)) (bodies_in ss) (arms_bodies xs) (all_listed ss) (arms_listed xs)

    cases_listed : (xs : Cases V) → cases_bodies (renamed_cases f xs) ≡ map body_renamed (cases_bodies xs)
    cases_listed s.no_cases = refl
    cases_listed (s.case e ss xs) = both (bodies_in (renamed_statements f ss)) (cases_bodies (renamed_cases f xs)) (bodies_in ss) (cases_bodies xs) (all_listed ss) (cases_listed xs)
    cases_listed (s.default_case ss xs) = both (bodies_in (renamed_statements f ss)) (cases_bodies (renamed_cases f xs)) (bodies_in ss) (cases_bodies xs) (all_listed ss) (cases_listed xs)

    clauses_listed : (xs : Clauses V) → clauses_bodies (renamed_clauses f xs) ≡ map body_renamed (clauses_bodies xs)
    clauses_listed s.no_clauses = refl
    clauses_listed (s.clause ns v ss xs) = both (bodies_in (renamed_statements f ss)) (clauses_bodies (renamed_clauses f xs)) (bodies_in ss) (clauses_bodies xs) (all_listed ss) (clauses_listed xs)

    function_listed : (before : List ℕ) (g : Function V) → function_bodies before (renamed_function f g) ≡ map body_renamed (function_bodies before g)
    function_listed before (s.with_body h ss at) = λ i. (entry_name before h, all_without ss i) ∷ all_listed ss i

    members_listed : (before : List ℕ) (ms : Members V) → members_bodies before (renamed_members f ms) ≡ map body_renamed (members_bodies before ms)
    members_listed before s.no_members = refl
    members_listed before (s.class_constants cs l ms) = members_listed before ms
    members_listed before (s.properties mods ps l ms) = members_listed before ms
    members_listed before (s.method mods g l ms) = both (function_bodies before (renamed_function f g)) (members_bodies before (renamed_members f ms)) (function_bodies before g) (members_bodies before ms) (function_listed before g) (members_listed before ms)
    members_listed before (s.bodiless mods h l ms) = members_listed before ms
