-- The functions beside a tree are as many as those of the tree in which variables stand by their names.
use Rattle.std.proofs.Common.{◌≡◌, ℕ, suc, ◌+◌, List, [], ◌∷◌, ◌++◌, length, Option, Some, None, refl, sym, ap, ◌∙◌}
use Rattle.php_tree.specs.declared.file.Span.{Span}
use Rattle.php_tree.specs.declared.file.FileTree.{FileTree}
use Rattle.php_tree.specs.StatementOf.{statements_of}
use Rattle.php_tree.specs.Statements as s
use Rattle.php_tree.specs.Statements.{Head, Statement, Statements, Arms, Cases, Clauses, Function, Class, Members}
use Rattle.php_tree.specs.Functions.{spans, spans_in, arms_spans, cases_spans, clauses_spans, function_spans, class_spans, members_spans, numbered, functions_of, entry_name, class_prefix}
use Rattle.php_tree.specs.Renamed.{renamed_statement, renamed_statements, renamed_arms, renamed_cases, renamed_clauses, renamed_function, renamed_class, renamed_members, name_at}
use Rattle.app_load.specs.Files.{tree_or_none, tree_of}
use Rattle.app_load.specs.Applications.{function_count}
use Rattle.app_files.specs.FileSets.{HasFunctions}

both : {X : Type 0} {a b c d : List X} → a ≡ b → c ≡ d → a ++ c ≡ b ++ d
both {a = a} {d = d} e f = ap (λ x. a ++ x) f ∙ ap (λ x. x ++ d) e

module _ {V W : Type 0} (f : V → W) where
  mutual
    same : (x : Statement V) → spans (renamed_statement f x) ≡ spans x
    same (s.inline t l) = refl
    same (s.echo es l) = refl
    same (s.evaluate e l) = refl
    same (s.nothing l) = refl
    same (s.block ss l) = all_same ss
    same (s.conditional arms ss l) = both (arms_same arms) (all_same ss)
    same (s.while_loop e ss l) = all_same ss
    same (s.do_loop ss e l) = all_same ss
    same (s.for_loop a b c ss l) = all_same ss
    same (s.foreach e k v ss l) = all_same ss
    same (s.switch e arms l) = cases_same arms
    same (s.break n l) = refl
    same (s.continue n l) = refl
    same (s.return e l) = refl
    same (s.global vs l) = refl
    same (s.static_vars vs l) = refl
    same (s.unset es l) = refl
    same (s.throw e l) = refl
    same (s.try ss cs l) = both (all_same ss) (clauses_same cs)
    same (s.function (s.with_body h ss at) l) = ap (λ r. (entry_name [] h, at) ∷ r) (all_same ss)
    same (s.class (s.with_members k n p is ms i) l) = members_same (class_prefix n.text) ms
    same (s.constants cs l) = refl
    same (s.removed k p n l) = refl

    all_same : (ss : Statements V) → spans_in (renamed_statements f ss) ≡ spans_in ss
    all_same s.no_more = refl
    all_same (s.statement x xs) = both (same x) (all_same xs)

    arms_same : (xs : Arms V) → arms_spans (renamed_arms f xs) ≡ arms_spans xs
    arms_same s.no_arms = refl
    arms_same (s.arm e ss arms) = both (all_same ss) (arms_same arms)

    cases_same : (xs : Cases V) → cases_spans (renamed_cases f xs) ≡ cases_spans xs
    cases_same s.no_cases = refl
    cases_same (s.case e ss arms) = both (all_same ss) (cases_same arms)
    cases_same (s.default_case ss arms) = both (all_same ss) (cases_same arms)

    clauses_same : (xs : Clauses V) → clauses_spans (renamed_clauses f xs) ≡ clauses_spans xs
    clauses_same s.no_clauses = refl
    clauses_same (s.clause ns v ss cs) = both (all_same ss) (clauses_same cs)

    members_same : (before : List ℕ) (ms : Members V) → members_spans before (renamed_members f ms) ≡ members_spans before ms
    members_same before s.no_members = refl
    members_same before (s.class_constants cs l ms) = members_same before ms
    members_same before (s.properties mods ps l ms) = members_same before ms
    members_same before (s.method mods (s.with_body h ss at) l ms) = both (ap (λ r. (entry_name before h, at) ∷ r) (all_same ss)) (members_same before ms)
    members_same before (s.bodiless mods h l ms) = members_same before ms

as_many : (n : ℕ) (xs : List (List ℕ × Span)) → length (numbered n xs) ≡ length xs
as_many n [] = refl
as_many n ((name, at) ∷ xs) = ap (λ m. suc m) (as_many (n + 1) xs)

pub counted : (t : Option FileTree) (tree : FileTree) → t ≡ Some tree → HasFunctions t → length tree.functions ≡ function_count (tree_or_none t)
counted None tree is has = cc
counted (Some u) tree is has =
    let here : length u.functions ≡ length (spans_in (tree_of u)) = ap length has ∙ (as_many 1 (spans_in (statements_of u.stmts)) ∙ sym (ap length (all_same (name_at u.variables) (statements_of u.stmts)))) in
    let same_tree : tree ≡ u = cc in
    ap (λ v. length v.functions) same_tree ∙ here

pub none_counted : (t : Option FileTree) → t ≡ None → 0 ≡ function_count (tree_or_none t)
none_counted t is = sym (ap (λ u. function_count (tree_or_none u)) is)
