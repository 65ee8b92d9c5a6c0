-- A copy's trace is the cut of its original's.
use Rattle.std.proofs.Common.{◌≡◌, ℕ, Bool, true, false, List, [], ◌∷◌, ◌++◌, refl, sym, ap, subst, ◌∙◌}
use Rattle.std.specs.Prelude.{if◌then◌else◌}
use Rattle.std.specs.declared.option.Option.{Option}
use Rattle.std.specs.declared.option.Option.TheVariants.{Some, None}
use Rattle.app_load.specs.Entries.{Entry, file, function}
use Rattle.app_load.specs.Files.{Tree}
use Rattle.app_load.specs.Parts.{Part, body, stub}
use Rattle.php_tree.specs.Statements as s
use Rattle.php_tree.specs.Statements.{Statement, Statements, Arms, Cases}
use Rattle.php_tree.specs.Parts.{bodies, bodies_in, arms_bodies, cases_bodies, clauses_bodies, function_bodies}
use Rattle.php_meaning.specs.Events.{Event, Tick, Enter, Out, Stop, Removed, Done}
use Rattle.php_meaning.specs.World.{World, Name, path_of}
use Rattle.php_meaning.specs.Course.{Signal, Gives, Normal, Returned, Thrown, Breaks, Continues}
use Rattle.php_meaning.specs.Run.{Look}
use Rattle.php_meaning.specs.Cut.{cut}
use Rattle.php_meaning.specs.Trace.{Input, opening_world, finish, trace_by}
use Rattle.php_meaning.specs.Copies.{IsGone, IsThere, AreThere, AreCopyParts, IsWithin}
use Rattle.php_meaning.proofs.Good.{FineStatement, FineStatements, FineArms, FineCases, GoodThen}
use Rattle.php_meaning.proofs.Cutting.{Copied, runs_alike}
use Rattle.php_meaning.proofs.Nodes.{equations, hoists}

module _ (copy : Look) where
  -- a file can always be entered; a function where it is there
  abbrev pub Enterable : Entry → Type 0
  Enterable (file path) = Unit {0}
  Enterable (function path name) = IsThere (copy (function path name))

  module _ (p : List ℕ) where
    -- the bodies of two lists, of the first and of the second
    left-there : (xs ys : List (List ℕ × Tree)) → AreThere copy p (xs ++ ys) → AreThere copy p xs
    left-there [] ys h = tt {0}
    left-there ((n, b) ∷ xs) ys h = (h.0, left-there xs ys h.1)

    right-there : (xs ys : List (List ℕ × Tree)) → AreThere copy p (xs ++ ys) → AreThere copy p ys
    right-there [] ys h = h
    right-there ((n, b) ∷ xs) ys h = right-there xs ys h.1

    mutual
      fine : (x : Statement Name) → AreThere copy p (bodies x) → FineStatement Enterable p x
      fine (s.block ss l) h = all_fine ss h
      fine (s.conditional xs ss l) h = (arms_fine xs (left-there (arms_bodies xs) (bodies_in ss) h), all_fine ss (right-there (arms_bodies xs) (bodies_in ss) h))
      fine (s.while_loop x ss l) h = all_fine ss h
      fine (s.do_loop ss x l) h = all_fine ss h
      fine (s.for_loop xs ys zs ss l) h = all_fine ss h
      fine (s.foreach x key y ss l) h = all_fine ss h
      fine (s.switch x cs l) h = cases_fine cs h
      fine (s.try ss cs l) h = all_fine ss (left-there (bodies_in ss) (clauses_bodies cs) h)
      fine (s.function (s.with_body n ss span) l) h = h.0
      fine x h = tt {0}

      all_fine : (ss : Statements Name) → AreThere copy p (bodies_in ss) → FineStatements Enterable p ss
      all_fine s.no_more h = tt {0}
      all_fine (s.statement x xs) h = (fine x (left-there (bodies x) (bodies_in xs) h), all_fine xs (right-there (bodies x) (bodies_in xs) h))

      arms_fine : (xs : Arms Name) → AreThere copy p (arms_bodies xs) → FineArms Enterable p xs
      arms_fine s.no_arms h = tt {0}
      arms_fine (s.arm x ss xs) h = (all_fine ss (left-there (bodies_in ss) (arms_bodies xs) h), arms_fine xs (right-there (bodies_in ss) (arms_bodies xs) h))

      cases_fine : (cs : Cases Name) → AreThere copy p (cases_bodies cs) → FineCases Enterable p cs
      cases_fine s.no_cases h = tt {0}
      cases_fine (s.case x ss cs) h = (all_fine ss (left-there (bodies_in ss) (cases_bodies cs) h), cases_fine cs (right-there (bodies_in ss) (cases_bodies cs) h))
      cases_fine (s.default_case ss cs) h = (all_fine ss (left-there (bodies_in ss) (cases_bodies cs) h), cases_fine cs (right-there (bodies_in ss) (cases_bodies cs) h))

module _ (keeps : Entry → Bool) (original copy : Look) (parts : AreCopyParts keeps original copy) where
  same : (e : Entry) → Enterable copy e → keeps e ≡ true → copy e ≡ original e
  same (file path) h k = parts.files path k
  same (function path name) h k = parts.functions path name k h

  copied : Copied keeps (Enterable copy) original copy
  copied = record {
    same = same;
    gone = parts.gone;
    declares = λ e ss h k at. all_fine copy (path_of e) ss (parts.declared e ss (same e h k ∙ at));
    equations = equations (Enterable copy) (λ path. tt {0});
    hoists = λ p ss w h f. hoists (Enterable copy) (λ path. tt {0}) p ss w h f;
  }

  ends : (p : List ℕ) → GoodThen (Enterable copy) p finish
  ends p (Gives d) w f = tt {0}
  ends p Normal w f = tt {0}
  ends p (Returned d) w f = tt {0}
  ends p (Thrown n) w f = tt {0}
  ends p (Breaks n) w f = tt {0}
  ends p (Continues n) w f = tt {0}

  pub traces_alike : (files : List (List ℕ)) (i : Input) (budget : ℕ) → trace_by copy files i budget ≡ cut keeps (trace_by original files i budget)
  traces_alike files i budget = runs_alike keeps (Enterable copy) original copy copied budget _ (tt {0}, (tt {0}, refl), ends i.script)

-- ---- larger kept sets

abbrev IsStop : List Event → Type 0
IsStop [] = Unit {0}
IsStop (Tick ∷ es) = ⊥
IsStop (Enter e ∷ es) = ⊥
IsStop (Out bytes ∷ es) = ⊥
IsStop (Stop end ∷ es) = Unit {0}

abbrev rest_of : List Event → List Event
rest_of [] = []
rest_of (x ∷ xs) = xs

module _ (keeps more : Entry → Bool) (within : IsWithin keeps more) where
  -- an entry at which a trace is not cut is kept
  was_kept : (b : Bool) (e : Entry) (es tail : List Event) → (if b then Enter e ∷ tail else Stop (Removed e) ∷ []) ≡ Enter e ∷ es → (b ≡ true) × (tail ≡ es)
  was_kept true e es tail q = (refl, ap rest_of q)
  was_kept false e es tail q = absurd (subst IsStop q (tt {0}))

  pub uncut : (es : List Event) → cut keeps es ≡ es → cut more es ≡ es
  uncut [] q = refl
  uncut (Tick ∷ es) q = ap (λ l. Tick ∷ l) (uncut es (ap rest_of q))
  uncut (Enter e ∷ es) q =
      let h = was_kept (keeps e) e es (cut keeps es) q in
      ap (λ b. if b then Enter e ∷ cut more es else Stop (Removed e) ∷ []) (within e h.0) ∙ ap (λ l. Enter e ∷ l) (uncut es h.1)
  uncut (Out bytes ∷ es) q = ap (λ l. Out bytes ∷ l) (uncut es (ap rest_of q))
  uncut (Stop end ∷ es) q = ap (λ l. Stop end ∷ l) (uncut es (ap rest_of q))
