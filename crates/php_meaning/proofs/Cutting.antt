-- A copy runs as the original does, up to the first entry that it lacks: from any point of a run from which only functions
-- whose bodies stand in kept parts can be entered.
use Rattle.std.proofs.Common.{◌≡◌, ℕ, zero, suc, Bool, true, false, List, [], ◌∷◌, refl, sym, ap, subst, ◌∙◌}
use Rattle.std.specs.Prelude.{if◌then◌else◌}
use Rattle.std.specs.declared.option.Option.{Option}
use Rattle.std.specs.declared.option.Option.TheVariants.{Some, None}
use Rattle.app_load.specs.Entries.{Entry, file, function}
use Rattle.app_load.specs.Files.{Tree}
use Rattle.app_load.specs.Parts.{Part, body, stub}
use Rattle.php_meaning.specs.Events.{Event, Tick, Enter, Out, Stop, Removed, Budget}
use Rattle.php_meaning.specs.World.{World, path_of}
use Rattle.php_meaning.specs.Course.{Course, Stops, Prints, Ticks, Enters, Turns, Loop, Signal, Normal, Then}
use Rattle.php_meaning.specs.Statements.{statements, turn, file_statements, Hoisted, hoisted, refused, hoist}
use Rattle.php_meaning.specs.Run.{Look, begun, begun_file, opened, enter, follow, run}
use Rattle.php_meaning.specs.Cut.{cut}
use Rattle.php_meaning.specs.Copies.{IsGone}
use Rattle.php_meaning.proofs.Good.{AllFine, FineStatements, FineLoop, FineIn, Good, GoodThen}

-- what the equations of the language promise: statements and turns enter only such functions, and declare out others
pub record Equations (Fine : Entry → Type 0) : Type 0 where
  pub of_statements : (p : List ℕ) (ss : Tree) (w : World) (k : Then) → FineStatements Fine p ss → FineIn Fine p w → GoodThen Fine p k → Good Fine (statements ss w k)
  pub of_file : (p : List ℕ) (ss : Tree) (w : World) (k : Then) → FineStatements Fine p ss → FineIn Fine p w → GoodThen Fine p k → Good Fine (file_statements ss w k)
  pub of_turn : (p : List ℕ) (loop : Loop) (w : World) (k : Then) → FineLoop Fine p loop → FineIn Fine p w → GoodThen Fine p k → Good Fine (turn loop w k)

-- a file's declarations are such functions
abbrev pub FineHoisted : (Entry → Type 0) → List ℕ → Hoisted → Type 0
FineHoisted Fine p (hoisted v) = FineIn Fine p v
FineHoisted Fine p (refused line) = Unit {0}

pub record Copied (kept : Entry → Bool) (Fine : Entry → Type 0) (original copy : Look) : Type 0 where
  pub same : (e : Entry) → Fine e → kept e ≡ true → copy e ≡ original e
  pub gone : (e : Entry) → kept e ≡ false → IsGone (copy e)
  pub declares : (e : Entry) (ss : Tree) → Fine e → kept e ≡ true → original e ≡ Some (body ss) → FineStatements Fine (path_of e) ss
  pub equations : Equations Fine
  pub hoists : (p : List ℕ) (ss : Tree) (w : World) → FineStatements Fine p ss → FineIn Fine p w → FineHoisted Fine p (hoist p ss w)

module _ (kept : Entry → Bool) (Fine : Entry → Type 0) (look look' : Look) (copied : Copied kept Fine look look') where
  module _ (tick : World → List Event → List Event) (ticks : (w : World) (a b : List Event) → a ≡ cut kept b → tick w a ≡ cut kept (tick w b)) (more more' : Course → List Event) (ih : (c : Course) → Good Fine c → more' c ≡ cut kept (more c)) where
    begins : (c : Course) → Good Fine c → (o o' : List Event) → o' ≡ cut kept o → begun tick more' c o' ≡ cut kept (begun tick more c o)
    begins (Stops end w) g o o' q = q
    begins (Prints bytes rest) g o o' q = q
    begins (Ticks w rest) g o o' q = ticks w _ _ (ih rest g)
    begins (Enters e w k) g o o' q = q
    begins (Turns loop w k) g o o' q = q

    module _ (k : Then) (after after' : World → List Event) where
      file_begins : (path : List ℕ) (ss : Tree) (h : Hoisted) → FineHoisted Fine path h → FineStatements Fine path ss → GoodThen Fine path k → ((v : World) → FineIn Fine path v → after' v ≡ cut kept (after v)) → begun_file tick more' path ss h k after' ≡ cut kept (begun_file tick more path ss h k after)
      file_begins path ss (hoisted v) f t g q = begins (file_statements ss v k) (copied.equations.of_file path ss v k t f g) (after v) (after' v) (q v f)
      file_begins path ss (refused line) f t g q = refl

      opens : (e : Entry) (ss : Tree) (w : World) → FineStatements Fine (path_of e) ss → FineIn Fine (path_of e) w → GoodThen Fine (path_of e) k → ((v : World) → FineIn Fine (path_of e) v → after' v ≡ cut kept (after v)) → opened tick more' e ss w k after' ≡ cut kept (opened tick more e ss w k after)
      opens (file path) ss w t f g q = file_begins path ss (hoist path ss w) (copied.hoists path ss w t f) t g q
      opens (function path name) ss w t f g q = begins (statements ss w k) (copied.equations.of_statements path ss w k t f g) (after w) (after' w) (q w f)

      -- an entry that is kept
      enters : (e : Entry) (w : World) → Fine e → kept e ≡ true → (found : Option Part) → look e ≡ found → FineIn Fine (path_of e) w → GoodThen Fine (path_of e) k → ((v : World) → FineIn Fine (path_of e) v → after' v ≡ cut kept (after v)) → enter tick more' found e w k after' ≡ cut kept (enter tick more found e w k after)
      enters e w fine held None at f g q = refl
      enters e w fine held (Some stub) at f g q = refl
      enters e w fine held (Some (body ss)) at f g q =
          let h = opens e ss w (copied.declares e ss fine held at) f g q in
          ap (λ l. Enter e ∷ l) h ∙ sym (ap (λ b. if b then Enter e ∷ cut kept (opened tick more e ss w k after) else Stop (Removed e) ∷ []) held)

      -- an entry that is not kept
      lacks : (e : Entry) (w : World) → kept e ≡ false → (found found' : Option Part) → IsGone found' → enter tick more' found' e w k after' ≡ cut kept (enter tick more found e w k after)
      lacks e w out None None gone = refl
      lacks e w out (Some stub) None gone = refl
      lacks e w out (Some (body ss)) None gone = sym (ap (λ b. if b then Enter e ∷ cut kept (opened tick more e ss w k after) else Stop (Removed e) ∷ []) out)
      lacks e w out None (Some stub) gone = refl
      lacks e w out (Some stub) (Some stub) gone = refl
      lacks e w out (Some (body ss)) (Some stub) gone = sym (ap (λ b. if b then Enter e ∷ cut kept (opened tick more e ss w k after) else Stop (Removed e) ∷ []) out)
      lacks e w out found (Some (body ss)) gone = absurd gone

      entered : (e : Entry) (w : World) → (b : Bool) → kept e ≡ b → Fine e → FineIn Fine (path_of e) w → GoodThen Fine (path_of e) k → ((v : World) → FineIn Fine (path_of e) v → after' v ≡ cut kept (after v)) → enter tick more' (look' e) e w k after' ≡ cut kept (enter tick more (look e) e w k after)
      entered e w true held fine f g q = ap (λ p. enter tick more' p e w k after') (copied.same e fine held) ∙ enters e w fine held (look e) refl f g q
      entered e w false out fine f g q = lacks e w out (look e) (look' e) (copied.gone e out)

    followed : (c : Course) → Good Fine c → follow tick more' look' c ≡ cut kept (follow tick more look c)
    followed (Stops end w) g = refl
    followed (Prints bytes rest) g = ap (λ l. Out bytes ∷ l) (followed rest g)
    followed (Ticks w rest) g = ticks w _ _ (ih rest g)
    followed (Enters e w k) g =
        entered k (λ v. follow tick more look (k Normal v)) (λ v. follow tick more' look' (k Normal v)) e w (kept e) refl g.0 g.1 g.2 (λ v f. followed (k Normal v) (g.2 Normal v f))
    followed (Turns loop w k) g = ticks w _ _ (ih (turn loop w k) (copied.equations.of_turn (path_of w.context.owner) loop w k g.0 (g.1, refl) g.2))

  -- from any point of a run
  pub runs_alike : (n : ℕ) (c : Course) → Good Fine c → run look' n c ≡ cut kept (run look n c)
  runs_alike zero c g = followed (λ w later. Stop Budget ∷ []) (λ w a b q. refl) (λ c. []) (λ c. []) (λ c h. refl) c g
  runs_alike (suc n) c g = followed (λ w later. Tick ∷ later) (λ w a b q. ap (λ l. Tick ∷ l) q) (run look n) (run look' n) (runs_alike n) c g
