-- What an entry adds to what a run comes to.
use Rattle.std.proofs.Common.{◌≡◌, ℕ, zero, suc, List, [], ◌∷◌, ◌++◌, refl, ap, ◌∙◌}
use Rattle.std.proofs.lemmas.List.{map-append}
use Rattle.std.specs.declared.option.Option.{Option}
use Rattle.std.specs.declared.option.Option.TheVariants.{Some, None}
use Rattle.app_load.specs.CopyParts.{IsGone}
use Rattle.app_load.specs.Entries.{Entry, file, function}
use Rattle.app_load.specs.Files.{Tree}
use Rattle.app_load.specs.Parts.{Part, body, stub}
use Rattle.php_meaning.specs.declared.fatal.FatalName.TheVariants as name
use Rattle.php_meaning.specs.Events.{Event, Done, Removed, Budget, Fatal, Tick, Enter, Stop}
use Rattle.php_meaning.specs.World.{World}
use Rattle.php_meaning.specs.Course.{Course, Enters, Normal, Then}
use Rattle.php_meaning.specs.Statements.{statements, file_statements, Hoisted, hoisted, refused, hoist}
use Rattle.php_meaning.specs.Run.{Look, begun_file, opened, enter, follow, run}
use Rattle.php_meaning.specs.RunResult.{RunResult, result_from}
use Rattle.php_meaning.proofs.Beginning.{body_begun, file_begun}
use Rattle.php_rest.specs.Views.{entry_of}
use Rattle.php_rest.specs.declared.owner.Owner.{Owner}
use Rattle.php_tally.specs.Comes.{result_with, comes, comes_to, closed, entry_comes, file_comes}
use Rattle.php_tally.specs.declared.tally.Tally.{Tally}

-- the events behind an entry
abbrev file_events : (Course → List Event) → List ℕ → Tree → Hoisted → Then → List Event
file_events events path ss (hoisted v) k = events (file_statements ss v k)
file_events events path ss (refused line) k = Stop (Fatal name.Redeclared path line) ∷ []

abbrev entry_events : (Course → List Event) → Entry → Tree → World → Then → List Event
entry_events events (file path) ss w k = file_events events path ss (hoist path ss w) k
entry_events events (function path name) ss w k = events (statements ss w k)

module _ (tick : World → List Event → List Event) (more : Course → List Event) (look : Look) where
  file_opens : (path : List ℕ) (ss : Tree) (h : Hoisted) (k : Then) → begun_file tick more path ss h k (λ v. follow tick more look (k Normal v)) ≡ file_events (follow tick more look) path ss h k
  file_opens path ss (hoisted v) k = file_begun tick more look ss v k
  file_opens path ss (refused line) k = refl

  opens : (e : Entry) (ss : Tree) (w : World) (k : Then) → opened tick more e ss w k (λ v. follow tick more look (k Normal v)) ≡ entry_events (follow tick more look) e ss w k
  opens (file path) ss w k = file_opens path ss (hoist path ss w) k
  opens (function path name) ss w k = body_begun tick more look ss w k

  enters : (e : Entry) (ss : Tree) (w : World) (k : Then) → look e ≡ Some (body ss) → follow tick more look (Enters e w k) ≡ Enter e ∷ entry_events (follow tick more look) e ss w k
  enters e ss w k at = ap (λ p. enter tick more p e w k (λ v. follow tick more look (k Normal v))) at ∙ ap (λ l. Enter e ∷ l) (opens e ss w k)

  lost : (e : Entry) (w : World) (k : Then) (p : Option Part) → IsGone p → enter tick more p e w k (λ v. follow tick more look (k Normal v)) ≡ Stop (Removed e) ∷ []
  lost e w k None gone = refl
  lost e w k (Some stub) gone = refl
  lost e w k (Some (body ss)) gone = absurd gone

runs_into : (look : Look) (n : ℕ) (e : Entry) (ss : Tree) (w : World) (k : Then) → look e ≡ Some (body ss) → run look n (Enters e w k) ≡ Enter e ∷ entry_events (run look n) e ss w k
runs_into look zero e ss w k at = enters (λ w later. Stop Budget ∷ []) (λ c. []) look e ss w k at
runs_into look (suc n) e ss w k at = enters (λ w later. Tick ∷ later) (run look n) look e ss w k at

runs_out : (look : Look) (n : ℕ) (e : Entry) (w : World) (k : Then) → IsGone (look e) → run look n (Enters e w k) ≡ Stop (Removed e) ∷ []
runs_out look zero e w k gone = lost (λ w later. Stop Budget ∷ []) (λ c. []) look e w k (look e) gone
runs_out look (suc n) e w k gone = lost (λ w later. Tick ∷ later) (run look n) look e w k (look e) gone

module _ (look : Look) (r : RunResult) (n : ℕ) where
  file_result : (path : List ℕ) (ss : Tree) (h : Hoisted) (k : Then) → result_from r (file_events (run look n) path ss h k) ≡ file_comes look r n path ss h k
  file_result path ss (hoisted v) k = refl
  file_result path ss (refused line) k = refl

  entry_result : (e : Entry) (ss : Tree) (w : World) (k : Then) → result_from r (entry_events (run look n) e ss w k) ≡ entry_comes look r n e ss w k
  entry_result (file path) ss w k = file_result path ss (hoist path ss w) k
  entry_result (function path name) ss w k = refl

noted : (look : Look) (r : RunResult) (n : ℕ) (e : Entry) (ss : Tree) (w : World) (k : Then) → look e ≡ Some (body ss)
    → comes look r n (Enters e w k) ≡ entry_comes look (record r { entries = r.entries ++ e ∷ [] }) n e ss w k
noted look r n e ss w k at = ap (result_from r) (runs_into look n e ss w k at) ∙ entry_result look (record r { entries = r.entries ++ e ∷ [] }) n e ss w k

-- an entry was noted
pub entered : (look : Look) (output : List ℕ) (owners : List Owner) (n : ℕ) (owner : Owner) (ss : Tree) (w : World) (k : Then) → look (entry_of owner) ≡ Some (body ss)
    → comes look (result_with output owners Done) n (Enters (entry_of owner) w k) ≡ entry_comes look (result_with output (owners ++ owner ∷ []) Done) n (entry_of owner) ss w k
entered look output owners n owner ss w k at = let e = map-append entry_of owners (owner ∷ []) in rw e (noted look (result_with output owners Done) n (entry_of owner) ss w k at)

-- nothing stands there
pub removed : (look : Look) (y : Tally) (e : Entry) (w : World) (k : Then) → IsGone (look e) → comes_to look y (Enters e w k) ≡ closed y (Removed e)
removed look y e w k gone = ap (result_from (closed y Done)) (runs_out look y.left e w k gone)
