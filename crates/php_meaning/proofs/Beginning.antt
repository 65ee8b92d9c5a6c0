-- What `run` does at an entry is to follow the statements that stand there.
use Rattle.std.proofs.Common.{◌≡◌, ℕ, List, [], ◌∷◌, refl, sym, ap, subst, ◌∙◌}
use Rattle.std.specs.declared.option.Option.TheVariants.{Some, None}
use Rattle.php_tree.specs.Statements as s
use Rattle.php_tree.specs.Statements.{Statement, Statements}
use Rattle.php_meaning.specs.Events.{Event}
use Rattle.php_meaning.specs.World.{World, Name}
use Rattle.php_meaning.specs.Course.{Course, Stops, Prints, Ticks, Enters, Turns, Normal, Then, then_do}
use Rattle.php_meaning.specs.Statements.{statement, statements, file_statements}
use Rattle.php_meaning.specs.Run.{Look, begun, follow}

abbrev IsTick : Course → Type 0
IsTick (Stops end w) = ⊥
IsTick (Prints bytes rest) = ⊥
IsTick (Ticks w rest) = Unit {0}
IsTick (Enters entry w k) = ⊥
IsTick (Turns loop w k) = ⊥

-- a course begins with a tick, or it is what follows
pub data Begins (c d : Course) : Type 0 where
  ticks : IsTick c → Begins c d
  follows : c ≡ d → Begins c d

-- what begins with the first of two courses, where that is the second one's beginning
after : (b c d : Course) → Begins b c → Begins c d → Begins b d
after b c d (ticks h) i = ticks h
after b c d (follows h) (ticks i) = ticks (subst IsTick (sym h) i)
after b c d (follows h) (follows i) = follows (h ∙ i)

mutual
  begins : (x : Statement Name) (w : World) (k : Then) → Begins (statement x w k) (k Normal w)
  begins (s.nothing l) w k = follows refl
  begins (s.block ss l) w k = all_begin ss w k
  begins (s.removed what path name l) w k = follows refl
  begins (s.return None l) w k = ticks (tt {0})
  begins (s.return (Some x) l) w k = ticks (tt {0})
  begins (s.function (s.with_body h ss span) l) w k = ticks (tt {0})
  begins x w k = ticks (tt {0})

  all_begin : (ss : Statements Name) (w : World) (k : Then) → Begins (statements ss w k) (k Normal w)
  all_begin s.no_more w k = follows refl
  all_begin (s.statement x xs) w k = after _ (statements xs w k) _ (begins x w (then_do (statements xs) k)) (all_begin xs w k)

file_begins : (ss : Statements Name) (w : World) (k : Then) → Begins (file_statements ss w k) (k Normal w)
file_begins s.no_more w k = follows refl
file_begins (s.statement (s.function f l) xs) w k = ticks (tt {0})
file_begins (s.statement x xs) w k = after _ (file_statements xs w k) _ (begins x w (then_do (file_statements xs) k)) (file_begins xs w k)

module _ (tick : World → List Event → List Event) (more : Course → List Event) (look : Look) where
  at_tick : (c : Course) (o : List Event) → IsTick c → begun tick more c o ≡ follow tick more look c
  at_tick (Stops end w) o h = absurd h
  at_tick (Prints bytes rest) o h = absurd h
  at_tick (Ticks w rest) o h = refl
  at_tick (Enters entry w k) o h = absurd h
  at_tick (Turns loop w k) o h = absurd h

  same : (c : Course) → begun tick more c (follow tick more look c) ≡ follow tick more look c
  same (Stops end w) = refl
  same (Prints bytes rest) = refl
  same (Ticks w rest) = refl
  same (Enters entry w k) = refl
  same (Turns loop w k) = refl

  begun_by : (c d : Course) → Begins c d → begun tick more c (follow tick more look d) ≡ follow tick more look c
  begun_by c d (ticks h) = at_tick c (follow tick more look d) h
  begun_by c d (follows h) = ap (λ x. begun tick more c (follow tick more look x)) (sym h) ∙ same c

  -- a function's body, and a file's statements
  pub body_begun : (ss : Statements Name) (w : World) (k : Then) → begun tick more (statements ss w k) (follow tick more look (k Normal w)) ≡ follow tick more look (statements ss w k)
  body_begun ss w k = begun_by (statements ss w k) (k Normal w) (all_begin ss w k)

  pub file_begun : (ss : Statements Name) (w : World) (k : Then) → begun tick more (file_statements ss w k) (follow tick more look (k Normal w)) ≡ follow tick more look (file_statements ss w k)
  file_begun ss w k = begun_by (file_statements ss w k) (k Normal w) (file_begins ss w k)
