-- Courses that enter only functions of which a fact is known, if they declare no others.
use Rattle.std.proofs.Common.{◌≡◌, ℕ, List, [], ◌∷◌, ◌++◌}
use Rattle.app_load.specs.Entries.{Entry, function}
use Rattle.php_tree.specs.Statements as s
use Rattle.php_tree.specs.Statements.{Statement, Statements, Arms, Cases}
use Rattle.php_meaning.specs.World.{World, Name, Declared, path_of}
use Rattle.php_meaning.specs.Course.{Course, Stops, Prints, Ticks, Enters, Turns, Loop, While, Do, For, Signal, Then, Does}
use Rattle.php_meaning.specs.Statements.{declared_as}

module _ (Fine : Entry → Type 0) where
  abbrev pub AllFine : List Declared → Type 0
  AllFine [] = Unit {0}
  AllFine (f ∷ fs) = Fine f.entry × AllFine fs

  -- the functions that statements of a file declare
  abbrev mutual
    pub FineStatement : List ℕ → Statement Name → Type 0
    FineStatement p (s.block ss l) = FineStatements p ss
    FineStatement p (s.conditional xs ss l) = FineArms p xs × FineStatements p ss
    FineStatement p (s.while_loop x ss l) = FineStatements p ss
    FineStatement p (s.do_loop ss x l) = FineStatements p ss
    FineStatement p (s.for_loop xs ys zs ss l) = FineStatements p ss
    FineStatement p (s.foreach x key y ss l) = FineStatements p ss
    FineStatement p (s.switch x cs l) = FineCases p cs
    FineStatement p (s.try ss cs l) = FineStatements p ss
    FineStatement p (s.function (s.with_body h ss at) l) = Fine (declared_as p h).entry
    FineStatement p x = Unit {0}

    pub FineStatements : List ℕ → Statements Name → Type 0
    FineStatements p s.no_more = Unit {0}
    FineStatements p (s.statement x xs) = FineStatement p x × FineStatements p xs

    pub FineArms : List ℕ → Arms Name → Type 0
    FineArms p s.no_arms = Unit {0}
    FineArms p (s.arm x ss xs) = FineStatements p ss × FineArms p xs

    pub FineCases : List ℕ → Cases Name → Type 0
    FineCases p s.no_cases = Unit {0}
    FineCases p (s.case x ss cs) = FineStatements p ss × FineCases p cs
    FineCases p (s.default_case ss cs) = FineStatements p ss × FineCases p cs

  abbrev pub FineLoop : List ℕ → Loop → Type 0
  FineLoop p (While x ss l) = FineStatements p ss
  FineLoop p (Do ss x l) = FineStatements p ss
  FineLoop p (For ys zs ss l) = FineStatements p ss

  -- the functions that were declared, and the file whose code runs
  abbrev pub FineIn : List ℕ → World → Type 0
  FineIn p w = AllFine w.functions × (path_of w.context.owner ≡ p)

  abbrev pub Good : Course → Type 0
  Good (Stops end w) = Unit {0}
  Good (Prints bytes rest) = Good rest
  Good (Ticks w rest) = Good rest
  Good (Enters entry w k) = Fine entry × FineIn (path_of entry) w × ((s : Signal) (v : World) → FineIn (path_of entry) v → Good (k s v))
  Good (Turns loop w k) = FineLoop (path_of w.context.owner) loop × AllFine w.functions × ((s : Signal) (v : World) → FineIn (path_of w.context.owner) v → Good (k s v))

  abbrev pub GoodThen : List ℕ → Then → Type 0
  GoodThen p k = (s : Signal) (w : World) → FineIn p w → Good (k s w)

  abbrev pub GoodDoes : List ℕ → Does → Type 0
  GoodDoes p go = (w : World) (k : Then) → FineIn p w → GoodThen p k → Good (go w k)
