-- What is told of the tokens of a file.
use Rattle.std.specs.Prelude.{◌≡◌, ℕ, List, ◌∷◌, ⊤}
use Rattle.php_tree.specs.Statements.{Statements}
use Rattle.php_grammar.specs.declared.lexeme.Lexeme.{Lexeme}
use Rattle.php_grammar.specs.Values.{Value, stmts_of}
use Rattle.php_grammar.specs.Place.{IsTree, IsFault}
use Rattle.php_reading.specs.declared.file_fault.FileFault.{FileFault}
use Rattle.php_reading.specs.declared.file_fault.FileFault.TheVariants.{At, Memory}

-- the tree of the tokens is put on the values
pub record IsFileRead (ts : List Lexeme) (vs vs' : List Value) : Type 0 where
  pub tree : Statements ℕ
  pub on_top : vs' ≡ stmts_of tree ∷ vs
  pub is_tree : IsTree tree ts

-- the tokens have this fault
abbrev pub IsFileFault : List Lexeme → FileFault → Type 0
IsFileFault ts (At place fault) = IsFault ts place fault
IsFileFault ts Memory = ⊤
