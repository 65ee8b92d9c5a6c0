-- Which tree a list of tokens has, and where it has none.
use Rattle.std.specs.Prelude.{◌≡◌, ℕ, suc, List, [], ◌∷◌, length, take}
use Rattle.php_grammar.specs.declared.token.Fault.{Fault}
use Rattle.php_grammar.specs.declared.token.Fault.TheVariants.{Bad, Deep}
use Rattle.php_tree.specs.Statements.{Statements}
use Rattle.php_grammar.specs.Parts.{file}
use Rattle.php_grammar.specs.Values.{Value, stmts_of, Lexeme}
use Rattle.php_grammar.specs.Reads.{part_of, Reads}

-- A token stands in at most 200 nodes.
abbrev pub budget : ℕ
budget = 201

-- the list is a file, and each of its first m tokens stands in at most 200 nodes
abbrev pub IsFile : ℕ → List Lexeme → Type 0
IsFile m ts = (v : Value) × Reads budget m (part_of file) (v ∷ []) ts []

-- the file's tree
abbrev pub IsTree : Statements ℕ → List Lexeme → Type 0
IsTree tree ts = Reads budget (length ts) (part_of file) (stmts_of tree ∷ []) ts []

-- the lists agree on the first m places, where the end is a place too
abbrev pub Shares : ℕ → List Lexeme → List Lexeme → Type 0
Shares m xs ts = take m xs ≡ take m ts

-- why no file begins with the first m tokens, or only files that are too deep
abbrev pub IsKind : Fault → ℕ → List Lexeme → Type 0
IsKind Bad m ts = (xs : List Lexeme) → Shares m xs ts → IsFile 0 xs → ⊥
IsKind Deep m ts = (xs : List Lexeme) × Shares m xs ts × IsFile 0 xs

-- The fault stands at the first token up to which no file goes that is not too deep there.
pub record IsFault (ts : List Lexeme) (place : ℕ) (f : Fault) : Type 0 where
  pub before : (xs : List Lexeme) × Shares place xs ts × IsFile place xs
  pub after : (xs : List Lexeme) → Shares (suc place) xs ts → IsFile (suc place) xs → ⊥
  pub kind : IsKind f (suc place) ts
