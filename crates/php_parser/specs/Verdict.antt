-- What the tokens of a text are read as: the tree of a file, or the first fault.
use Rattle.std.specs.Prelude.{◌≡◌, ℕ, List, [], ◌∷◌, map, length, Option, Some, None, ⊤, slice_get}
use Rattle.std.specs.Str.{str_to_ascii_lowercase}
use Rattle.php_lexer.specs.Bytes.{Text}
use Rattle.php_lexer.specs.Marks.{Mark}
use Rattle.php_lexer.specs.Tokens.{IsTokens}
use Rattle.php_lexer.specs.declared.kinds.Kind as lexer
use Rattle.php_lexer.specs.declared.kinds.Kind.TheVariants.{Word}
use Rattle.php_tree.specs.declared.name.VarName.{VarName}
use Rattle.php_tree.specs.declared.file.FileTree.{FileTree}
use Rattle.php_tree.specs.StatementOf.{statements_of}
use Rattle.php_tree.specs.Statements.{Statements}
use Rattle.php_tree.specs.Renamed.{name_at, renamed_statements}
use Rattle.php_tree.specs.Functions.{functions_of}
use Rattle.php_grammar.specs.declared.token.Kind.{Kind}
use Rattle.php_grammar.specs.declared.token.Kind.TheVariants.{LeftOut, HintWord}
use Rattle.php_grammar.specs.declared.token.Fault.{Fault}
use Rattle.php_grammar.specs.declared.token.Fault.TheVariants.{Bad, Deep}
use Rattle.php_grammar.specs.Place.{IsTree, IsFault}
use Rattle.php_lexemes.specs.Words.{word_sort}
use Rattle.php_lexemes.specs.Names.{Name, names_of}
use Rattle.php_lexemes.specs.Lexemes.{lexemes}
use Rattle.php_parser.specs.declared.fault.ParseFault.{ParseFault}
use Rattle.php_parser.specs.declared.fault.ParseFault.TheVariants as fault
use Rattle.php_parser.specs.declared.fault.ParseKind.{ParseKind}
use Rattle.php_parser.specs.declared.fault.ParseKind.TheVariants as kind

-- ---- a tree

abbrev pub name_text : VarName → Name
name_text name = name.text

-- The tree of a file of these tokens: its statements are those of the grammar, at most 200 deep, where each variable stands by
-- its place among the file's names; its functions are those of the statements.
pub record IsFileTree (ts : List Mark) (tree : FileTree) : Type 0 where
  pub names : map name_text tree.variables ≡ names_of ts
  pub tree_of : IsTree (statements_of tree.stmts) (lexemes (names_of ts) ts)
  pub functions : tree.functions ≡ functions_of (statements_of tree.stmts)

-- the statements, where each variable stands by its name
abbrev pub named_statements : FileTree → Statements Name
named_statements tree = renamed_statements (name_at tree.variables) (statements_of tree.stmts)

-- ---- a fault

abbrev pub kind_of_word : Kind → List ℕ → ParseKind
kind_of_word LeftOut text = kind.LeftOut (record { text = str_to_ascii_lowercase text })
kind_of_word HintWord text = kind.LeftOut (record { text = str_to_ascii_lowercase text })
kind_of_word _ text = kind.Unexpected

-- a left-out word or hint is told by its name
abbrev pub kind_of_token : lexer.Kind → List ℕ → ParseKind
kind_of_token Word text = kind_of_word (word_sort text).0 text
kind_of_token _ text = kind.Unexpected

abbrev pub kind_of_bad : Option Mark → ParseKind
kind_of_bad None = kind.Unexpected
kind_of_bad (Some m) = kind_of_token m.kind m.text

abbrev pub kind_of : Fault → Option Mark → ParseKind
kind_of Bad m = kind_of_bad m
kind_of Deep m = kind.Depth

-- the place of a token in bytes, the text's end where there is none
abbrev pub place_of : Text → Option Mark → ℕ
place_of text None = length text
place_of text (Some m) = m.at

-- the n-th token is the first that is bad or too deep, told by its place and kind
pub record IsFaultAt (text : Text) (ts : List Mark) (place : ℕ) (told : ParseKind) : Type 0 where
  pub token : ℕ
  pub why : Fault
  pub first : IsFault (lexemes (names_of ts) ts) token why
  pub at : place ≡ place_of text (slice_get ts token)
  pub tells : told ≡ kind_of why (slice_get ts token)

abbrev pub IsFaultOf : Text → List Mark → ParseFault → Type 0
IsFaultOf text ts (fault.At place told) = IsFaultAt text ts place told
IsFaultOf text ts fault.Memory = ⊤

-- ---- texts

-- a text's tokens have this tree
abbrev pub ParsesTo : Text → FileTree → Type 0
ParsesTo text tree = (ts : List Mark) × IsTokens text ts × IsFileTree ts tree

-- a text has tokens, of which no file is made
abbrev pub HasParseFault : Text → ℕ → ParseKind → Type 0
HasParseFault text place told = (ts : List Mark) × IsTokens text ts × IsFaultAt text ts place told
