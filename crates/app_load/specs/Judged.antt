-- Which texts, applications and copies are accepted, and what is told of the first that is not.
use Rattle.std.specs.Prelude.{◌≡◌, ℕ, ◌+◌, ◌<◌, ◌≤◌, Bool, true, false, not, nat_lt, List, [], ◌∷◌, length, Option, Some, None, ⊤, if◌then◌else◌}
use Rattle.std.specs.List.{list_all, sum_by}
use Rattle.std.specs.Str.{str_to_ascii_lowercase}
use Rattle.less_terms.specs.Lines.{line_at}
use Rattle.php_lexer.specs.Marks.{Mark}
use Rattle.php_lexer.specs.Tokens.{IsTokens, IsFirstFault}
use Rattle.php_lexer.specs.declared.fault.LexKind.{LexKind}
use Rattle.php_tree.specs.declared.file.FileTree.{FileTree}
use Rattle.php_tree.specs.StatementOf.{statements_of}
use Rattle.php_tree.specs.Renamed.{name_at}
use Rattle.php_parser.specs.Verdict.{IsFileTree, IsFaultAt}
use Rattle.php_parser.specs.declared.fault.ParseKind.{ParseKind}
use Rattle.app_load.specs.declared.fault.AppKind.{AppKind}
use Rattle.app_load.specs.declared.fault.AppKind.TheVariants as kind
use Rattle.app_load.specs.declared.fault.LimitName.{LimitName}
use Rattle.app_load.specs.declared.fault.LimitName.TheVariants as limit
use Rattle.app_load.specs.declared.fault.AppFault.{AppFault}
use Rattle.app_load.specs.declared.judge.Setting.{Setting}
use Rattle.app_load.specs.declared.judge.Setting.TheVariants.{Application, Copy}
use Rattle.app_load.specs.Files.{Tree, tree_of}
use Rattle.app_load.specs.Findings.{Name, Finding, findings_in}
use Rattle.app_load.specs.Twice.{first_twice, first_leaving}
use Rattle.app_load.specs.Stubs.{first_reserved, first_stray, placeholders}

-- ---- a PHP text

abbrev pub file_findings : FileTree → List Finding
file_findings tree = findings_in (name_at tree.variables) 0 (statements_of tree.stmts)

-- what is told of a text: its tree; or the line and kind of its fault; or, of a copy, the line of a word out of its place
pub data Verdict : Type 0 where
  good : Tree → Verdict
  bad : ℕ → AppKind → Verdict
  stray : ℕ → Verdict

-- an application has no word `less_removed`
abbrev pub IsFree : Setting → List Mark → Type 0
IsFree Application ms = first_reserved ms ≡ None
IsFree Copy ms = ⊤

-- in a copy each such word stands in a placeholder of the exact form
abbrev pub IsExact : Setting → List ℕ → List ℕ → List Mark → FileTree → Type 0
IsExact Application path text ms tree = ⊤
IsExact Copy path text ms tree = first_stray (placeholders path text tree.functions) ms ≡ None

-- a text that is not too long, with its tokens
pub record IsRead (setting : Setting) (text : List ℕ) (ms : List Mark) : Type 0 where
  pub short : length text ≤ 1048576
  pub tokens : IsTokens text ms
  pub free : IsFree setting ms

-- and with its tree
pub record IsParsed (setting : Setting) (path text : List ℕ) (ms : List Mark) (tree : FileTree) : Type 0 where
  pub read : IsRead setting text ms
  pub tree_of : IsFileTree ms tree
  pub exact : IsExact setting path text ms tree

-- The faults of a text in their order: too long, no tokens, in an application the reserved word, no tree, in a copy a word out of
-- its place, a name that is declared twice, a jump out of more than there is around it.
pub data Judged (setting : Setting) (path text : List ℕ) : Verdict → Type 0 where
  too_long : 1048576 < length text → Judged setting path text (bad 0 (kind.Limit limit.File))
  no_tokens : {place : ℕ} {k : LexKind} → length text ≤ 1048576 → IsFirstFault text place k
      → Judged setting path text (bad (line_at text place) (kind.Lex k))
  reserved : {ms : List Mark} {m : Mark} → setting ≡ Application → length text ≤ 1048576 → IsTokens text ms → first_reserved ms ≡ Some m
      → Judged setting path text (bad m.line (kind.ReservedWord m.text))
  no_tree : {ms : List Mark} {place : ℕ} {k : ParseKind} → IsRead setting text ms → IsFaultAt text ms place k
      → Judged setting path text (bad (line_at text place) (kind.Parse k))
  out_of_place : {ms : List Mark} {m : Mark} {tree : FileTree} → setting ≡ Copy → IsRead setting text ms → IsFileTree ms tree
      → first_stray (placeholders path text tree.functions) ms ≡ Some m → Judged setting path text (stray m.line)
  twice : {ms : List Mark} {tree : FileTree} {n : Name} → IsParsed setting path text ms tree → first_twice (file_findings tree) ≡ Some n
      → Judged setting path text (bad n.line (kind.Twice (str_to_ascii_lowercase n.word)))
  leaving : {ms : List Mark} {tree : FileTree} {l : ℕ} → IsParsed setting path text ms tree → first_twice (file_findings tree) ≡ None
      → first_leaving (file_findings tree) ≡ Some l → Judged setting path text (bad l kind.BreakDepth)
  fine : {ms : List Mark} {tree : FileTree} → IsParsed setting path text ms tree → first_twice (file_findings tree) ≡ None
      → first_leaving (file_findings tree) ≡ None → Judged setting path text (good (tree_of tree))
