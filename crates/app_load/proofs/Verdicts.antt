-- What is told of a text, from what a step of judging it found.
use Rattle.std.proofs.Common.{◌≡◌, ℕ, ◌≤◌, List, length, Some, None, sym, ap, ◌∙◌, subst}
use Rattle.std.specs.Str.{str_to_ascii_lowercase}
use Rattle.less_terms.specs.Lines.{line_at}
use Rattle.php_lexer.specs.Marks.{Mark}
use Rattle.php_lexer.specs.Tokens as tokens
use Rattle.php_lexer.specs.declared.fault.LexKind.{LexKind}
use Rattle.php_lexer.specs.declared.fault.LexFault.{LexFault}
use Rattle.php_lexer.specs.declared.fault.LexFault.TheVariants as lex
use Rattle.php_tree.specs.declared.file.FileTree.{FileTree}
use Rattle.app_load.specs.declared.fault.AppKind.TheVariants as kind
use Rattle.app_load.specs.declared.judge.Setting.{Setting}
use Rattle.app_load.specs.declared.judge.Setting.TheVariants.{Application, Copy}
use Rattle.app_load.specs.declared.judge.FileFault.TheVariants.{At, Stray}
use Rattle.app_load.specs.Findings.{Name}
use Rattle.app_load.specs.Stubs.{first_reserved, first_stray, placeholders}
use Rattle.app_load.specs.Twice.{first_twice, first_leaving}
use Rattle.app_load.specs.Judged.{Judged, bad, stray, no_tokens, reserved, out_of_place, twice, leaving, file_findings, IsRead, IsParsed}
use Rattle.app_load.specs.Outcomes.{IsReadFault, IsStrayFault, IsRuleFault}

pub lex_refused : (setting : Setting) (text : List ℕ) (place : ℕ) (k : LexKind) (e : LexFault) (line : ℕ) → length text ≤ 1048576 → e ≡ lex.At place k
    → tokens.IsFaultOf text e → line ≡ line_at text place → IsReadFault setting text (At line (kind.Lex k))
lex_refused setting text place k e line short is fault at = λ path.
    subst (λ l. Judged setting path text (bad l (kind.Lex k))) (sym at) (no_tokens short (subst (tokens.IsFaultOf text) is fault))

pub word_refused : (setting : Setting) (text : List ℕ) (ms : List Mark) (m : Mark) (line : ℕ) (word : List ℕ) → setting ≡ Application → length text ≤ 1048576
    → tokens.IsTokens text ms → first_reserved ms ≡ Some m → line ≡ m.line → word ≡ m.text → IsReadFault setting text (At line (kind.ReservedWord word))
word_refused setting text ms m line word is short read first at says = λ path.
    subst (λ l. Judged setting path text (bad l (kind.ReservedWord word))) (sym at) (subst (λ w. Judged setting path text (bad m.line (kind.ReservedWord w))) (sym says) (reserved is short read first))

pub stray_refused : (setting : Setting) (path text : List ℕ) (ms : List Mark) (tree : FileTree) (m : Mark) (line : ℕ) → setting ≡ Copy
    → first_stray (placeholders path text tree.functions) ms ≡ Some m → line ≡ m.line → IsStrayFault setting path text ms tree (Stray line)
stray_refused setting path text ms tree m line is first at = λ read tree_of.
    subst (λ l. Judged setting path text (stray l)) (sym at) (out_of_place is read tree_of first)

pub twice_refused : (tree : FileTree) (n : Name) (line : ℕ) (word : List ℕ) → first_twice (file_findings tree) ≡ Some n → line ≡ n.line
    → word ≡ str_to_ascii_lowercase n.word → IsRuleFault tree (At line (kind.Twice word))
twice_refused tree n line word first at says = λ setting path text ms parsed.
    subst (λ l. Judged setting path text (bad l (kind.Twice word))) (sym at) (subst (λ w. Judged setting path text (bad n.line (kind.Twice w))) (sym says) (twice parsed first))

pub leaving_refused : (tree : FileTree) (line : ℕ) → first_twice (file_findings tree) ≡ None → first_leaving (file_findings tree) ≡ Some line
    → IsRuleFault tree (At line kind.BreakDepth)
leaving_refused tree line once first = λ setting path text ms parsed. leaving parsed once first
