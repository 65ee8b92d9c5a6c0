-- What is told of a PHP text, from what a step of judging it told.
use Rattle.std.proofs.Common.{◌≡◌, ℕ, ◌<◌, ◌≤◌, List, length, sym, subst}
use Rattle.less_terms.specs.Lines.{line_at}
use Rattle.php_lexer.specs.Marks.{Mark}
use Rattle.php_tree.specs.declared.file.FileTree.{FileTree}
use Rattle.php_parser.specs.Verdict as verdict
use Rattle.php_parser.specs.declared.fault.ParseFault.{ParseFault}
use Rattle.php_parser.specs.declared.fault.ParseFault.TheVariants as parse
use Rattle.php_parser.specs.declared.fault.ParseKind.{ParseKind}
use Rattle.app_load.specs.declared.fault.AppKind.TheVariants as kind
use Rattle.app_load.specs.declared.fault.LimitName.TheVariants as limit
use Rattle.app_load.specs.declared.judge.Setting.{Setting}
use Rattle.app_load.specs.declared.judge.FileFault.{FileFault}
use Rattle.app_load.specs.declared.judge.FileFault.TheVariants.{At, Stray, Memory}
use Rattle.app_load.specs.Files.{tree_of}
use Rattle.app_load.specs.Judged.{Judged, good, bad, too_long, no_tree, fine, IsRead, IsParsed, IsExact}
use Rattle.app_load.specs.Outcomes.{IsReadFault, IsTreeFault, IsStrayFault, IsRuleFault, IsFileFault, PassesRules}

pub parse_refused : (text : List ℕ) (ms : List Mark) (place : ℕ) (k : ParseKind) (e : ParseFault) (line : ℕ) → e ≡ parse.At place k
    → verdict.IsFaultOf text ms e → line ≡ line_at text place → IsTreeFault text ms (At line (kind.Parse k))
parse_refused text ms place k e line is fault at = λ setting path read.
    subst (λ l. Judged setting path text (bad l (kind.Parse k))) (sym at) (no_tree read (subst (verdict.IsFaultOf text ms) is fault))

pub too_long_refused : (setting : Setting) (path text : List ℕ) → 1048576 < length text → IsFileFault setting path text (At 0 (kind.Limit limit.File))
too_long_refused setting path text long = too_long long

pub read_refused : (setting : Setting) (path text : List ℕ) (e : FileFault) → IsReadFault setting text e → IsFileFault setting path text e
read_refused setting path text (At line k) told = told path
read_refused setting path text (Stray line) told = told path
read_refused setting path text Memory told = tt

pub tree_refused : (setting : Setting) (path text : List ℕ) (ms : List Mark) (e : FileFault) → IsRead setting text ms → IsTreeFault text ms e → IsFileFault setting path text e
tree_refused setting path text ms (At line k) read told = told setting path read
tree_refused setting path text ms (Stray line) read told = told setting path read
tree_refused setting path text ms Memory read told = tt

pub stray_refused : (setting : Setting) (path text : List ℕ) (ms : List Mark) (tree : FileTree) (e : FileFault) → IsRead setting text ms → verdict.IsFileTree ms tree
    → IsStrayFault setting path text ms tree e → IsFileFault setting path text e
stray_refused setting path text ms tree (At line k) read parsed told = told read parsed
stray_refused setting path text ms tree (Stray line) read parsed told = told read parsed
stray_refused setting path text ms tree Memory read parsed told = tt

with_all : (setting : Setting) (path text : List ℕ) (ms : List Mark) (tree : FileTree) → IsRead setting text ms → verdict.IsFileTree ms tree → IsExact setting path text ms tree
    → IsParsed setting path text ms tree
with_all setting path text ms tree read parsed exact = record { read = read; tree_of = parsed; exact = exact }

pub rules_refused : (setting : Setting) (path text : List ℕ) (ms : List Mark) (tree : FileTree) (e : FileFault) → IsRead setting text ms → verdict.IsFileTree ms tree
    → IsExact setting path text ms tree → IsRuleFault tree e → IsFileFault setting path text e
rules_refused setting path text ms tree (At line k) read parsed exact told = told setting path text ms (with_all setting path text ms tree read parsed exact)
rules_refused setting path text ms tree (Stray line) read parsed exact told = told setting path text ms (with_all setting path text ms tree read parsed exact)
rules_refused setting path text ms tree Memory read parsed exact told = tt

pub text_accepted : (setting : Setting) (path text : List ℕ) (ms : List Mark) (tree : FileTree) → IsRead setting text ms → verdict.IsFileTree ms tree
    → IsExact setting path text ms tree → PassesRules tree → Judged setting path text (good (tree_of tree))
text_accepted setting path text ms tree read parsed exact rules = fine (with_all setting path text ms tree read parsed exact) rules.once rules.within
