-- A list of statements that begins with a placeholder's tokens is the placeholder.
use Rattle.std.proofs.Common.{◌≡◌, ℕ, List, [], ◌∷◌, ap, sym, ◌∙◌, arith, Some, None}
use Rattle.std.specs.Prelude.{codes}
use Rattle.php_tree.specs.Statements as y
use Rattle.php_tree.specs.Statements.{Statements}
use Rattle.php_grammar.specs.declared.lexeme.Lexeme.{Lexeme}
use Rattle.php_grammar.specs.declared.token.Kind.TheVariants as k
use Rattle.php_grammar.specs.declared.part.Part.TheVariants as p
use Rattle.php_grammar.specs.declared.part.Rule.TheVariants as x
use Rattle.php_grammar.specs.Grammar.{choose, production, weight}
use Rattle.php_grammar.specs.Values.{Value, stmts_of, as_stmts}
use Rattle.php_grammar.specs.Act.{act, one}
use Rattle.php_grammar.specs.Reads.{part_of, Reads, done, token, part, rule}
use Rattle.php_grammar.proofs.Laws.{unique}
use Rattle.copy_origins.proofs.Lexemes.{Form, HasForm, Looks, file_forms, function_forms}

-- one placeholder alone
pub record IsFunctionStub (path name : List ℕ) (ss : Statements ℕ) : Type 0 where
  pub line : ℕ
  pub alone : ss ≡ one (y.removed (codes "function") path (Some name) line)

pub record IsFileStub (path : List ℕ) (ss : Statements ℕ) : Type 0 where
  pub line : ℕ
  pub alone : ss ≡ one (y.removed (codes "file") path None line)

with_first : (X : List Lexeme → Type 0) (f : Form) (fs : List Form) (ls : List Lexeme) → Looks (f ∷ fs) ls → ((l : Lexeme) (more : List Lexeme) → HasForm f l → Looks fs more → X (l ∷ more)) → X ls
with_first X f fs [] h then = absurd h
with_first X f fs (l ∷ more) h then = then l more h.0 h.1

same_first : {v w : Value} → v ∷ [] ≡ w ∷ [] → v ≡ w
same_first e = cc

module _ (m : ℕ) (a b c d e f g h i j : Lexeme) (rest : List Lexeme) where
  function_reads : a.kind ≡ k.Removed → b.kind ≡ k.ParenOpen → c.kind ≡ k.Text → d.kind ≡ k.Comma → e.kind ≡ k.Text → f.kind ≡ k.Comma → g.kind ≡ k.Text → h.kind ≡ k.ParenClose
      → i.kind ≡ k.Semi → j.kind ≡ k.BraceClose
      → Reads 9 m (part_of p.Stmts) (stmts_of (one (y.removed c.text e.text (Some g.text) a.line)) ∷ []) (a ∷ b ∷ c ∷ d ∷ e ∷ f ∷ g ∷ h ∷ i ∷ j ∷ rest) (j ∷ rest)
  unfolding choose production act weight
  function_reads ka kb kc kd ke kf kg kh ki kj =
      rule {r = x.SomeStmts} (ap (choose p.Stmts) ka)
      (part (rule {r = x.RemovedStmt} (ap (choose p.Stmt) ka)
      (token ka (λ z. omega arith) (token kb (λ z. omega arith) (token kc (λ z. omega arith) (token kd (λ z. omega arith) (token ke (λ z. omega arith)
      (part (rule {r = x.NextText} (ap (choose p.MaybeText) kf) (token kf (λ z. omega arith) (token kg (λ z. omega arith) done)))
      (token kh (λ z. omega arith) (token ki (λ z. omega arith) done)))))))))
      (part (rule {r = x.NoneOf p.Stmts} (ap (choose p.Stmts) kj) done) done))

  file_reads : a.kind ≡ k.Removed → b.kind ≡ k.ParenOpen → c.kind ≡ k.Text → d.kind ≡ k.Comma → e.kind ≡ k.Text → h.kind ≡ k.ParenClose → i.kind ≡ k.Semi → j.kind ≡ k.End
      → Reads 9 m (part_of p.File) (stmts_of (one (y.removed c.text e.text None a.line)) ∷ []) (a ∷ b ∷ c ∷ d ∷ e ∷ h ∷ i ∷ j ∷ rest) rest
  unfolding choose production act weight
  file_reads ka kb kc kd ke kh ki kj =
      rule {r = x.Whole} (ap (choose p.File) ka)
      (part (rule {r = x.SomeStmts} (ap (choose p.Stmts) ka)
      (part (rule {r = x.RemovedStmt} (ap (choose p.Stmt) ka)
      (token ka (λ z. omega arith) (token kb (λ z. omega arith) (token kc (λ z. omega arith) (token kd (λ z. omega arith) (token ke (λ z. omega arith)
      (part (rule {r = x.NoneOf p.MaybeText} (ap (choose p.MaybeText) kh) done)
      (token kh (λ z. omega arith) (token ki (λ z. omega arith) done)))))))))
      (part (rule {r = x.NoneOf p.Stmts} (ap (choose p.Stmts) kj) done) done)))
      (token kj (λ z. omega arith) done))

abbrev FunctionIs : List ℕ → List ℕ → List Lexeme → Type 0
FunctionIs path name ts = (v : Value) (n m : ℕ) (mid : List Lexeme) → Reads n m (part_of p.Stmts) (v ∷ []) ts mid → IsFunctionStub path name (as_stmts v)

pub function_is : (path name : List ℕ) (ts : List Lexeme) → Looks (function_forms path name) ts → FunctionIs path name ts
function_is path name ts looks =
    with_first (λ ls. FunctionIs path name (ls)) (k.Removed, None) ((k.ParenOpen, None) ∷ (k.Text, Some (codes "function")) ∷ (k.Comma, None) ∷ (k.Text, Some path) ∷ (k.Comma, None) ∷ (k.Text, Some name) ∷ (k.ParenClose, None) ∷ (k.Semi, None) ∷ (k.BraceClose, None) ∷ []) ts looks (λ a ra ka qa.
    with_first (λ ls. FunctionIs path name (a ∷ ls)) (k.ParenOpen, None) ((k.Text, Some (codes "function")) ∷ (k.Comma, None) ∷ (k.Text, Some path) ∷ (k.Comma, None) ∷ (k.Text, Some name) ∷ (k.ParenClose, None) ∷ (k.Semi, None) ∷ (k.BraceClose, None) ∷ []) ra qa (λ b rb kb qb.
    with_first (λ ls. FunctionIs path name (a ∷ b ∷ ls)) (k.Text, Some (codes "function")) ((k.Comma, None) ∷ (k.Text, Some path) ∷ (k.Comma, None) ∷ (k.Text, Some name) ∷ (k.ParenClose, None) ∷ (k.Semi, None) ∷ (k.BraceClose, None) ∷ []) rb qb (λ c rc kc qc.
    with_first (λ ls. FunctionIs path name (a ∷ b ∷ c ∷ ls)) (k.Comma, None) ((k.Text, Some path) ∷ (k.Comma, None) ∷ (k.Text, Some name) ∷ (k.ParenClose, None) ∷ (k.Semi, None) ∷ (k.BraceClose, None) ∷ []) rc qc (λ d rd kd qd.
    with_first (λ ls. FunctionIs path name (a ∷ b ∷ c ∷ d ∷ ls)) (k.Text, Some path) ((k.Comma, None) ∷ (k.Text, Some name) ∷ (k.ParenClose, None) ∷ (k.Semi, None) ∷ (k.BraceClose, None) ∷ []) rd qd (λ e re ke qe.
    with_first (λ ls. FunctionIs path name (a ∷ b ∷ c ∷ d ∷ e ∷ ls)) (k.Comma, None) ((k.Text, Some name) ∷ (k.ParenClose, None) ∷ (k.Semi, None) ∷ (k.BraceClose, None) ∷ []) re qe (λ f rf kf qf.
    with_first (λ ls. FunctionIs path name (a ∷ b ∷ c ∷ d ∷ e ∷ f ∷ ls)) (k.Text, Some name) ((k.ParenClose, None) ∷ (k.Semi, None) ∷ (k.BraceClose, None) ∷ []) rf qf (λ g rg kg qg.
    with_first (λ ls. FunctionIs path name (a ∷ b ∷ c ∷ d ∷ e ∷ f ∷ g ∷ ls)) (k.ParenClose, None) ((k.Semi, None) ∷ (k.BraceClose, None) ∷ []) rg qg (λ h rh kh qh.
    with_first (λ ls. FunctionIs path name (a ∷ b ∷ c ∷ d ∷ e ∷ f ∷ g ∷ h ∷ ls)) (k.Semi, None) ((k.BraceClose, None) ∷ []) rh qh (λ i ri ki qi.
    with_first (λ ls. FunctionIs path name (a ∷ b ∷ c ∷ d ∷ e ∷ f ∷ g ∷ h ∷ i ∷ ls)) (k.BraceClose, None) ([]) ri qi (λ j rj kj qj.
    λ v n m mid r. let same = same_first (unique (function_reads m a b c d e f g h i j rj ka.0 kb.0 kc.0 kd.0 ke.0 kf.0 kg.0 kh.0 ki.0 kj.0) r).0 in
    record { line = a.line; alone = ap as_stmts (sym same) ∙ (ap (λ t. one (y.removed t e.text (Some g.text) a.line)) kc.1 ∙ (ap (λ t. one (y.removed (codes "function") t (Some g.text) a.line)) ke.1 ∙ ap (λ t. one (y.removed (codes "function") path (Some t) a.line)) kg.1)) }))))))))))

abbrev FileIs : List ℕ → List Lexeme → Type 0
FileIs path ts = (v : Value) (n m : ℕ) (rest : List Lexeme) → Reads n m (part_of p.File) (v ∷ []) ts rest → IsFileStub path (as_stmts v)

pub file_is : (path : List ℕ) (ts : List Lexeme) → Looks (file_forms path) ts → FileIs path ts
file_is path ts looks =
    with_first (λ ls. FileIs path (ls)) (k.Removed, None) ((k.ParenOpen, None) ∷ (k.Text, Some (codes "file")) ∷ (k.Comma, None) ∷ (k.Text, Some path) ∷ (k.ParenClose, None) ∷ (k.Semi, None) ∷ (k.End, None) ∷ []) ts looks (λ a ra ka qa.
    with_first (λ ls. FileIs path (a ∷ ls)) (k.ParenOpen, None) ((k.Text, Some (codes "file")) ∷ (k.Comma, None) ∷ (k.Text, Some path) ∷ (k.ParenClose, None) ∷ (k.Semi, None) ∷ (k.End, None) ∷ []) ra qa (λ b rb kb qb.
    with_first (λ ls. FileIs path (a ∷ b ∷ ls)) (k.Text, Some (codes "file")) ((k.Comma, None) ∷ (k.Text, Some path) ∷ (k.ParenClose, None) ∷ (k.Semi, None) ∷ (k.End, None) ∷ []) rb qb (λ c rc kc qc.
    with_first (λ ls. FileIs path (a ∷ b ∷ c ∷ ls)) (k.Comma, None) ((k.Text, Some path) ∷ (k.ParenClose, None) ∷ (k.Semi, None) ∷ (k.End, None) ∷ []) rc qc (λ d rd kd qd.
    with_first (λ ls. FileIs path (a ∷ b ∷ c ∷ d ∷ ls)) (k.Text, Some path) ((k.ParenClose, None) ∷ (k.Semi, None) ∷ (k.End, None) ∷ []) rd qd (λ e re ke qe.
    with_first (λ ls. FileIs path (a ∷ b ∷ c ∷ d ∷ e ∷ ls)) (k.ParenClose, None) ((k.Semi, None) ∷ (k.End, None) ∷ []) re qe (λ h rh kh qh.
    with_first (λ ls. FileIs path (a ∷ b ∷ c ∷ d ∷ e ∷ h ∷ ls)) (k.Semi, None) ((k.End, None) ∷ []) rh qh (λ i ri ki qi.
    with_first (λ ls. FileIs path (a ∷ b ∷ c ∷ d ∷ e ∷ h ∷ i ∷ ls)) (k.End, None) ([]) ri qi (λ j rj kj qj.
    λ v n m rest r. let same = same_first (unique (file_reads m a b c d e a a h i j rj ka.0 kb.0 kc.0 kd.0 ke.0 kh.0 ki.0 kj.0) r).0 in
    record { line = a.line; alone = ap as_stmts (sym same) ∙ (ap (λ t. one (y.removed t e.text None a.line)) kc.1 ∙ ap (λ t. one (y.removed (codes "file") t None a.line)) ke.1) }))))))))
