-- A file that has been read, or where it stops.
use Rattle.std.proofs.Common.{◌≡◌, ℕ, ◌-◌, ◌≤◌, List, [], ◌∷◌, length, Some, true, false, refl, ap, ◌∙◌, subst, length-append, arith}
use Rattle.php_tree.specs.Statements.{Statements}
use Rattle.php_grammar.specs.declared.token.Kind.{Kind}
use Rattle.php_grammar.specs.declared.token.Kind.TheVariants.{End}
use Rattle.php_grammar.specs.declared.token.Fault.{Fault}
use Rattle.php_grammar.specs.declared.token.Fault.TheVariants.{Bad}
use Rattle.php_grammar.specs.declared.part.Part.TheVariants.{File as file, Stmts as stmts}
use Rattle.php_grammar.specs.declared.part.Symbol.TheVariants.{Tok as tok, Sub as sub}
use Rattle.php_grammar.specs.declared.part.Rule.{Rule}
use Rattle.php_grammar.specs.declared.part.Rule.TheVariants.{Whole as whole}
use Rattle.php_grammar.specs.declared.lexeme.Lexeme.{Lexeme}
use Rattle.php_grammar.specs.Values.{Value, leaf, stmts_of, as_stmts}
use Rattle.php_grammar.specs.Grammar.{choose, production}
use Rattle.php_grammar.specs.Act.{act}
use Rattle.php_grammar.specs.Reads.{part_of, seq, Reads, done, token, part, rule, alone, chain}
use Rattle.php_grammar.specs.Place.{budget, IsFault}
use Rattle.php_grammar.proofs.Laws.{regoal}
use Rattle.php_grammar.proofs.Facts.{level_unruled}
use Rattle.php_grammar.proofs.Sound.{sound}
use Rattle.php_grammar.proofs.Judge.{is_tree, is_left, is_fault}
use Rattle.php_grammar.specs.Run.{got, Run}
use Rattle.php_reading.specs.declared.stop.Stop.TheVariants.{At}
use Rattle.php_reading.specs.Reading.{is_empty, HasRead, HasStopped}
use Rattle.php_reading.specs.File.{IsFileRead}
use Rattle.php_reading.proofs.Symbols.{run_fewer}

file_rule : (k : Kind) → choose file k ≡ Some whole
unfolding choose
file_rule k = refl

only_whole : (k : Kind) (r : Rule) → choose file k ≡ Some r → r ≡ whole
only_whole k r e = let d = file_rule k in cc

whole_is : production whole ≡ sub stmts ∷ tok End ∷ []
unfolding production
whole_is = refl

whole_act : (v : Value) (t : Lexeme) → act whole (v ∷ leaf t ∷ []) ≡ stmts_of (as_stmts v)
unfolding act
whole_act v t = refl

two_values : {d m : ℕ} {vs : List Value} {ts rest : List Lexeme} → Reads d m (seq (sub stmts ∷ tok End ∷ [])) vs ts rest → (tree : Statements ℕ) × (act whole vs ≡ stmts_of tree)
two_values (part {v = v} r (token {t = t} e ok done)) = (as_stmts v, whole_act v t)

file_value : {d m : ℕ} {vs : List Value} {ts rest : List Lexeme} → Reads d m (part_of file) vs ts rest → (tree : Statements ℕ) × (vs ≡ stmts_of tree ∷ [])
file_value (rule {r = x} {vs = us} c r) =
    let e = only_whole _ x c in
    let s = regoal r (ap (λ y. seq (production y)) e ∙ ap seq whole_is) in
    let v = two_values s in (v.0, ap (λ u. u ∷ []) (ap (λ y. act y us) e ∙ v.1))
file_value (alone o r n) = absurd (level_unruled _ _ End whole o (file_rule End))
file_value (chain o r y s) = absurd (level_unruled _ _ End whole o (file_rule End))

-- a file is read to its end
pub file_read : (ts : List Lexeme) (vs : List Value) {low : ℕ} (rest : List Lexeme) {vs' : List Value} → HasRead budget file ts vs low rest vs' → is_empty rest ≡ true → IsFileRead ts vs vs'
file_read ts vs [] x e =
    let g = sound x.run in let v = file_value (g.read 0) in
    let w : x.value ≡ stmts_of v.0 = cc in
    record {
      tree = v.0;
      on_top = x.on_top ∙ ap (λ u. u ∷ vs) w;
      is_tree = is_tree v.0 x.height ts (subst (λ u. Run budget (part_of file) ts (got (u ∷ []) x.height [])) w x.run);
    }
file_read ts vs (t ∷ rest) x e = absurd cc

-- something is left
pub file_left : (ts : List Lexeme) (vs : List Value) {low : ℕ} (rest : List Lexeme) {vs' : List Value} → HasRead budget file ts vs low rest vs' → is_empty rest ≡ false → IsFault ts (length ts - length rest) Bad
file_left ts vs [] x e = absurd cc
file_left ts vs (t ∷ rest) x e = is_left x.value x.height ts rest t x.run

pub file_stopped : (ts : List Lexeme) (f : Fault) (rest : List Lexeme) → HasStopped budget file ts (At f) rest → IsFault ts (length ts - length rest) f
file_stopped ts f rest x = is_fault f ts rest x.why

-- ---- no more tokens are left than there were

pub read_fewer : {low : ℕ} (ts : List Lexeme) {vs : List Value} (rest : List Lexeme) {vs' : List Value} → HasRead budget file ts vs low rest vs' → length rest ≤ length ts
read_fewer ts rest x = run_fewer x.run

pub stopped_fewer : (ts : List Lexeme) (f : Fault) (rest : List Lexeme) → HasStopped budget file ts (At f) rest → length rest ≤ length ts
stopped_fewer ts f rest x = let s = sound x.why in let l = length-append s.pre rest in let n = ap length s.eq in omega arith
