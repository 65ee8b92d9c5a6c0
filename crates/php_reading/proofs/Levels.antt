-- A level of operators: alone, or going on with its steps.
use Rattle.std.proofs.Common.{◌≡◌, ℕ, suc, ◌+◌, ◌-◌, ◌<◌, ◌≤◌, max, min, true, false, List, Some, refl, arith}
use Rattle.php_grammar.specs.declared.token.Fault.TheVariants.{Deep}
use Rattle.php_grammar.specs.declared.part.Part.{Part}
use Rattle.php_grammar.specs.declared.lexeme.Lexeme.{Lexeme}
use Rattle.php_grammar.specs.Values.{Value}
use Rattle.php_grammar.specs.Grammar.{steps, operand, goes_on}
use Rattle.php_grammar.specs.Act.{link}
use Rattle.php_grammar.specs.Reads.{peek}
use Rattle.php_grammar.specs.Run.{alone, first_fault, chain_deep, chain}
use Rattle.php_grammar.proofs.Facts.{solid_level}
use Rattle.php_grammar.proofs.Closing.{solid_reads}
use Rattle.php_grammar.proofs.Sound.{sound}
use Rattle.php_grammar.proofs.Bounds.{low_reach, operand_reach}
use Rattle.php_reading.specs.declared.stop.Stop.{Stop}
use Rattle.php_reading.specs.declared.stop.Stop.TheVariants.{At, Memory}
use Rattle.php_pieces.specs.Stacks.{linked_on}
use Rattle.php_reading.specs.Reading.{before_part, HasRead, HasStopped}

pub level_alone : {d low : ℕ} {a b : Part} {ts rest : List Lexeme} {vs vs' : List Value}
    → operand a ≡ Some b → HasRead d b ts vs low rest vs' → goes_on a (peek rest) ≡ false → HasRead d a ts vs low rest vs'
level_alone o x n = record { height = x.height; value = x.value; run = alone o x.run n; on_top = x.on_top; lowest = x.lowest }

pub level_chain : {d low low' : ℕ} {a b : Part} {ts mid rest : List Lexeme} {vs vs' vs'' : List Value}
    → operand a ≡ Some b → HasRead d b ts vs low mid vs' → goes_on a (peek mid) ≡ true → 0 < low
    → HasRead (d - 1) (steps a) mid vs' low' rest vs'' → HasRead d a ts vs (min low' (low - 1)) rest (linked_on vs'')
level_chain {d = d} o x y l z = record {
  height = suc (max x.height z.height);
  value = link x.value z.value;
  run = let k : x.height < d = (let e = x.lowest in omega arith) in chain o x.run y k z.run;
  on_top = rw (z.on_top, x.on_top) refl;
  lowest = let e = x.lowest in let f = z.lowest in omega arith;
}

pub level_deep : {d low : ℕ} {a b : Part} {ts rest : List Lexeme} {vs vs' : List Value}
    → operand a ≡ Some b → HasRead d b ts vs low rest vs' → goes_on a (peek rest) ≡ true → low ≡ 0 → HasStopped d a ts (At Deep) rest
level_deep {d = d} o x y z = let k : d ≤ x.height = (let e = x.lowest in omega arith) in record { why = chain_deep o x.run y k }

pub level_stopped : {d : ℕ} {a b : Part} {ts rest : List Lexeme} (s : Stop) → operand a ≡ Some b → HasStopped d b ts s rest → HasStopped d a ts s rest
level_stopped (At f) o x = record { why = first_fault o x.why }
level_stopped Memory o x = record { why = tt }

pub steps_stopped : {d low : ℕ} {a b : Part} {ts mid rest : List Lexeme} {vs vs' : List Value} (s : Stop)
    → operand a ≡ Some b → HasRead d b ts vs low mid vs' → goes_on a (peek mid) ≡ true → 0 < low → HasStopped (d - 1) (steps a) mid s rest → HasStopped d a ts s rest
steps_stopped {d = d} (At f) o x y l z = let k : x.height < d = (let e = x.lowest in omega arith) in record { why = chain o x.run y k z.why }
steps_stopped Memory o x y l z = record { why = tt }

-- ---- how much is left

pub operand_nearer : (ts : List Lexeme) (a b : Part) → operand a ≡ Some b → before_part ts b + 8 ≤ before_part ts a
operand_nearer ts a b o = let l = operand_reach a b o in omega arith

pub steps_nearer : {d low : ℕ} (a : Part) {b : Part} {ts rest : List Lexeme} {vs vs' : List Value} → operand a ≡ Some b → HasRead d b ts vs low rest vs'
    → before_part rest (steps a) + 8 ≤ before_part ts a
steps_nearer a o x =
    let s = sound x.run in let l = solid_reads (s.read 0) (solid_level _ _ o).1 in let m = low_reach (steps a) in omega arith
