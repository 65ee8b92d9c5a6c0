use Rattle.std.proofs.Common.{rules, ◌≡◌, ◌<◌, ◌≤◌, ◌+◌, ◌-◌, ◌∷◌, None, Some, true, false, refl, ◌∙◌, ap, arith}
use Rattle.std.proofs.lemmas.Result.{err_from_is_err_and}
use Rattle.php_grammar.specs.Grammar as grammar
use Rattle.php_grammar.specs.Grammar.{choose, steps, weight}
use Rattle.php_grammar.specs.Reads.{peek}
use Rattle.php_reading.specs.declared.waiting.Waiting.TheVariants.{Tail}
use Rattle.php_reading.specs.Fronts.{closing}
use Rattle.php_reading.specs.Reading.{before_part}
use Rattle.php_reading.proofs.Levels.{level_alone, level_deep, level_stopped, operand_nearer, steps_nearer}
use Rattle.php_reading.proofs.Rules.{unruled, stopped_into, front_nearer}
use Rattle.php_reader.proofs.Steps.{among_none, among_more, among_stopped, front_read, down_stopped, down_made, down_into, down_nearer, down_next, down_read, level_read, level_broken, sub_ok, sub_err}
use Rattle.php_grammar.specs.declared.part.Context.TheVariants.{InFull}
use Rattle.php_grammar.specs.declared.part.Part.TheVariants.{Level}
use Rattle.php_reader.specs.Levels.{rank}
use Rattle.php_reader.proofs.Outwards.{prim_ruled, prim_near, unary_ok, unary_err, first_nearer, beginning_ruled, out_never, out_quiet, out_deep, operators_nearer, out_broken, out_whole, out_more}
use Rattle.php_reader.proofs.reader.Reader.+part.Goals as goal

pub descend-returns-in_default-clause-err : goal.descend-returns-in_default-clause-err
descend-returns-in_default-clause-err g t c =
    let e : choose c.down.part (peek (g.P.Pieces.left c.down.self.pieces)) ≡ None = cc in
    unruled c.down.invariant.on c.down.invariant.plain e

pub descend-read_front-requires : goal.descend-read_front-requires
descend-read_front-requires g t c κs within =
    let e : choose c.down.part (peek (g.P.Pieces.left c.down.self.pieces)) ≡ Some c.in-Some.rule = cc in
    let n = front_nearer c.down.part c.in-Some.rule (g.P.Pieces.left c.down.self.pieces) e in let m = c.down.invariant.near in
    (omega arith, within)

pub descend-returns-in_err-read_front-clause-err : goal.descend-returns-in_err-read_front-clause-err
descend-returns-in_err-read_front-clause-err g t c =
    let p = err_from_is_err_and c.from_residual-in_err-read_front.result c.from_residual-in_err-read_front.ensures.1 in
    let e : choose c.down.part (peek (g.P.Pieces.left c.down.self.pieces)) ≡ Some c.in-Some.rule = cc in
    let b : c.saturating_sub-budget.result ≡ c.down.budget - weight c.in-Some.rule = cc in
    rw (p.1, p.2) (down_stopped c.in-Some.rule _ _ c.down.invariant e b c.in_err-read_front.ensures.err)

pub descend-returns-in_default-tail-clause-ok : goal.descend-returns-in_default-tail-clause-ok
descend-returns-in_default-tail-clause-ok g t c =
    let e : choose c.down.part (peek (g.P.Pieces.left c.down.self.pieces)) ≡ Some c.in-Some.rule = cc in
    let b : c.saturating_sub-budget.result ≡ c.down.budget - weight c.in-Some.rule = cc in
    let n : closing c.in-Some.rule ≡ None = cc in
    down_made c.in-Some.rule _ _ _ _ _ c.down.invariant e b c.in_ok-read_front.ensures.ok n c.min-lowest.ensures c.reduce.ensures.left c.in_ok-reduce.ensures.made c.in_ok-read_front.ensures.waiting

pub descend-read-requires : goal.descend-read-requires
descend-read-requires g t c κs within =
    let e : choose c.down.part (peek (g.P.Pieces.left c.down.self.pieces)) ≡ Some c.in-Some.rule = cc in
    let n : closing c.in-Some.rule ≡ Some c.in-Some-tail.last = cc in
    let l = down_nearer c.in-Some.rule c.in-Some-tail.last c.down.invariant e c.in_ok-read_front.ensures.ok n in let m = c.down.invariant.near in
    (omega arith, within)

pub descend-returns-in_err-read-clause-err : goal.descend-returns-in_err-read-clause-err
descend-returns-in_err-read-clause-err g t c =
    let p = err_from_is_err_and c.from_residual-in_err-read.result c.from_residual-in_err-read.ensures.1 in
    let e : choose c.down.part (peek (g.P.Pieces.left c.down.self.pieces)) ≡ Some c.in-Some.rule = cc in
    let b : c.saturating_sub-budget.result ≡ c.down.budget - weight c.in-Some.rule = cc in
    let n : closing c.in-Some.rule ≡ Some c.in-Some-tail.last = cc in
    let w : c.push-in-down.new.self ≡ Tail c.in-Some.rule ∷ c.down.self.waiting = c.in_ok-push-2.ensures.ok ∙ ap (λ x. Tail c.in-Some.rule ∷ x) c.in_ok-read_front.ensures.waiting in
    rw (p.1, p.2) (stopped_into _ (down_into c.in-Some.rule _ c.in-Some-tail.last _ _ c.down.invariant e b c.in_ok-read_front.ensures.ok n c.min-lowest.ensures w) c.in_err-read.ensures.err)

pub descend-returns-in-Some-operand-clause-ok : goal.descend-returns-in-Some-operand-clause-ok
descend-returns-in-Some-operand-clause-ok g t c =
    let e : choose c.down.part (peek (g.P.Pieces.left c.down.self.pieces)) ≡ Some c.in-Some.rule = cc in
    let b : c.saturating_sub-budget.result ≡ c.down.budget - weight c.in-Some.rule = cc in
    let n : closing c.in-Some.rule ≡ Some c.in-Some-tail.last = cc in
    let w : c.push-in-down.new.self ≡ Tail c.in-Some.rule ∷ c.down.self.waiting = c.in_ok-push-2.ensures.ok ∙ ap (λ x. Tail c.in-Some.rule ∷ x) c.in_ok-read_front.ensures.waiting in
    down_read _ _ (down_into c.in-Some.rule _ c.in-Some-tail.last _ _ c.down.invariant e b c.in_ok-read_front.ensures.ok n c.min-lowest.ensures w) c.in_ok-read.ensures.ok c.min.ensures c.in_ok-read.ensures.waiting

pub descend-down-smaller : goal.descend-down-smaller
descend-down-smaller g t c =
    let e : choose c.down.part (peek (g.P.Pieces.left c.down.self.pieces)) ≡ Some c.in-Some.rule = cc in
    let n : closing c.in-Some.rule ≡ Some c.in-Some-tail.last = cc in
    let l = down_nearer c.in-Some.rule c.in-Some-tail.last c.down.invariant e c.in_ok-read_front.ensures.ok n in omega arith

pub descend-down-preserved : goal.descend-down-preserved
descend-down-preserved g t c =
    let e : choose c.down.part (peek (g.P.Pieces.left c.down.self.pieces)) ≡ Some c.in-Some.rule = cc in
    let b : c.saturating_sub-budget.result ≡ c.down.budget - weight c.in-Some.rule = cc in
    let n : closing c.in-Some.rule ≡ Some c.in-Some-tail.last = cc in
    let w : c.push-in-down.new.self ≡ Tail c.in-Some.rule ∷ c.down.self.waiting = c.in_ok-push-2.ensures.ok ∙ ap (λ x. Tail c.in-Some.rule ∷ x) c.in_ok-read_front.ensures.waiting in
    let o : grammar.operand c.in-Some-tail.last ≡ None = cc in
    down_next c.in-Some.rule _ c.in-Some-tail.last _ _ c.down.invariant e b c.in_ok-read_front.ensures.ok n c.min-lowest.ensures w o

pub read_all-symbol-init : goal.read_all-symbol-init
read_all-symbol-init g t c = (among_none _ _ _ _, refl)

pub read_all-returns-in_err-read_symbol-clause-err : goal.read_all-returns-in_err-read_symbol-clause-err
read_all-returns-in_err-read_symbol-clause-err g t c =
    let p = err_from_is_err_and c.from_residual.result c.from_residual.ensures.1 in
    let e : c.symbol.symbols.now ≡ c.in-Some.first.now ∷ c.in-Some.others.now = search rules in
    rw (p.1, p.2) (among_stopped c.in-Some.first.now c.in-Some.others.now _ c.symbol.invariant.0 e c.in_err-read_symbol.ensures.err)

pub read_all-symbol-preserved : goal.read_all-symbol-preserved
read_all-symbol-preserved g t c =
    let e : c.symbol.symbols.now ≡ c.in-Some.first.now ∷ c.in-Some.others.now = search rules in
    (among_more c.in-Some.first.now c.in-Some.others.now _ c.symbol.invariant.0 e c.in_ok-read_symbol.ensures.ok c.min-lowest.ensures, c.in_ok-read_symbol.ensures.waiting ∙ c.symbol.invariant.1)

pub read_front-returns-clause-ok : goal.read_front-returns-clause-ok
read_front-returns-clause-ok g t c = front_read c.args.rule _ _ c.in_ok-low.ensures.ok c.middle.ensures c.in_ok-lower.ensures.ok c.min.ensures

pub read_level-read-requires : goal.read_level-read-requires
read_level-read-requires g t c κs within =
    let l = operand_nearer (g.P.Pieces.left c.args.self.now.pieces) c.args.part c.args.first c.requires in (omega arith, within)

pub read_level-returns-in_err-low-clause-err : goal.read_level-returns-in_err-low-clause-err
read_level-returns-in_err-low-clause-err g t c =
    let p = err_from_is_err_and c.from_residual.result c.from_residual.ensures.1 in
    rw (p.1, p.2) (level_stopped _ c.requires c.in_err-low.ensures.err)

pub read_level-returns-then-not-goes_on-clause-ok : goal.read_level-returns-then-not-goes_on-clause-ok
read_level-returns-then-not-goes_on-clause-ok g t c =
    let n : grammar.goes_on c.args.part (peek (g.P.Pieces.left c.read.new.self.pieces)) ≡ false = cc in
    level_alone c.requires c.in_ok-low.ensures.ok n

pub read_level-returns-then-low-eq0-clause-err : goal.read_level-returns-then-low-eq0-clause-err
read_level-returns-then-low-eq0-clause-err g t c =
    let y : grammar.goes_on c.args.part (peek (g.P.Pieces.left c.read.new.self.pieces)) ≡ true = cc in
    level_deep c.requires c.in_ok-low.ensures.ok y c.if-low-eq0.true

pub read_level-read-requires-2 : goal.read_level-read-requires-2
read_level-read-requires-2 g t c κs within =
    let l = steps_nearer c.args.part c.requires c.in_ok-low.ensures.ok in
    let k : before_part (g.P.Pieces.left c.read.new.self.pieces) c.steps.result + 8 ≤ before_part (g.P.Pieces.left c.args.self.now.pieces) c.args.part = rw c.steps.ensures l in
    (omega arith, within)

pub read_level-returns-in_err-lower-clause-err : goal.read_level-returns-in_err-lower-clause-err
read_level-returns-in_err-lower-clause-err g t c =
    let p = err_from_is_err_and c.from_residual-in_err-lower.result c.from_residual-in_err-lower.ensures.1 in
    let y : grammar.goes_on c.args.part (peek (g.P.Pieces.left c.read.new.self.pieces)) ≡ true = cc in
    let l : 0 < c.in_ok-low.low = omega arith in
    rw (p.1, p.2) (level_broken c.steps.result _ c.requires c.in_ok-low.ensures.ok y l c.steps.ensures c.in_err-lower.ensures.err)

pub read_level-returns-clause-ok : goal.read_level-returns-clause-ok
read_level-returns-clause-ok g t c =
    let y : grammar.goes_on c.args.part (peek (g.P.Pieces.left c.read.new.self.pieces)) ≡ true = cc in
    let l : 0 < c.in_ok-low.low = omega arith in
    level_read _ c.steps.result _ _ _ c.requires c.in_ok-low.ensures.ok y l refl c.steps.ensures c.in_ok-lower.ensures.ok c.min.ensures c.join.ensures.left c.in_ok-join.ensures.made

pub read_symbol-returns-in-Sub-clause-ok : goal.read_symbol-returns-in-Sub-clause-ok
read_symbol-returns-in-Sub-clause-ok g t c =
    sub_ok c.args.budget c.in-Sub.part (g.P.Pieces.left c.args.self.now.pieces) (g.P.Pieces.values c.args.self.now.pieces) (g.P.Pieces.left c.read.new.self.pieces) (g.P.Pieces.values c.read.new.self.pieces)
    c.args.symbol c.read.result c.in-Sub.is c.read.ensures.ok

pub read_symbol-returns-in-Sub-clause-err : goal.read_symbol-returns-in-Sub-clause-err
read_symbol-returns-in-Sub-clause-err g t c =
    sub_err c.args.budget c.in-Sub.part (g.P.Pieces.left c.args.self.now.pieces) (g.P.Pieces.left c.read.new.self.pieces) c.args.symbol c.read.result c.in-Sub.is c.read.ensures.err

pub read_first-read_ruled-requires : goal.read_first-read_ruled-requires
read_first-read_ruled-requires g t c κs within =
    let l = prim_near (g.P.Pieces.left c.args.self.now.pieces) c.args.part in (omega arith, (within, prim_ruled))

pub read_first-returns-then-not-is_prefix-clause-ok : goal.read_first-returns-then-not-is_prefix-clause-ok
read_first-returns-then-not-is_prefix-clause-ok g t c =
    let n = c.is_prefix.ensures (search rules) in
    unary_ok c.args.budget c.args.part c.peek.result _ _ _ _ _ c.in-UnaryPart.is c.peek.ensures n c.read_ruled.ensures.ok

pub read_first-returns-then-not-is_prefix-clause-err : goal.read_first-returns-then-not-is_prefix-clause-err
read_first-returns-then-not-is_prefix-clause-err g t c =
    let n = c.is_prefix.ensures (search rules) in
    unary_err c.args.budget c.args.part c.peek.result _ _ _ c.in-UnaryPart.is c.peek.ensures n c.read_ruled.ensures.err

pub read_full-read_first-requires : goal.read_full-read_first-requires
read_full-read_first-requires g t c κs within =
    let l = first_nearer c.args.top c.peek.result c.inmost-level.result (g.P.Pieces.left c.args.self.now.pieces) c.inmost-level.ensures in
    let k : before_part (g.P.Pieces.left c.args.self.now.pieces) c.beginning.result + 8 ≤ before_part (g.P.Pieces.left c.args.self.now.pieces) (Level InFull c.args.top) = rw c.beginning.ensures l in
    let n : grammar.operand c.beginning.result ≡ None = rw c.beginning.ensures (beginning_ruled c.inmost-level.result) in
    (omega arith, (within, n))

pub read_full-returns-in_err-low-clause-err : goal.read_full-returns-in_err-low-clause-err
read_full-returns-in_err-low-clause-err g t c =
    let p = err_from_is_err_and c.from_residual.result c.from_residual.ensures.1 in
    rw (p.1, p.2) (out_never c.inmost-level.result c.beginning.result _ c.peek.ensures c.inmost-level.ensures c.beginning.ensures c.in_err-low.ensures.err)

pub read_full-returns-in_default-clause-ok : goal.read_full-returns-in_default-clause-ok
read_full-returns-in_default-clause-ok g t c =
    out_quiet c.peek-in-outwards.result c.outwards.invariant.0 c.peek-in-outwards.ensures (c.going_on.ensures.none (search rules))

pub read_full-returns-then-low-eq0-clause-err : goal.read_full-returns-then-low-eq0-clause-err
read_full-returns-then-low-eq0-clause-err g t c =
    out_deep c.in-Some.at c.peek-in-outwards.result c.outwards.invariant.0 c.peek-in-outwards.ensures c.in-Some.ensures.some c.if-low-eq0.true

pub read_full-read-requires : goal.read_full-read-requires
read_full-read-requires g t c κs within =
    let l = operators_nearer c.in-Some.at c.outwards.invariant.0 in (omega arith, within)

pub read_full-returns-in_err-lower-clause-err : goal.read_full-returns-in_err-lower-clause-err
read_full-returns-in_err-lower-clause-err g t c =
    let p = err_from_is_err_and c.from_residual-in_err-lower.result c.from_residual-in_err-lower.ensures.1 in
    let l : 0 < c.outwards.low = omega arith in
    rw (p.1, p.2) (out_broken c.in-Some.at _ c.peek-in-outwards.result c.outwards.invariant.0 c.peek-in-outwards.ensures c.in-Some.ensures.some l c.in_err-lower.ensures.err)

pub read_full-returns-then-rank-clause-ok : goal.read_full-returns-then-rank-clause-ok
read_full-returns-then-rank-clause-ok g t c =
    let l : 0 < c.outwards.low = omega arith in
    let a = c.rank.ensures in let b = c.rank-in-outwards.ensures in let d = c.if-rank.true in
    let e : rank c.in-Some.at ≡ rank c.args.top = omega arith in
    out_whole c.in-Some.at c.peek-in-outwards.result _ _ _ c.outwards.invariant.0 c.peek-in-outwards.ensures c.in-Some.ensures.some l c.in_ok-lower.ensures.ok e c.min-low.ensures c.join.ensures.left c.in_ok-join.ensures.made

pub read_full-outwards-preserved : goal.read_full-outwards-preserved
read_full-outwards-preserved g t c =
    let l : 0 < c.outwards.low = omega arith in
    let a = c.rank.ensures in let b = c.rank-in-outwards.ensures in let d = c.if-rank.false in
    let e : rank c.in-Some.at ≡ rank c.args.top → ⊥ = λ x. omega arith in (
      out_more c.in-Some.at c.peek-in-outwards.result _ _ _ _ c.outwards.invariant.0 c.peek-in-outwards.ensures c.in-Some.ensures.some l c.in_ok-lower.ensures.ok e c.outer-level.ensures c.min-low.ensures c.join.ensures.left c.in_ok-join.ensures.made,
      c.in_ok-lower.ensures.waiting ∙ c.outwards.invariant.1,
    )
