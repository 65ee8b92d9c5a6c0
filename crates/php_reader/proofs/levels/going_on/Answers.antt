use Rattle.std.proofs.Common.{rules, ◌≡◌, ◌<◌, ◌≤◌, Some, None, sym, ◌∙◌, arith}
use Rattle.php_reader.specs.Levels.{rank, level_at}
use Rattle.php_reader.proofs.Outwards.{quiet_all, quiet_after, quiet_below, goes_at}
use Rattle.php_reader.proofs.levels.going_on.Goals as goal

pub returns-in_default-clause-none : goal.returns-in_default-clause-none
returns-in_default-clause-none c =
    let n : c.level_at.result ≡ None = search rules in λ i. quiet_all c.args.from c.args.top c.args.kind (sym c.level_at.ensures ∙ n)

pub returns-then-rank-clause-none : goal.returns-then-rank-clause-none
returns-then-rank-clause-none c =
    let e : level_at c.args.kind ≡ Some c.in-Some.at = sym c.level_at.ensures ∙ c.in-Some.is in
    let a = c.rank.ensures in let b = c.rank-2.ensures in let d = c.if-rank.true in
    let h : rank c.in-Some.at < rank c.args.from = omega arith in λ i. quiet_after c.args.from c.args.top c.args.kind c.in-Some.at e h

pub returns-then-rank-2-clause-none : goal.returns-then-rank-2-clause-none
returns-then-rank-2-clause-none c =
    let e : level_at c.args.kind ≡ Some c.in-Some.at = sym c.level_at.ensures ∙ c.in-Some.is in
    let a = c.rank-3.ensures in let b = c.rank-4.ensures in let d = c.if-rank-2.true in
    let h : rank c.args.top < rank c.in-Some.at = omega arith in λ i. quiet_below c.args.from c.args.top c.args.kind c.in-Some.at e h

pub returns-clause-some : goal.returns-clause-some
returns-clause-some c =
    let e : level_at c.args.kind ≡ Some c.in-Some.at = sym c.level_at.ensures ∙ c.in-Some.is in
    let a = c.rank.ensures in let b = c.rank-2.ensures in let d = c.if-rank.false in
    let f = c.rank-3.ensures in let g = c.rank-4.ensures in let h = c.if-rank-2.false in
    let i : rank c.args.from ≤ rank c.in-Some.at = omega arith in
    let j : rank c.in-Some.at ≤ rank c.args.top = omega arith in goes_at c.args.from c.args.top c.args.kind c.in-Some.at e i j
