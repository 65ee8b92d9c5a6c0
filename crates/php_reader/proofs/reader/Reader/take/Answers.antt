use Rattle.std.proofs.Common.{rules, ◌≡◌, ◌<◌, true, false, sym, ◌∙◌, arith}
use denote.Enum.Bare.{differs_true, differs_false}
use Rattle.php_grammar.specs.contracts.token.Kind.{the_type}
use Rattle.php_grammar.specs.Reads.{peek}
use Rattle.php_reading.specs.Reading.{is_empty}
use Rattle.php_reading.proofs.Symbols.{at_end, at_other, at_deep, at_token}
use Rattle.php_reader.proofs.reader.Reader.take.Goals as goal

pub returns-then-is_at_end-clause-err : goal.returns-then-is_at_end-clause-err
returns-then-is_at_end-clause-err g c =
    let e : is_empty (g.P.Pieces.left c.args.self.now.pieces) ≡ true = cc in at_end c.args.budget c.args.kind _ e

pub returns-then-ne-clause-err : goal.returns-then-ne-clause-err
returns-then-ne-clause-err g c =
    let e : is_empty (g.P.Pieces.left c.args.self.now.pieces) ≡ false = cc in
    let n : peek (g.P.Pieces.left c.args.self.now.pieces) ≡ c.args.kind → ⊥ = λ x. differs_true the_type c.peek.result c.args.kind (sym c.ne.ensures ∙ c.if-ne.true) (c.peek.ensures ∙ x) in
    at_other c.args.budget c.args.kind _ e n

pub returns-then-budget-eq0-clause-err : goal.returns-then-budget-eq0-clause-err
returns-then-budget-eq0-clause-err g c =
    let e : is_empty (g.P.Pieces.left c.args.self.now.pieces) ≡ false = cc in
    let n : peek (g.P.Pieces.left c.args.self.now.pieces) ≡ c.args.kind = sym c.peek.ensures ∙ differs_false the_type (search rules) c.peek.result c.args.kind (sym c.ne.ensures ∙ c.if-ne.false) in
    at_deep c.args.budget c.args.kind _ e n c.if-budget-eq0.true

pub returns-clause-ok : goal.returns-clause-ok
returns-clause-ok g c =
    let e : is_empty (g.P.Pieces.left c.args.self.now.pieces) ≡ false = cc in
    let n : peek (g.P.Pieces.left c.args.self.now.pieces) ≡ c.args.kind = sym c.peek.ensures ∙ differs_false the_type (search rules) c.peek.result c.args.kind (sym c.ne.ensures ∙ c.if-ne.false) in
    let l : 0 < c.args.budget = omega arith in at_token c.args.budget c.args.kind _ _ e n l c.in_ok-take.ensures
