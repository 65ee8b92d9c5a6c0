use Rattle.std.proofs.Common.{◌≡◌, arith, ◌∙◌, ap}
use Rattle.less_terms.specs.Lines.{line_at, newlines}
use Rattle.php_lexer.proofs.MarkLemmas.{line_past}
use Rattle.php_lexer.proofs.state.Cursor.past.Goals as goal

pub invariant_of-result-clause-lined : goal.invariant_of-result-clause-lined
invariant_of-result-clause-lined c =
    let t = c.args.self.now.text.now in
    let i = c.args.self.now.at in
    let passed : c.count_newlines-passed.result ≡ newlines c.cut.result.now = c.count_newlines-passed.ensures in
    let cut_is = ap newlines c.cut.ensures in
    let here : c.args.self.now.line ≡ line_at t i = c.args.self.now.lined in
    let on = line_past t i c.args.len in
    omega (arith, passed ∙ cut_is, here, on)
