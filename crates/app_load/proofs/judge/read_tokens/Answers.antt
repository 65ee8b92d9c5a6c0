use Rattle.std.proofs.Common.{ap, ◌∙◌}
use Rattle.less_terms.specs.Lines.{line_at}
use Rattle.app_load.proofs.Verdicts.{lex_refused}
use Rattle.app_load.proofs.judge.read_tokens.Goals as goal

pub returns-in-Err-At-clause-fault : goal.returns-in-Err-At-clause-fault
returns-in-Err-At-clause-fault c = λ path. rw c.in-Err-At.kind-is (lex_refused c.args.setting c.args.text.now c.in-Err-At.place c.in-Err-At.kind c.in-Err-At.field-0 c.line_of.result c.requires c.in-Err-At.field-0-is c.in-Err-At.ensures.fault (c.line_of.ensures ∙ ap (line_at c.args.text.now) c.in-Err-At.place-is) path)
