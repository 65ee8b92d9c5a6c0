use Rattle.std.proofs.Common.{◌≡◌, ◌++◌, take}
use Rattle.reply_text.specs.Replies.{other_lines}
use Rattle.reply_text.proofs.script.append_headers.Given as goal

abbrev pub invariant-loop-header : goal.invariant-loop-header
invariant-loop-header l = l.out.items ≡ l.initial.out.items ++ other_lines (take l.header-index l.headers)
