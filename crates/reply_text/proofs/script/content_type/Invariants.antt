use Rattle.std.proofs.Common.{◌≡◌, take}
use Rattle.reply_text.specs.Replies.{content_type}
use Rattle.reply_text.proofs.script.content_type.Given as goal

abbrev pub invariant-loop-header : goal.invariant-loop-header
invariant-loop-header l = l.found ≡ content_type (take l.header-index l.headers)
