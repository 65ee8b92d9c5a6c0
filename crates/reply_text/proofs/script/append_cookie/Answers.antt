use Rattle.std.proofs.Common.{append_assoc}
use Rattle.reply_text.specs.Replies.{cookie_line}
use Rattle.reply_text.proofs.script.append_cookie.Goals as goal

pub returns : goal.returns
unfolding cookie_line
returns c =
    rw (c.in-Some.is, c.in_ok-extend_from_slice-3.ensures.items, c.in_ok-extend_from_slice-2.ensures.items, c.as_bytes.ensures.value, c.in_ok-extend_from_slice.ensures.items)
    (simp append_assoc)
