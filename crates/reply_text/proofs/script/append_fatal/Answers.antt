use Rattle.std.proofs.Common.{append_assoc}
use Rattle.reply_text.specs.Replies.{fatal_line}
use Rattle.reply_text.proofs.script.append_fatal.Goals as goal

pub returns : goal.returns
unfolding fatal_line
returns c =
    rw (c.in_ok-extend_from_slice-7.ensures.items, c.in_ok-extend_from_slice-6.ensures.items, c.in_ok-extend_from_slice-5.ensures.items, c.in_ok-extend_from_slice-4.ensures.items)
    (rw (c.in_ok-extend_from_slice-3.ensures.items, c.in_ok-extend_from_slice-2.ensures.items, c.in_ok-extend_from_slice.ensures.items, c.as_bytes.ensures.value, c.as_bytes-2.ensures.value, c.as_bytes-3.ensures.value, c.format.ensures.text)
    (simp append_assoc))
