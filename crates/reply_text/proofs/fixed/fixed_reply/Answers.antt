use Rattle.std.proofs.Common.{◌≡◌, ◌++◌, List, ℕ, Bool, true, false, [], length, take, not, ◌&&◌, if◌then◌else◌}
use Rattle.std.proofs.lemmas.Grind.{common_steps}
use Rattle.std.proofs.Common.{arith}
use Rattle.std.proofs.Math.Seq.{take-append_seam}
use Rattle.reply_text.specs.Fixed.{fixed_head, fixed_body, keeps_body}
use Rattle.reply_text.proofs.fixed.fixed_reply.Goals as goal

-- the front of two texts, where the back is left out
front_alone : (front back : List ℕ) (only keeps : Bool) → only ≡ true → keeps ≡ false → take (length front) (front ++ back) ≡ front ++ (if only && not keeps then [] else back)
front_alone front back only keeps o k = rw (o, k) (grind (arith, common_steps, take-append_seam front back))

pub returns-then-not-keeps_body : goal.returns-then-not-keeps_body
returns-then-not-keeps_body c =
    rw (c.split_at.ensures.front, c.whole.ensures, c.head_len.ensures)
    (front_alone (fixed_head c.args.end) (fixed_body c.args.end) c.args.head_only (keeps_body c.args.end) c.if-head_only.true (rw c.keeps_body.ensures at c.if-not-keeps_body.true))
