use Rattle.std.specs.Fmt.{digits}
use Rattle.reply_text.specs.Replies.{head_front, head_back}
use Rattle.reply_text.proofs.fixed.head_len.Goals as goal

pub returns-in-BadRequest : goal.returns-in-BadRequest
unfolding digits head_front head_back
returns-in-BadRequest c = rw c.in-BadRequest.is

pub returns-in-NoLength : goal.returns-in-NoLength
unfolding digits head_front head_back
returns-in-NoLength c = rw c.in-NoLength.is

pub returns-in-TooLarge : goal.returns-in-TooLarge
unfolding digits head_front head_back
returns-in-TooLarge c = rw c.in-TooLarge.is

pub returns-in-NotImplemented : goal.returns-in-NotImplemented
unfolding digits head_front head_back
returns-in-NotImplemented c = rw c.in-NotImplemented.is

pub returns-in-NotFound : goal.returns-in-NotFound
unfolding digits head_front head_back
returns-in-NotFound c = rw c.in-NotFound.is

pub returns-in-NoSlot : goal.returns-in-NoSlot
unfolding digits head_front head_back
returns-in-NoSlot c = rw c.in-NoSlot.is

pub returns-in-TablesSpent : goal.returns-in-TablesSpent
unfolding digits head_front head_back
returns-in-TablesSpent c = rw c.in-TablesSpent.is

pub returns-in-Store : goal.returns-in-Store
unfolding digits head_front head_back
returns-in-Store c = rw c.in-Store.is

pub returns-in-Log : goal.returns-in-Log
unfolding digits head_front head_back
returns-in-Log c = rw c.in-Log.is

pub returns-in-Ids : goal.returns-in-Ids
unfolding digits head_front head_back
returns-in-Ids c = rw c.in-Ids.is

pub returns-in-Clock : goal.returns-in-Clock
unfolding digits head_front head_back
returns-in-Clock c = rw c.in-Clock.is

pub returns-in-Memory : goal.returns-in-Memory
unfolding digits head_front head_back
returns-in-Memory c = rw c.in-Memory.is
