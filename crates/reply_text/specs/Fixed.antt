-- The replies that are the same bytes each time.
use Rattle.std.specs.Prelude.{ℕ, Bool, true, false, ◌&&◌, not, List, [], ◌++◌, length, codes, if◌then◌else◌}
use Rattle.reply_text.specs.Replies.{status_text, head_front, head_back, less_line}
use Rattle.reply_text.specs.declared.fixed.FixedEnd.{FixedEnd}
use Rattle.reply_text.specs.declared.fixed.FixedEnd.TheVariants.{BadRequest, NoLength, TooLarge, NotImplemented, NotFound, NoSlot, TablesSpent, Store, Log, Ids, Clock, Memory}

abbrev pub fixed_code : FixedEnd → ℕ
fixed_code BadRequest = 400
fixed_code NoLength = 411
fixed_code TooLarge = 413
fixed_code NotImplemented = 501
fixed_code NotFound = 404
fixed_code NoSlot = 503
fixed_code TablesSpent = 503
fixed_code Store = 500
fixed_code Log = 500
fixed_code Ids = 500
fixed_code Clock = 500
fixed_code Memory = 507

-- what the header `X-Less` tells
abbrev pub fixed_word : FixedEnd → List ℕ
fixed_word BadRequest = codes "request"
fixed_word NoLength = codes "request"
fixed_word TooLarge = codes "request"
fixed_word NotImplemented = codes "request"
fixed_word NotFound = codes "request"
fixed_word NoSlot = codes "sessions"
fixed_word TablesSpent = codes "spent"
fixed_word Store = codes "store"
fixed_word Log = codes "log"
fixed_word Ids = codes "ids"
fixed_word Clock = codes "clock"
fixed_word Memory = codes "memory"

-- code and phrase, and a newline
abbrev pub fixed_body : FixedEnd → List ℕ
fixed_body end = status_text (fixed_code end) ++ codes "\n"

abbrev pub fixed_head : FixedEnd → List ℕ
fixed_head end =
    head_front (fixed_code end) (codes "text/plain; charset=UTF-8") ++ less_line (fixed_word end) ++ head_back (length (fixed_body end))

-- the method is not known where the request was refused, or where there was no memory to read it
abbrev pub keeps_body : FixedEnd → Bool
keeps_body BadRequest = true
keeps_body NoLength = true
keeps_body TooLarge = true
keeps_body NotImplemented = true
keeps_body NotFound = false
keeps_body NoSlot = false
keeps_body TablesSpent = false
keeps_body Store = false
keeps_body Log = false
keeps_body Ids = false
keeps_body Clock = false
keeps_body Memory = true

-- the whole reply; for HEAD the body is not sent where the method was known
abbrev pub fixed_text : FixedEnd → Bool → List ℕ
fixed_text end head_only = fixed_head end ++ (if head_only && not (keeps_body end) then [] else fixed_body end)
