-- The request that is answered so far, and the reply to the run of a page.
use Rattle.std.specs.Prelude.{List, ℕ, Bool, false, [], ◌∷◌, ◌++◌, codes, map, Option, None, Some}
use Rattle.std.specs.Str.{bytes_eq}
use Rattle.php_frames.specs.Events.{End, Done, Removed, Budget}
use Rattle.php_frames.specs.Run.{trace, Tree}
use Rattle.php_frames.specs.RunResult.{RunResult, result_of, Header as RunHeader}
use Rattle.php_frames.specs.Statements.{Statement}
use Rattle.reply_text.specs.Headers.{Header}
use Rattle.reply_text.specs.Runs.{RunEnd, RunReply}
use Rattle.reply_text.specs.Runs as runs
use Rattle.reply_text.specs.Replies as replies

-- ---- the request

-- a script of one request for `/` in HTTP/1.0
abbrev pub one_request : List ℕ
one_request = codes "request 18" ++ 10 ∷ codes "GET / HTTP/1.0" ++ 13 ∷ 10 ∷ 13 ∷ 10 ∷ 10 ∷ []

abbrev pub is_request : Option (List ℕ) → Bool
is_request None = false
is_request (Some text) = bytes_eq text one_request

-- ---- the run

-- the path of the file that a request for `/` runs, and the budget in ticks
abbrev pub index_path : List ℕ
index_path = codes "index.php"

abbrev pub budget : ℕ
budget = 1000000

-- what a page comes to
abbrev pub page_result : List Statement → RunResult
page_result page = result_of (trace (Tree page) index_path budget)

-- ---- the reply

abbrev pub reply_header : RunHeader → Header
reply_header header = record { name = header.name; value = header.value }

abbrev pub reply_end : End → RunEnd
reply_end Done = runs.Done
reply_end (Removed entry) = runs.Removed
reply_end Budget = runs.Budget

abbrev pub run_reply : RunResult → RunReply
run_reply result = record { status = result.status; headers = map reply_header result.headers; output = result.output; end = reply_end result.end }

-- without a cookie, and with the body
abbrev pub reply_text : RunResult → List ℕ
reply_text result = replies.reply_text (run_reply result) None false
