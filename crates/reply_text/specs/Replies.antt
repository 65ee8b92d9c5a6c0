-- The text of a reply (RFC 9112): a status line, headers, an empty line and the body. Each line of the head ends in CR LF.
use Rattle.std.specs.Prelude.{ℕ, nat_eq, nat_le, nat_lt, Bool, ◌&&◌, ◌||◌, List, [], ◌∷◌, ◌++◌, length, fold, codes, decimal, flat_map, Option, None, Some, unwrap_or, if◌then◌else◌}
use Rattle.std.specs.List.{ends_with}
use Rattle.http.specs.StatusCode.{reason_phrase}
use Rattle.reply_text.specs.Headers.{Header, is_named}
use Rattle.reply_text.specs.Runs.{RunEnd, Done, Removed, Budget, Fatal, RunReply}

abbrev pub line_end : List ℕ
line_end = 13 ∷ 10 ∷ []

-- ---- the head

-- a number of three digits
abbrev pub is_code : ℕ → Bool
is_code code = nat_le 100 code && nat_lt code 1000

-- the phrase of a code, or `Status` where it has none
abbrev pub phrase_of : ℕ → List ℕ
phrase_of code = if is_code code then unwrap_or (reason_phrase code) (codes "Status") else codes "Status"

-- a code and its phrase
abbrev pub status_text : ℕ → List ℕ
status_text code = decimal code ++ codes " " ++ phrase_of code

-- what a head begins with: the status line and the content type
unfoldable pub head_front : ℕ → List ℕ → List ℕ
head_front code content_type = codes "HTTP/1.1 " ++ status_text code ++ codes "\r\nContent-Type: " ++ content_type ++ line_end

-- what a head ends with: the length of the body in bytes, and that the connection ends
unfoldable pub head_back : ℕ → List ℕ
head_back body_length = codes "Content-Length: " ++ decimal body_length ++ codes "\r\nConnection: close\r\n\r\n"

-- the line that tells of an end that is no plain success
abbrev pub less_line : List ℕ → List ℕ
less_line text = codes "X-Less: " ++ text ++ line_end

-- ---- what a script's run gives

-- what stands where a part of the application was taken out
unfoldable pub removal_page : List ℕ
removal_page = codes "<p>This part of the application has been removed.</p>\n"

-- the script's own code counts where it came to its end
abbrev pub code_after : ℕ → RunEnd → ℕ
code_after status Done = status
code_after status Removed = 403
code_after status Budget = 503
code_after status (Fatal name file line) = 500

-- the line of a run that could not go on
unfoldable pub fatal_line : List ℕ → List ℕ → ℕ → List ℕ
fatal_line name file line = codes "X-Less: fatal " ++ name ++ codes " " ++ file ++ codes ":" ++ decimal line ++ line_end

-- the line `X-Less` of a run's end
abbrev pub end_line : RunEnd → List ℕ
end_line Done = []
end_line Removed = less_line (codes "removed")
end_line Budget = less_line (codes "budget")
end_line (Fatal name file line) = fatal_line name file line

-- what was put out, and the removal page where a removed part was to be entered
abbrev pub body_after : List ℕ → RunEnd → List ℕ
body_after output Done = output
body_after output Removed = output ++ removal_page
body_after output Budget = output
body_after output (Fatal name file line) = output

-- the value of a content type, or what was found before
abbrev pub content_type_of : List ℕ → Header → List ℕ
content_type_of before header = if is_named (codes "content-type") header then header.value else before

-- the last content type that the script set
abbrev pub content_type : List Header → List ℕ
content_type headers = fold content_type_of (codes "text/html; charset=UTF-8") headers

-- the reply writes these headers itself, so the script's are left out
abbrev pub is_own : Header → Bool
is_own header =
    is_named (codes "content-type") header || is_named (codes "content-length") header
    || is_named (codes "connection") header || is_named (codes "transfer-encoding") header

abbrev pub header_line : Header → List ℕ
header_line header = header.name ++ codes ": " ++ header.value ++ line_end

abbrev pub other_line : Header → List ℕ
other_line header = if is_own header then [] else header_line header

-- the script's headers of other names, in order
abbrev pub other_lines : List Header → List ℕ
other_lines headers = flat_map other_line headers

-- the cookie of a new session, by the text of its id
unfoldable pub cookie_line : Option (List ℕ) → List ℕ
cookie_line None = []
cookie_line (Some id) = codes "Set-Cookie: PHPSESSID=" ++ id ++ codes "; path=/\r\n"

-- the headers between the content type and the length
abbrev pub script_lines : RunReply → Option (List ℕ) → List ℕ
script_lines run cookie = other_lines run.headers ++ cookie_line cookie ++ end_line run.end

unfoldable pub script_head : RunReply → Option (List ℕ) → ℕ → List ℕ
script_head run cookie body_length =
    head_front (code_after run.status run.end) (content_type run.headers) ++ script_lines run cookie ++ head_back body_length

-- the body, which is not sent where the method was HEAD
abbrev pub sent_body : List ℕ → Bool → List ℕ
sent_body body head_only = if head_only then [] else body

abbrev pub script_body : RunReply → List ℕ
script_body run = body_after run.output run.end

-- the reply to a request that ran a script
abbrev pub reply_text : RunReply → Option (List ℕ) → Bool → List ℕ
reply_text run cookie head_only =
    script_head run cookie (length (script_body run)) ++ sent_body (script_body run) head_only

-- ---- static files

-- the content type of a static file, by the end of its path
abbrev pub static_type : List ℕ → List ℕ
static_type path =
    if ends_with nat_eq path (codes ".html") then codes "text/html; charset=UTF-8" else (
    if ends_with nat_eq path (codes ".css") then codes "text/css" else (
    if ends_with nat_eq path (codes ".js") then codes "application/javascript" else (
    if ends_with nat_eq path (codes ".txt") then codes "text/plain; charset=UTF-8" else (
    if ends_with nat_eq path (codes ".png") then codes "image/png" else (
    if ends_with nat_eq path (codes ".jpg") then codes "image/jpeg" else (
    if ends_with nat_eq path (codes ".svg") then codes "image/svg+xml" else codes "application/octet-stream"))))))

-- the head of the reply with a static file of so many bytes
abbrev pub static_head : List ℕ → ℕ → List ℕ
static_head path body_length = head_front 200 (static_type path) ++ head_back body_length

-- the reply with a static file
abbrev pub static_reply : List ℕ → List ℕ → Bool → List ℕ
static_reply path body head_only = static_head path (length body) ++ sent_body body head_only
