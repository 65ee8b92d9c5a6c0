-- What the profile asks of a request, check by check.
use Rattle.std.specs.Prelude.{ℕ, Bool, false, not, ◌&&◌, ◌||◌, ◌==◌, nat_le, nat_lt, List, [], ◌∷◌, length, take, count_by, codes, Option, None, Some, Result, Ok, Err, if◌then◌else◌}
use Rattle.std.specs.List.{list_all, list_any, find}
use Rattle.std.specs.Char.{is_ascii_digit}
use Rattle.std.specs.Str.{bytes_eq}
use Rattle.std.specs.Str.Parse.{digits_value}
use Rattle.reply_text.specs.Headers.{Header, is_named}
use Rattle.request_map.specs.Requests.{Head, Request}
use Rattle.request_map.specs.declared.fault.RequestFault.{RequestFault}
use Rattle.request_map.specs.declared.fault.RequestFault.TheVariants.{BadRequest, NoLength, TooLarge, NotImplemented}
use Rattle.request_map.specs.declared.TheConstants.{MAX_BODY_BYTES}

-- how many headers have this name
abbrev pub count_named : List ℕ → List Header → ℕ
count_named name headers = count_by (is_named name) headers

-- ---- the methods, and transfer codings

abbrev pub is_post : List ℕ → Bool
is_post method = bytes_eq method (codes "POST")

abbrev pub is_method : List ℕ → Bool
is_method method = bytes_eq method (codes "GET") || bytes_eq method (codes "HEAD") || is_post method

abbrev pub is_implemented : Head → Bool
is_implemented head = is_method head.method && not (list_any (is_named (codes "transfer-encoding")) head.headers)

-- ---- the host and the length

-- HTTP/1.1 asks for one `Host`
abbrev pub is_hosted : Head → Bool
is_hosted head = head.version == 0 || count_named (codes "host") head.headers == 1

-- 1 to 18 digits
abbrev pub is_length : List ℕ → Bool
is_length text = nat_le 1 (length text) && (nat_le (length text) 18 && list_all is_ascii_digit text)

-- a length of at most 1 MiB
abbrev pub length_within : ℕ → Result ℕ RequestFault
length_within size = if nat_le size MAX_BODY_BYTES then Ok size else Err TooLarge

-- what the text of a length says
abbrev pub length_of : List ℕ → Result ℕ RequestFault
length_of text = if is_length text then length_within (digits_value 10 text) else Err BadRequest

-- what the header `Content-Length` says. Without one, a POST is refused and another request has no body
abbrev pub length_told : Bool → Option Header → Result ℕ RequestFault
length_told post None = if post then Err NoLength else Ok 0
length_told post (Some header) = length_of header.value

-- the same of all headers: one that stands twice is refused
abbrev pub length_among : Bool → List Header → Result ℕ RequestFault
length_among post headers =
    if nat_lt 1 (count_named (codes "content-length") headers) then Err BadRequest
    else length_told post (find (is_named (codes "content-length")) headers)

-- how long the body is that belongs to a head, in bytes, or the first refusal
abbrev pub body_length : Head → Result ℕ RequestFault
body_length head =
    if not (is_implemented head) then Err NotImplemented
    else (if not (is_hosted head) then Err BadRequest else length_among (is_post head.method) head.headers)

-- ---- the body and the target

abbrev pub begins_with_slash : List ℕ → Bool
begins_with_slash [] = false
begins_with_slash (first ∷ rest) = first == 47

-- the request with a body of which so many bytes came, and so many were told
abbrev pub finished : Head → ℕ → List ℕ → Result Request RequestFault
finished head size body =
    if nat_lt (length body) size then Err BadRequest
    else (if begins_with_slash head.target then Ok (record { head = head; body = body }) else Err BadRequest)

-- what a head and the bytes behind it come to
abbrev pub answer_at : Head → List ℕ → Result ℕ RequestFault → Result Request RequestFault
answer_at head rest (Ok size) = finished head size (take size rest)
answer_at head rest (Err fault) = Err fault

abbrev pub answer_of : Head → List ℕ → Result Request RequestFault
answer_of head rest = answer_at head rest (body_length head)

-- how many bytes of a body are read
abbrev pub body_taken : Result ℕ RequestFault → ℕ
body_taken (Ok size) = size
body_taken (Err fault) = 0
