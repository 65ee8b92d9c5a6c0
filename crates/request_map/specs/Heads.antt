-- The head of a request: a head of httparse's grammar (RFC 9112) that keeps the limits of the profile.
use Rattle.std.specs.Prelude.{◌≡◌, ℕ, ◌≤◌, List, length, map}
use Rattle.httparse.specs.Grammar.{RequestHead, ReadsRequest, print_request, Field}
use Rattle.httparse.specs.Spans.{name_and_value}
use Rattle.reply_text.specs.Headers.{Header}
use Rattle.request_map.specs.Requests.{Head}
use Rattle.request_map.specs.declared.head.ParsedHead.{ParsedHead}
use Rattle.request_map.specs.declared.TheConstants.{MAX_HEAD_BYTES, MAX_HEADERS}

-- the input begins with this head, and then comes the rest. The head has at most 16,384 bytes, empty lines in front
-- of it among them, and at most 64 headers
pub record BeginsWith (input : List ℕ) (head : RequestHead) (rest : List ℕ) : Type 0 where
  pub reads : ReadsRequest input head rest
  pub short : length (print_request head) ≤ MAX_HEAD_BYTES
  pub few : length head.fields ≤ MAX_HEADERS

-- the input begins with no such head
abbrev pub HasNoHead : List ℕ → Type 0
HasNoHead input = (head : RequestHead) (rest : List ℕ) → ¬ (BeginsWith input head rest)

-- a header from its name and its value
abbrev pub header_of : List ℕ × List ℕ → Header
header_of pair = record { name = pair.0; value = pair.1 }

-- the headers of a head, in order. A value has no space or tab at either end
abbrev pub headers_of : List Field → List Header
headers_of fields = map header_of (map name_and_value fields)

-- what a head of the grammar tells
abbrev pub head_of : RequestHead → Head
head_of head = record { method = head.method; target = head.target; version = head.minor; headers = headers_of head.fields }

-- what a head that was parsed tells
abbrev pub parsed_head : ParsedHead → Head
parsed_head parsed = record { method = parsed.method.items; target = parsed.target.items; version = parsed.version; headers = parsed.headers.items }

-- the input begins with a head, and this is what it tells and how many bytes it has
pub record IsParsed (input : List ℕ) (parsed : ParsedHead) : Type 0 where
  pub head : RequestHead
  pub rest : List ℕ
  pub begins : BeginsWith input head rest
  pub told : parsed_head parsed ≡ head_of head
  pub size : parsed.size ≡ length (print_request head)
