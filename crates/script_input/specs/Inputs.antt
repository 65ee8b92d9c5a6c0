-- What a script is given of a request: `$_GET`, `$_POST`, `$_COOKIE`, `$_REQUEST` and `$_SERVER`.
use Rattle.std.specs.Prelude.{ℕ, ◌+◌, pos, ◌==◌, List, [], ◌∷◌, drop, codes, Option, None, Some, if◌then◌else◌}
use Rattle.std.specs.List.{find}
use Rattle.order_map.specs.declared.key.Key.TheVariants.{Text}
use Rattle.php_values.specs.Data.{Data, int, bytes, ArrayData, of_pairs, array_pairs, Pairs, no_pairs, pair}
use Rattle.reply_text.specs.Headers.{Header, is_named}
use Rattle.request_map.specs.Requests.{Head, Request}
use Rattle.request_map.specs.Routes.{query_at}
use Rattle.parameters.specs.Nested.{no_array, set_over}
use Rattle.parameters.specs.Parameters.{parameters_of}
use Rattle.parameters.specs.Cookies.{with_header}
use Rattle.script_input.specs.Forms.{is_form}

abbrev pub behind : List ℕ → Option ℕ → List ℕ
behind target None = []
behind target (Some place) = drop (place + 1) target

-- what stands behind the first `?`
abbrev pub query_of : List ℕ → List ℕ
query_of target = behind target (query_at target)

-- `$_GET`
abbrev pub get_of : Request → ArrayData
get_of request = parameters_of (query_of request.head.target)

-- `$_POST`
abbrev pub post_of : Request → ArrayData
post_of request = if is_form request.head.headers then parameters_of request.body else no_array

-- `$_COOKIE`: the cookies of all `Cookie` headers, in order
abbrev pub with_line : Header → ArrayData → ArrayData
with_line header a = if is_named (codes "cookie") header then with_header header.value a else a

abbrev pub with_lines : List Header → ArrayData → ArrayData
with_lines [] a = a
with_lines (header ∷ headers) a = with_lines headers (with_line header a)

abbrev pub cookie_of : Request → ArrayData
cookie_of request = with_lines request.head.headers no_array

-- `$_REQUEST`: `$_POST` set over `$_GET`
abbrev pub request_of : Request → ArrayData
request_of request = set_over (array_pairs (post_of request)) (get_of request)

-- ---- `$_SERVER`

-- a pair of a name and a text in front of others
abbrev pub text : List ℕ → List ℕ → Pairs → Pairs
text name value ps = pair (Text name) (bytes value) ps

abbrev pub protocol_of : ℕ → List ℕ
protocol_of version = if version == 0 then codes "HTTP/1.0" else codes "HTTP/1.1"

-- the first `Host`, where there is one
abbrev pub host : Option Header → Pairs → Pairs
host None ps = ps
host (Some header) ps = text (codes "HTTP_HOST") header.value ps

-- a path with a `/` in front
abbrev pub rooted : List ℕ → List ℕ
rooted script = 47 ∷ script

abbrev pub time : ℕ → Pairs
time moment = pair (Text (codes "REQUEST_TIME")) (int (pos moment)) no_pairs

abbrev pub server_of : Request → List ℕ → ℕ → ArrayData
server_of request script moment =
    of_pairs (text (codes "REQUEST_METHOD") request.head.method (text (codes "REQUEST_URI") request.head.target
    (text (codes "QUERY_STRING") (query_of request.head.target) (text (codes "SCRIPT_NAME") (rooted script) (text (codes "PHP_SELF") (rooted script)
    (text (codes "SERVER_PROTOCOL") (protocol_of request.head.version) (host (find (is_named (codes "host")) request.head.headers) (time moment)))))))) 0
