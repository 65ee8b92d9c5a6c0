-- `$_SERVER`, put together.
use Rattle.std.proofs.Common.{◌≡◌, ℕ, pos, List, [], codes, Option, None, Some, refl, ap, ◌∙◌}
use Rattle.std.specs.List.{find}
use Rattle.order_map.specs.declared.key.Key.TheVariants.{Text}
use Rattle.order_map.specs.MapView.{MapView}
use Rattle.order_map.specs.Arrays.{pairs_of, next_of}
use Rattle.php_values.specs.declared.value.Value.{Value}
use Rattle.php_values.specs.Data.{bytes, int, ArrayData, of_pairs, array_of, data_pairs}
use Rattle.reply_text.specs.Headers.{Header, is_named}
use Rattle.request_map.specs.Requests.{Request}
use Rattle.parameters.specs.Nested.{put_in, no_array}
use Rattle.script_input.specs.Inputs.{query_of, rooted, text, host, time, protocol_of, server_of}
use Rattle.script_input.specs.Made.{with_target, with_script, with_host}

pub none_yet : (m : MapView Value) → pairs_of m ≡ [] → next_of m ≡ 0 → array_of m ≡ no_array
none_yet m pairs next = (λ i. of_pairs (data_pairs (pairs i)) (next i))

pub target_made : (request : Request) (m t s q : List ℕ) (a b c d : ArrayData) → m ≡ request.head.method → t ≡ request.head.target → s ≡ request.head.target → q ≡ query_of s
    → b ≡ put_in (Text (codes "REQUEST_METHOD")) (bytes m) a → c ≡ put_in (Text (codes "REQUEST_URI")) (bytes t) b → d ≡ put_in (Text (codes "QUERY_STRING")) (bytes q) c
    → d ≡ with_target request a
target_made request m t s q a b c d em et es eq eb ec ed =
    let f = eq ∙ ap query_of es in
    let g = eb ∙ ap (λ m. put_in (Text (codes "REQUEST_METHOD")) (bytes m) a) em in
    let h = ec ∙ (λ i. put_in (Text (codes "REQUEST_URI")) (bytes (et i)) (g i)) in
    ed ∙ (λ i. put_in (Text (codes "QUERY_STRING")) (bytes (f i)) (h i))

-- the whole, with the protocol and the host
abbrev served : Request → List ℕ → ℕ → List ℕ → Option Header → ArrayData
served request script moment p h =
    of_pairs (text (codes "REQUEST_METHOD") request.head.method (text (codes "REQUEST_URI") request.head.target
    (text (codes "QUERY_STRING") (query_of request.head.target) (text (codes "SCRIPT_NAME") (rooted script) (text (codes "PHP_SELF") (rooted script)
    (text (codes "SERVER_PROTOCOL") p (host h (time moment)))))))) 0

all_put : (request : Request) (script p : List ℕ) (moment : ℕ) (h : Option Header)
    → put_in (Text (codes "REQUEST_TIME")) (int (pos moment)) (with_host h (put_in (Text (codes "SERVER_PROTOCOL")) (bytes p) (with_script script (with_target request no_array))))
    ≡ served request script moment p h
all_put request script p moment None = refl
all_put request script p moment (Some header) = refl

pub server_made : (request : Request) (script p : List ℕ) (moment version : ℕ) (headers : List Header) (a b c d e f : ArrayData)
    → version ≡ request.head.version → p ≡ protocol_of version → headers ≡ request.head.headers → a ≡ no_array → b ≡ with_target request a → c ≡ with_script script b
    → d ≡ put_in (Text (codes "SERVER_PROTOCOL")) (bytes p) c → e ≡ with_host (find (is_named (codes "host")) headers) d → f ≡ put_in (Text (codes "REQUEST_TIME")) (int (pos moment)) e
    → f ≡ server_of request script moment
server_made request script p moment version headers a b c d e f ev ep eh ea eb ec ed ee ef =
    let h = find (is_named (codes "host")) headers in
    ef ∙ ap (put_in (Text (codes "REQUEST_TIME")) (int (pos moment))) (ee ∙ ap (with_host h) (ed ∙ ap (put_in (Text (codes "SERVER_PROTOCOL")) (bytes p)) (ec ∙ ap (with_script script) (eb ∙ ap (with_target request) ea))))
    ∙ all_put request script p moment h
    ∙ ap (λ p. served request script moment p h) (ep ∙ ap protocol_of ev)
    ∙ ap (λ hs. served request script moment (protocol_of request.head.version) (find (is_named (codes "host")) hs)) eh
