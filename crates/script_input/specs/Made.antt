-- How `$_SERVER` is made, pair by pair.
use Rattle.std.specs.Prelude.{ℕ, List, codes, Option, None, Some}
use Rattle.order_map.specs.declared.key.Key.TheVariants.{Text}
use Rattle.php_values.specs.Data.{bytes, ArrayData}
use Rattle.reply_text.specs.Headers.{Header}
use Rattle.request_map.specs.Requests.{Request}
use Rattle.parameters.specs.Nested.{put_in}
use Rattle.script_input.specs.Inputs.{query_of, rooted}

abbrev pub with_target : Request → ArrayData → ArrayData
with_target request a =
    put_in (Text (codes "QUERY_STRING")) (bytes (query_of request.head.target)) (put_in (Text (codes "REQUEST_URI")) (bytes request.head.target)
    (put_in (Text (codes "REQUEST_METHOD")) (bytes request.head.method) a))

abbrev pub with_script : List ℕ → ArrayData → ArrayData
with_script script a = put_in (Text (codes "PHP_SELF")) (bytes (rooted script)) (put_in (Text (codes "SCRIPT_NAME")) (bytes (rooted script)) a)

abbrev pub with_host : Option Header → ArrayData → ArrayData
with_host None a = a
with_host (Some header) a = put_in (Text (codes "HTTP_HOST")) (bytes header.value) a
