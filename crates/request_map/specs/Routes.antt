-- The file that a request asks for.
use Rattle.std.specs.Prelude.{◌≡◌, ℕ, nat_eq, Bool, true, false, ◌==◌, ◌||◌, List, [], ◌∷◌, ◌++◌, length, take, position, codes, Option, None, Some, String, string_bytes, Vec, if◌then◌else◌}
use Rattle.std.specs.List.{list_any, ends_with}
use Rattle.std.specs.Str.{bytes_eq}
use Rattle.std.specs.declared.alloc.Global.{Global}
use Rattle.percent_encoding.specs.Percent.{percent_decode}
use Rattle.request_map.specs.declared.routes.Route.{Route}
use Rattle.request_map.specs.declared.routes.Route.TheVariants.{Script, Static, NotFound}

-- the place of the first `?`
abbrev pub query_at : List ℕ → Option ℕ
query_at target = position (λ byte. byte == 63) target

abbrev pub cut_at : List ℕ → Option ℕ → List ℕ
cut_at target None = target
cut_at target (Some place) = take place target

-- what stands before the first `?`
abbrev pub before_query : List ℕ → List ℕ
before_query target = cut_at target (query_at target)

abbrev pub without_slash : List ℕ → List ℕ
without_slash [] = []
without_slash (first ∷ rest) = if first == 47 then rest else first ∷ rest

-- a path of a folder stands for its page
abbrev pub with_page : List ℕ → List ℕ
with_page path = if (length path == 0) || ends_with nat_eq path (47 ∷ []) then path ++ codes "index.php" else path

-- the path of the file that a target names
abbrev pub file_path : List ℕ → List ℕ
file_path target = with_page (without_slash (percent_decode (before_query target)))

-- ---- files

abbrev pub is_at : List ℕ → String Global → Bool
is_at path file = bytes_eq (string_bytes file) path

abbrev pub is_script : List (String Global) → List ℕ → Bool
is_script scripts path = list_any (is_at path) scripts

abbrev pub static_at : List (String Global × Vec ℕ Global) → List ℕ → Option ℕ
static_at statics path = position (λ file. is_at path file.0) statics

-- a script goes before a static file; a static file is told by its number
abbrev pub IsRoute : List (String Global) → List (String Global × Vec ℕ Global) → List ℕ → Route → Type 0
IsRoute scripts statics path (Script script) = (is_script scripts path ≡ true) × (string_bytes script ≡ path)
IsRoute scripts statics path (Static number) = (is_script scripts path ≡ false) × (static_at statics path ≡ Some number)
IsRoute scripts statics path NotFound = (is_script scripts path ≡ false) × (static_at statics path ≡ None)
