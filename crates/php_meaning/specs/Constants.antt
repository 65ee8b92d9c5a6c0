-- Constants, and expressions made of constants alone: defaults, and the values of `const` and `static`.
use Rattle.std.specs.Prelude.{ℕ, ◌^◌, pos, negsuc, ◌-◌, List, [], ◌∷◌, ◌++◌, Bool, true, false, codes, if◌then◌else◌}
use Rattle.std.specs.declared.option.Option.{Option}
use Rattle.std.specs.declared.option.Option.TheVariants.{Some, None}
use Rattle.std.specs.declared.result.Result.TheVariants.{Ok}
use Rattle.std.specs.Str.{bytes_eq, str_to_ascii_lowercase}
use Rattle.php_tree.specs.Expressions as e
use Rattle.php_tree.specs.Expressions.{Expression, ArrayItems, Links, Branches}
use Rattle.php_values.specs.Data.{Data, null, truth, int, bytes, array, of_pairs, no_pairs}
use Rattle.php_world.specs.Steps.{Step, at, next}
use Rattle.php_world.specs.Places.{write_at}
use Rattle.php_meaning.specs.World.{World, Name, path_of, constant_in}
use Rattle.php_meaning.specs.Folders.{folder_of, joined_path, segments}
use Rattle.php_meaning.specs.Course.{Course, Does, Then, give, on_value}
use Rattle.php_meaning.specs.Refusals.{answered, place_refused, throws, plain_error}
use Rattle.php_meaning.specs.Operators.{right_of, unless_decided, decided, before_value, if_true}
use Rattle.php_tree.specs.declared.name.ConstName.{ConstName}

-- ---- constants by name

-- `true`, `false` and `null` in any case
abbrev pub word_value : List ℕ → Option Data
word_value name =
    if bytes_eq name (codes "true") then Some (truth true)
    else if bytes_eq name (codes "false") then Some (truth false)
    else if bytes_eq name (codes "null") then Some null
    else None

abbrev pub built_in : List ℕ → Option Data
built_in name =
    if bytes_eq name (codes "PHP_INT_MAX") then Some (int (pos (2 ^ 63 - 1)))
    else if bytes_eq name (codes "PHP_INT_MIN") then Some (int (negsuc (2 ^ 63 - 1)))
    else if bytes_eq name (codes "PHP_EOL") then Some (bytes (10 ∷ []))
    else if bytes_eq name (codes "ENT_COMPAT") then Some (int (pos 2))
    else if bytes_eq name (codes "ENT_QUOTES") then Some (int (pos 3))
    else if bytes_eq name (codes "ENT_NOQUOTES") then Some (int (pos 0))
    else if bytes_eq name (codes "STR_PAD_LEFT") then Some (int (pos 0))
    else if bytes_eq name (codes "STR_PAD_RIGHT") then Some (int (pos 1))
    else None

-- the whole path of a file, and its folder's
abbrev pub file_text : List ℕ → List ℕ
file_text path = codes "/app/" ++ path

abbrev pub folder_text : List (List ℕ) → List ℕ
folder_text [] = codes "/app"
folder_text (s ∷ ss) = codes "/app/" ++ joined_path (s ∷ ss)

-- those that depend on where they stand: in which file, and on which line
abbrev pub place_value : List ℕ → ℕ → List ℕ → Option Data
place_value path line name =
    if bytes_eq name (codes "__FILE__") then Some (bytes (file_text path))
    else if bytes_eq name (codes "__DIR__") then Some (bytes (folder_text (folder_of path)))
    else if bytes_eq name (codes "__LINE__") then Some (int (pos line))
    else None

abbrev pub first_of : Option Data → Option Data → Option Data
first_of (Some d) other = Some d
first_of None other = other

-- the value of a constant that stands on a line of the code that runs
abbrev pub constant_value : List ℕ → ℕ → World → Option Data
constant_value name line w =
    first_of (word_value (str_to_ascii_lowercase name)) (first_of (built_in name)
    (first_of (place_value (path_of w.context.owner) line name) (constant_in name w.constants)))

abbrev pub constant_or : List ℕ → Option Data → Does
constant_or name (Some d) = give d
constant_or name None = throws plain_error (codes "Undefined constant " ++ str_to_ascii_lowercase name)

abbrev pub constant_named : List ℕ → ℕ → Does
constant_named name line w k = constant_or name (constant_value name line w) w k

-- ---- arrays

abbrev pub no_elements : Data
no_elements = array (of_pairs no_pairs 0)

-- an array with one element more
abbrev pub with_element : Data → Step → Data → (Data → Does) → Does
with_element a step d go = answered place_refused go (write_at (step ∷ []) (λ old. Ok d) a)

-- ---- constant expressions; other nodes do not stand in them

abbrev mutual
  pub fixed : Expression Name → World → Then → Course
  fixed (e.int n l) w k = give (int n) w k
  fixed (e.text t l) w k = give (bytes t) w k
  fixed (e.constant c l) w k = constant_named c.text l w k
  fixed (e.array items l) w k = fixed_items items no_elements w k
  fixed (e.chain x links l) w k = fixed x w (on_value (fixed_links links) k)
  fixed (e.choice x branches l) w k = fixed x w (on_value (fixed_branches branches) k)
  fixed (e.unary op x l) w k = fixed x w (on_value (before_value op) k)
  fixed (e.class_constant c m l) w k = throws plain_error (codes "Undefined class " ++ str_to_ascii_lowercase c.text) w k
  fixed _ w k = give null w k

  pub fixed_items : ArrayItems Name → Data → World → Then → Course
  fixed_items e.no_items a w k = give a w k
  fixed_items (e.item x rest) a w k = fixed x w (on_value (λ d. with_element a next d (fixed_items rest)) k)
  fixed_items (e.pair x y rest) a w k = fixed x w (on_value (λ i w k. fixed y w (on_value (λ d. with_element a (at i) d (fixed_items rest)) k)) k)

  pub fixed_links : Links Name → Data → World → Then → Course
  fixed_links e.no_links a w k = give a w k
  fixed_links (e.link op x rest) a w k = unless_decided (decided op a) (fixed_links rest) (λ w k. fixed x w (right_of op a (fixed_links rest) k)) w k

  pub fixed_branches : Branches Name → Data → World → Then → Course
  fixed_branches e.no_branches d w k = give d w k
  fixed_branches (e.full x y rest) d w k = if_true d (fixed x w (on_value (fixed_branches rest) k)) (fixed y w (on_value (fixed_branches rest) k))
  fixed_branches (e.short y rest) d w k = if_true d (fixed_branches rest d w k) (fixed y w (on_value (fixed_branches rest) k))
