-- The forms of what stands in a file of roles.
use Rattle.std.specs.Prelude.{List, [], ◌∷◌, ℕ, suc, Bool, true, false, ◌&&◌, ◌||◌, ◌==◌, nat_le, take, drop, codes, if◌then◌else◌, Option, Some, None}
use Rattle.std.specs.List.{position_or_len}
use Rattle.std.specs.Str.{bytes_eq}
use Rattle.std.specs.Ordering.{nat_cmp, is_lt}
use Rattle.std.specs.Cmp.Lexicographic.{slice_cmp}
use Rattle.less_terms.specs.Forms.{is_role}
use Rattle.less_terms.specs.Paths.{is_path, is_function_name}
use Rattle.toml.specs.Data.{Data, string, array, table, Items, no_items, item, Members, no_members, member, get_member}
use Rattle.role_routing.specs.Names.{max_roles}

-- ---- texts of keep lists

abbrev pub is_hash : ℕ → Bool
is_hash b = b == 35

-- what stands behind a path: nothing, or `#` and `*` or a function's name
abbrev pub is_part : List ℕ → Bool
is_part [] = true
is_part (b ∷ name) = bytes_eq name (codes "*") || is_function_name name

-- `PATH`, `PATH#NAME` or `PATH#*`
abbrev pub is_keep_text : List ℕ → Bool
is_keep_text t = is_path (take (position_or_len is_hash t) t) && is_part (drop (position_or_len is_hash t) t)

-- ---- values

abbrev pub is_role_value : Data → Bool
is_role_value (string s) = is_role s
is_role_value _ = false

abbrev pub is_keep_value : Data → Bool
is_keep_value (string s) = is_keep_text s
is_keep_value _ = false

abbrev pub all_items : (Data → Bool) → Items → Bool
all_items is no_items = true
all_items is (item d ds) = is d && all_items is ds

abbrev pub count_items : Items → ℕ
count_items no_items = 0
count_items (item d ds) = suc (count_items ds)

abbrev pub is_role_count : ℕ → Bool
is_role_count n = nat_le 1 n && nat_le n max_roles

-- a list of 1 to 16 roles
abbrev pub is_role_list : Data → Bool
is_role_list (array ds) = is_role_count (count_items ds) && all_items is_role_value ds
is_role_list _ = false

abbrev pub is_keep_list : Data → Bool
is_keep_list (array ds) = all_items is_keep_value ds
is_keep_list _ = false

-- from users, which have any name, to roles
abbrev pub are_users : Members → Bool
are_users no_members = true
are_users (member user d ms) = is_role_value d && are_users ms

abbrev pub is_user_table : Data → Bool
is_user_table (table ms) = are_users ms
is_user_table _ = false

-- from roles to keep lists
abbrev pub are_keep_lists : Members → Bool
are_keep_lists no_members = true
are_keep_lists (member role d ms) = (is_role role && is_keep_list d) && are_keep_lists ms

abbrev pub is_keep_table : Data → Bool
is_keep_table (table ms) = are_keep_lists ms
is_keep_table _ = false

-- ---- the keys of the file

-- a key that is known, with a value of its form
unfoldable pub is_well_formed : List ℕ → Data → Bool
is_well_formed key d =
    if bytes_eq key (codes "guest") then is_role_value d
    else if bytes_eq key (codes "keep") then is_keep_table d
    else if bytes_eq key (codes "roles") then is_role_list d
    else if bytes_eq key (codes "users") then is_user_table d
    else false

-- the first key of some members that is not
abbrev pub bad_member : Members → Option (List ℕ)
bad_member no_members = None
bad_member (member key d ms) = if is_well_formed key d then bad_member ms else Some key

-- `roles`, or a key that stands before it in byte order
abbrev pub before_roles : Option (List ℕ) → List ℕ
before_roles None = codes "roles"
before_roles (Some key) = if is_lt (slice_cmp nat_cmp key (codes "roles")) then key else codes "roles"

abbrev pub or_roles : Option Data → Option (List ℕ) → Option (List ℕ)
or_roles None bad = Some (before_roles bad)
or_roles (Some d) bad = bad

-- the first key in byte order that is unknown or whose value is of another form; that `roles` is absent counts as such
abbrev pub bad_key : Members → Option (List ℕ)
bad_key ms = or_roles (get_member (codes "roles") ms) (bad_member ms)
