-- What a file of roles comes to.
use Rattle.std.specs.Prelude.{List, [], ◌∷◌, ℕ, ◌+◌, ◌^◌, nat_le, length, codes, if◌then◌else◌, Option, Some, None, option_map}
use Rattle.std.specs.declared.result.Result.{Result}
use Rattle.std.specs.declared.result.Result.TheVariants.{Ok, Err}
use Rattle.std.specs.Str.{bytes_eq, is_utf8}
use Rattle.toml.specs.Data.{Data, string, array, Items, no_items, item, Members, no_members, member, get_member, as_table}
use Rattle.toml.specs.Parse.{parse_document}
use Rattle.role_routing.specs.Names.{RolesData, again}
use Rattle.role_routing.specs.Forms.{bad_key}

-- why a file is refused
pub data FileFault : Type 0 where
  bad_toml : FileFault
  no_guest : FileFault
  unknown_role : List ℕ → FileFault
  twice : List ℕ → FileFault
  bad_form : List ℕ → FileFault
  unknown_entry : List ℕ → FileFault
  memory : FileFault

abbrev pub Judged : Type 0 → Type 0
Judged A = Result A FileFault

infixl 10 ◌>>=◌
abbrev pub ◌>>=◌ : {A B : Type 0} → Judged A → (A → Judged B) → Judged B
Ok a >>= f = f a
Err fault >>= f = Err fault

-- the greatest length of the file
abbrev pub max_file : ℕ
max_file = 2 ^ 20

-- ---- its text

abbrev pub parsed_or : Option Members → Judged Members
parsed_or None = Err bad_toml
parsed_or (Some ms) = Ok ms

-- a file that is too long is not read; then it is to be TOML, and each key of it known and of its form
unfoldable pub parsed : List ℕ → Judged Members
parsed text = if is_utf8 text then parsed_or (parse_document text) else Err bad_toml

abbrev pub unless_bad : Members → Option (List ℕ) → Judged Members
unless_bad ms None = Ok ms
unless_bad ms (Some key) = Err (bad_form key)

unfoldable pub well_formed : Members → Judged Members
well_formed ms = unless_bad ms (bad_key ms)

-- ---- its values, which have their forms

abbrev pub text_of : Data → List ℕ
text_of (string s) = s
text_of _ = []

abbrev pub texts_of : Items → List (List ℕ)
texts_of no_items = []
texts_of (item d ds) = text_of d ∷ texts_of ds

abbrev pub list_of : Option Data → List (List ℕ)
list_of None = []
list_of (Some (array ds)) = texts_of ds
list_of (Some _) = []

abbrev pub table_in : Option Data → Option Members
table_in None = None
table_in (Some d) = as_table d

abbrev pub members_or : Option Members → Members
members_or None = no_members
members_or (Some ms) = ms

abbrev pub table_of : Option Data → Members
table_of value = members_or (table_in value)

-- the name of the guest's role, if there is one
abbrev pub guest_text : Members → Option (List ℕ)
guest_text ms = option_map text_of (get_member (codes "guest") ms)

abbrev pub guest_or : Option (List ℕ) → Judged (List ℕ)
guest_or None = Err no_guest
guest_or (Some name) = Ok name

-- the names of the roles, of which none stands twice; the first that stands again is told
abbrev pub unless_again : List (List ℕ) → Option (List ℕ) → Judged (List (List ℕ))
unless_again ns None = Ok ns
unless_again ns (Some n) = Err (twice n)

unfoldable pub role_names : Members → Judged (List (List ℕ))
role_names ms = unless_again (list_of (get_member (codes "roles") ms)) (again [] (list_of (get_member (codes "roles") ms)))

-- ---- roles by their numbers

abbrev pub number_from : ℕ → List ℕ → List (List ℕ) → Option ℕ
number_from i name [] = None
number_from i name (n ∷ ns) = if bytes_eq n name then Some i else number_from (i + 1) name ns

abbrev pub known : List ℕ → Option ℕ → Judged ℕ
known name None = Err (unknown_role name)
known name (Some n) = Ok n

-- the number of a role
unfoldable pub number_of : List (List ℕ) → List ℕ → Judged ℕ
number_of names name = known name (number_from 1 name names)

-- users and keep lists, in the byte order of their keys
abbrev pub users_of : List (List ℕ) → Members → Judged (List (List ℕ × ℕ))
users_of names no_members = Ok []
users_of names (member user d ms) = number_of names (text_of d) >>= (λ n. users_of names ms >>= (λ us. Ok ((user, n) ∷ us)))

abbrev pub keep_of : List (List ℕ) → Members → Judged (List (ℕ × List (List ℕ)))
keep_of names no_members = Ok []
keep_of names (member role d ms) = number_of names role >>= (λ n. keep_of names ms >>= (λ ks. Ok ((n, list_of (Some d)) ∷ ks)))

-- ---- the whole

unfoldable pub roles_in : Members → Judged RolesData
roles_in ms =
    guest_or (guest_text ms) >>= (λ guest.
    role_names ms >>= (λ names.
    number_of names guest >>= (λ n.
    users_of names (table_of (get_member (codes "users") ms)) >>= (λ us.
    keep_of names (table_of (get_member (codes "keep") ms)) >>= (λ ks.
    Ok (record { names = names; guest = n; users = us; keep = ks }))))))

-- what a file comes to: the first of its faults, or its roles
unfoldable pub roles_of : List ℕ → Judged RolesData
roles_of text =
    if nat_le (length text) max_file then (parsed text >>= (λ ms. well_formed ms >>= roles_in)) else Err (bad_form (codes "length"))
