-- The role that a session holds.
use Rattle.std.specs.Prelude.{List, [], ◌∷◌, ℕ, ◌&&◌, nat_lt, length, codes, if◌then◌else◌, Option, Some, None, unwrap_or}
use Rattle.std.specs.Str.{bytes_eq}
use Rattle.session_book.specs.declared.slot.Session.{Session}
use Rattle.session_book.specs.Kept.{text_at}
use Rattle.role_routing.specs.declared.roles.Roles.{Roles}
use Rattle.role_routing.specs.Names.{RolesData, data_of, is_number}

-- what the code's roles stand for
abbrev pub roles_data : Roles → RolesData
roles_data r = data_of r.names.items r.guest r.users.items r.keep.items

-- the role of a user
abbrev pub role_of : List ℕ → List (List ℕ × ℕ) → Option ℕ
role_of user [] = None
role_of user (u ∷ us) = if bytes_eq u.0 user then Some u.1 else role_of user us

-- that of the session's user, or the guest's
abbrev pub user_role : RolesData → Option (List ℕ) → ℕ
user_role roles None = roles.guest
user_role roles (Some user) = unwrap_or (role_of user roles.users) roles.guest

-- the guest's without a session; else the pin, where it is a role's number and was set since the session began; else the user's
abbrev pub role_held : RolesData → ℕ → ℕ → Option Session → ℕ
role_held roles pin change None = roles.guest
role_held roles pin change (Some s) =
    if is_number (length roles.names) pin && nat_lt s.born change then pin else user_role roles (text_at (codes "user") s.value)
