-- Roles.
use Rattle.std.specs.Prelude.{List, [], ◌∷◌, ◌++◌, ℕ, Bool, ◌&&◌, nat_le, length, map, if◌then◌else◌, Option, Some, None, is_none, String, Vec, string_bytes}
use Rattle.std.specs.List.{list_all, list_any}
use Rattle.std.specs.Str.{bytes_eq}
use Rattle.std.specs.declared.alloc.Global.{Global}
use Rattle.less_terms.specs.Forms.{is_role}

-- the names of roles in their order, and by a role's number, from 1 in that order: the guest's role, the role of each
-- user, and the texts of each keep list
pub record RolesData : Type 0 where
  pub names : List (List ℕ)
  pub guest : ℕ
  pub users : List (List ℕ × ℕ)
  pub keep : List (ℕ × List (List ℕ))

abbrev pub user_of : String Global × ℕ → List ℕ × ℕ
user_of u = (string_bytes u.0, u.1)

abbrev pub keep_of : ℕ × Vec (String Global) Global → ℕ × List (List ℕ)
keep_of k = (k.0, map string_bytes k.1.items)

abbrev pub data_of : List (String Global) → ℕ → List (String Global × ℕ) → List (ℕ × Vec (String Global) Global) → RolesData
data_of names guest users keep = record { names = map string_bytes names; guest = guest; users = map user_of users; keep = map keep_of keep }

-- the greatest count of roles
abbrev pub max_roles : ℕ
max_roles = 16

-- the first of some names that stands again, behind others
abbrev pub again : List (List ℕ) → List (List ℕ) → Option (List ℕ)
again before [] = None
again before (n ∷ ns) = if list_any (bytes_eq n) before then Some n else again (before ++ n ∷ []) ns

-- 1 to 16 names of a role's form, none twice
abbrev pub are_names : List (List ℕ) → Bool
are_names ns = (nat_le 1 (length ns) && nat_le (length ns) max_roles) && (list_all is_role ns && is_none (again [] ns))

-- a role's number, of so many roles
abbrev pub is_number : ℕ → ℕ → Bool
is_number count n = nat_le 1 n && nat_le n count

-- names as they are to be, and numbers of these roles
abbrev pub are_roles : RolesData → Bool
are_roles r =
    (are_names r.names && is_number (length r.names) r.guest)
    && (list_all (λ u. is_number (length r.names) u.1) r.users && list_all (λ k. is_number (length r.names) k.0) r.keep)
