-- The role held is a role's number.
use Rattle.std.proofs.Common.{◌≡◌, ℕ, Bool, true, false, ◌&&◌, List, [], ◌∷◌, length, codes, Option, Some, None, IsTrue, if◌then◌else◌, unwrap_or, refl, sym, nat_lt}
use Rattle.std.specs.List.{list_all}
use Rattle.std.specs.Str.{bytes_eq}
use Rattle.order_map.proofs.Keys.{and_left, and_right}
use Rattle.session_book.specs.declared.slot.Session.{Session}
use Rattle.session_book.specs.Kept.{text_at}
use Rattle.role_routing.specs.Names.{RolesData, are_names, are_roles, is_number}
use Rattle.role_routing.specs.Held.{role_of, user_role, role_held}

user_step : (count guest : ℕ) (b : Bool) (r : ℕ) (rest : Option ℕ) → IsTrue (is_number count r) → IsTrue (is_number count (unwrap_or rest guest)) → IsTrue (is_number count (unwrap_or (if b then Some r else rest) guest))
user_step count guest true r rest h ih = h
user_step count guest false r rest h ih = ih

users-role : (count guest : ℕ) (user : List ℕ) (us : List (List ℕ × ℕ)) → IsTrue (is_number count guest) → IsTrue (list_all (λ u. is_number count u.1) us) → IsTrue (is_number count (unwrap_or (role_of user us) guest))
users-role count guest user [] g h = g
users-role count guest user (u ∷ us) g h =
    user_step count guest (bytes_eq u.0 user) u.1 (role_of user us) (and_left _ _ h) (users-role count guest user us g (and_right (is_number count u.1) _ h))

pub guest-sound : (r : RolesData) → IsTrue (are_roles r) → IsTrue (is_number (length r.names) r.guest)
guest-sound r h = and_right (are_names r.names) _ (and_left (are_names r.names && is_number (length r.names) r.guest) _ h)

pub user-sound : (r : RolesData) (user : Option (List ℕ)) → IsTrue (are_roles r) → IsTrue (is_number (length r.names) (user_role r user))
user-sound r None h = guest-sound r h
user-sound r (Some user) h =
    users-role (length r.names) r.guest user r.users (guest-sound r h)
    (and_left (list_all (λ u. is_number (length r.names) u.1) r.users) _ (and_right (are_names r.names && is_number (length r.names) r.guest) _ h))

pin_step : (count pin user : ℕ) (a b : Bool) → a ≡ is_number count pin → IsTrue (is_number count user) → IsTrue (is_number count (if a && b then pin else user))
pin_step count pin user true true e h = sym e
pin_step count pin user true false e h = h
pin_step count pin user false b e h = h

pub held-sound : (r : RolesData) (pin change : ℕ) (session : Option Session) → IsTrue (are_roles r) → IsTrue (is_number (length r.names) (role_held r pin change session))
held-sound r pin change None h = guest-sound r h
held-sound r pin change (Some s) h =
    pin_step (length r.names) pin (user_role r (text_at (codes "user") s.value)) (is_number (length r.names) pin) (nat_lt s.born change) refl (user-sound r (text_at (codes "user") s.value) h)
