use Rattle.std.proofs.Common.{◌≡◌}
use Rattle.toml.specs.View.{members_view}
use Rattle.role_routing.specs.Forms.{are_users}
use Rattle.role_routing.proofs.forms.are_users.Given as goal

abbrev pub invariant-members : goal.invariant-members
invariant-members l =
    (goal.iterator-members).can_next l._key-iterator × (goal.iterator-members).is_finite l._key-iterator
    × (are_users (members_view l._key-iterator) ≡ are_users (members_view l.users.entries))
