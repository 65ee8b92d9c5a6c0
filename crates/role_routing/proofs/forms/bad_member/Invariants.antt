use Rattle.std.proofs.Common.{◌≡◌}
use Rattle.toml.specs.View.{members_view}
use Rattle.role_routing.specs.Forms.{bad_member}
use Rattle.role_routing.proofs.forms.bad_member.Given as goal

abbrev pub invariant-members : goal.invariant-members
invariant-members l =
    (goal.iterator-members).can_next l.key-iterator × (goal.iterator-members).is_finite l.key-iterator
    × (bad_member (members_view l.key-iterator) ≡ bad_member (members_view l.table.entries))
