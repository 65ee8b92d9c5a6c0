use Rattle.std.proofs.Common.{◌≡◌}
use Rattle.toml.specs.View.{members_view}
use Rattle.role_routing.specs.Forms.{are_keep_lists}
use Rattle.role_routing.proofs.forms.are_keep_lists.Given as goal

abbrev pub invariant-members : goal.invariant-members
invariant-members l =
    (goal.iterator-members).can_next l.key-iterator × (goal.iterator-members).is_finite l.key-iterator
    × (are_keep_lists (members_view l.key-iterator) ≡ are_keep_lists (members_view l.lists.entries))
