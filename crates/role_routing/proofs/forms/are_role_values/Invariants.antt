use Rattle.std.proofs.Common.{◌≡◌, drop}
use Rattle.toml.specs.View.{items_view}
use Rattle.role_routing.specs.Forms.{all_items, is_role_value}
use Rattle.role_routing.proofs.forms.are_role_values.Given as goal

abbrev pub invariant-items : goal.invariant-items
invariant-items l = all_items is_role_value (items_view (drop l.item-index l.item-items)) ≡ all_items is_role_value (items_view l.item-items)
