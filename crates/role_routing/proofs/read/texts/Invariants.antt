use Rattle.std.proofs.Common.{◌≡◌, ◌++◌, drop, map, string_bytes}
use Rattle.toml.specs.View.{items_view}
use Rattle.role_routing.specs.Files.{texts_of}
use Rattle.role_routing.proofs.read.texts.Given as goal

abbrev pub invariant-items : goal.invariant-items
invariant-items l = map string_bytes l.texts.items ++ texts_of (items_view (drop l.item-index l.item-items)) ≡ texts_of (items_view l.item-items)
