use Rattle.std.proofs.Common.{◌≡◌, length}
use Rattle.order_map.specs.Chains.{IsLinked, slots_of}
use Rattle.order_map.proofs.index.Index.relink.Given as goal

abbrev pub invariant-loop-slot : goal.invariant-loop-slot
invariant-loop-slot g l = (length l.self.heads.items ≡ length l.initial.self.heads.items) × (length l.self.links.items ≡ length l.initial.self.links.items) × IsLinked (length l.self.heads.items) l.self.heads.items l.self.links.items (slots_of l.entries) l.slot
