use Rattle.std.proofs.Common.{◌≡◌, ◌≤◌, take, vec_capacity}
use Rattle.std.specs.Slots.{slots_items, slots_len}
use Rattle.turn_store.proofs.close.read_words.Given as goal

abbrev pub invariant-loop-i : goal.invariant-loop-i
invariant-loop-i g l = (l.words.items ≡ take l.i (slots_items l.closed.words)) × (slots_len l.closed.words ≤ vec_capacity l.words)
