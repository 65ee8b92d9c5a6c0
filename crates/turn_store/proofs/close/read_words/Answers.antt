use Rattle.std.proofs.Common.{rules, arith, ◌++◌, ◌∷◌, [], sym, ap, ◌∙◌}
use Rattle.std.proofs.lemmas.Grind.{common_steps}
use Rattle.std.specs.Slots.{slots_items}
use Rattle.turn_store.proofs.Taking.{take_more}
use Rattle.turn_store.proofs.close.read_words.Goals as goal

pub loop-i-preserved : goal.loop-i-preserved
loop-i-preserved g c = (
  c.push_reserved.ensures.items ∙ (ap (λ l. l ++ c.word.result ∷ []) c.loop-i.invariant.0 ∙ sym (take_more (slots_items c.args.closed.now.words) c.loop-i.i c.word.result c.word.ensures)),
  first_of (search rules, grind (arith, common_steps)),
)
