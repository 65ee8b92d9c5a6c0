use Rattle.std.proofs.Common.{rules, arith, ◌≡◌, List, Option, length, Some, sym, ap, ◌∙◌}
use lib.ListN.{get_elem?, length-map}
use Rattle.std.proofs.lemmas.Grind.{common_steps}
use Rattle.turn_store.proofs.Lonely.{all_home}
use Rattle.turn_store.proofs.alone.AloneTurns.new.Goals as goal

pub invariant_of-result : goal.invariant_of-result
invariant_of-result g c = let xs : List g.row.V.Denot = c.args.values.items in record {
  even = (let a = length-map xs (λ (v : g.row.V.Denot). Some v) in let b : length c.in-Ok.words.items ≡ length xs = first_of (search rules, grind (arith, common_steps)) in b ∙ (sym a ∙ ap (λ (l : List (Option g.row.V.Denot)). length l) (sym c.fill.ensures)));
  at_home = λ k _ _ e. all_home xs k (ap (λ (l : List (Option g.row.V.Denot)). get_elem? l k) (sym c.fill.ensures) ∙ e);
}
