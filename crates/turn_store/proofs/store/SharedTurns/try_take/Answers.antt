use Rattle.std.proofs.Common.{rules, arith, ◌∷◌, sym, ap, ◌∙◌, Some}
use Rattle.atomic_table.specs.Table.{rest}
use Rattle.turn_store.proofs.Turning.{takes_turn}
use Rattle.turn_store.proofs.store.SharedTurns.try_take.Goals as goal

pub fetch_or-word-requires : goal.fetch_or-word-requires
fetch_or-word-requires g c = (search rules, search rules, takes_turn _ _ _ _ _ _ c.args.pass.now.at_rest.0 c.args.pass.now.at_rest.1 c.requires.slot)

pub exchange-requires : goal.exchange-requires
exchange-requires g c = let h = c.generation-number.ensures in let t = c.fetch_or-word.ensures.2.2 (omega arith) (omega arith) in let e = ap (λ m. m.1) t.1 in
    (search rules, (Some t.0, e ∙ ap (λ cs. (c.args.slot, Some t.0) ∷ rest cs) (sym e)))
