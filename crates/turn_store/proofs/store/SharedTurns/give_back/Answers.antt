use Rattle.std.proofs.Common.{rules, ◌∷◌, refl, sym, ap, ◌∙◌, subst, Some}
use Rattle.atomic_table.specs.Table.{rest}
use Rattle.turn_store.specs.Items.{InHeld}
use Rattle.turn_store.specs.Rule.{carried_of, is_handy}
use Rattle.turn_store.specs.Plays.{released}
use Rattle.turn_store.specs.Told.{hold_of}
use Rattle.turn_store.proofs.Turning.{fetches, releases}
use Rattle.turn_store.proofs.store.SharedTurns.give_back.Goals as goal

pub load-requires : goal.load-requires
load-requires g c = let took = c.requires.held in (search rules, search rules, fetches _ _ _ _ _ _ (hold_of c.args.taken) c.args.pass.now.at_rest.0 c.args.pass.now.at_rest.1 took refl c.requires.slot)

pub fetch_add-requires : goal.fetch_add-requires
fetch_add-requires g c = let took = c.requires.held in let got = c.load.ensures.2 in let now = c.exchange-empty.ensures.3 in let e = ap (λ m. m.1) now in
    let held = ap (λ m. m.0.held) now ∙ ap (λ m. m.0.held) got in (
      search rules,
      search rules,
      releases _ _ _ _ _ _ (hold_of c.args.taken) c.args.taken.value (ap (λ m. m.0.hand) now ∙ ap (λ m. m.0.hand) got)
          (subst (InHeld (hold_of c.args.taken)) (sym held) took) refl (e ∙ ap (λ cs. (c.args.taken.slot, Some c.args.taken.value) ∷ rest cs) (sym e)) c.requires.slot,
    )

pub invariant_of-pass : goal.invariant_of-pass
invariant_of-pass g c = let took = c.requires.held in let got = c.load.ensures.2 in let now = c.exchange-empty.ensures.3 in let e = ap (λ m. m.1) now in let did = c.fetch_add.ensures.2 in
    let held = ap (λ m. m.0.held) now ∙ ap (λ m. m.0.held) got in
    let is = did.1 (hold_of c.args.taken) c.args.taken.value (subst (InHeld (hold_of c.args.taken)) (sym held) took) refl (e ∙ ap (λ cs. (c.args.taken.slot, Some c.args.taken.value) ∷ rest cs) (sym e)) in
    let none = ap (λ d. d.hand) is in
    record { at_rest = ((did.0 ∙ (ap rest e ∙ ap (λ m. rest m.1) got)) ∙ ap carried_of (sym none), ap (λ h. is_handy h c.fetch_add.new.seat.me.0.held) none) }

pub returns-clause-given : goal.returns-clause-given
returns-clause-given g c = let had = c.requires.held in let got = c.load.ensures.2 in let now = c.exchange-empty.ensures.3 in let e = ap (λ m. m.1) now in let did = c.fetch_add.ensures.2 in
    let held = ap (λ m. m.0.held) now ∙ ap (λ m. m.0.held) got in
    let is = did.1 (hold_of c.args.taken) c.args.taken.value (subst (InHeld (hold_of c.args.taken)) (sym held) had) refl (e ∙ ap (λ cs. (c.args.taken.slot, Some c.args.taken.value) ∷ rest cs) (sym e)) in
    let view_is = is ∙ ap (λ m. released (hold_of c.args.taken) c.args.taken.value m.0) (now ∙ ap (λ m. (m.0, (c.args.taken.slot, Some c.args.taken.value) ∷ rest m.1)) got) in
    (ap (λ d. d.items) view_is, ap (λ d. d.held) view_is)
