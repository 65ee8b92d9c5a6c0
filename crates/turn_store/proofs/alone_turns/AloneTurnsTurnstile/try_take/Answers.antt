use Rattle.std.proofs.Common.{rules, arith, ◌≡◌, ℕ, List, length-set, set, get_or, Option, Some, sym, refl, ap, ◌∙◌, bit_or}
use mathlib.Core.Option.{some}
use lib.ListN.{get_elem?}
use Rattle.atomic_table.proofs.Lists.{at_index}
use Rattle.std.proofs.lemmas.Grind.{common_steps}
use Rattle.turn_store.specs.Told.{alone}
use Rattle.turn_store.specs.Words.{taken_of}
use Rattle.turn_store.proofs.Lonely.{marked_home, marked_only, is_some}
use Rattle.turn_store.proofs.alone_turns.AloneTurnsTurnstile.try_take.Goals as goal

pub invariant_of-self : goal.invariant_of-self
invariant_of-self g c = let words : List ℕ = c.args.self.now.words.items in
    record { even = length-set words c.args.slot (bit_or c.index-word.result.now 1) ∙ c.args.self.now.even; at_home = marked_only words c.args.self.now.values.items c.args.slot c.index-word.result.now c.args.self.now.at_home c.requires }

pub invariant_of-self-then-word-eq1 : goal.invariant_of-self-then-word-eq1
invariant_of-self-then-word-eq1 g c = let words : List ℕ = c.args.self.now.words.items in
    record { even = length-set words c.args.slot (bit_or c.index-word.result.now 1) ∙ c.args.self.now.even; at_home = marked_only words c.args.self.now.values.items c.args.slot c.index-word.result.now c.args.self.now.at_home c.requires }

pub invariant_of-self-2 : goal.invariant_of-self-2
invariant_of-self-2 g c = let words : List ℕ = c.args.self.now.words.items in let values : List (Option g.row.V.Denot) = c.args.self.now.values.items in record {
  even = length-set words c.args.slot (bit_or c.index-word.result.now 1) ∙ (c.args.self.now.even ∙ sym (length-set values c.args.slot c.replace.new.dest));
  at_home = marked_home words values c.args.slot c.index-word.result.now c.replace.new.dest c.args.self.now.at_home c.requires;
}

pub unwrap-value-requires : goal.unwrap-value-requires
unwrap-value-requires g c = let even = c.args.self.now.even in let values : List (Option g.row.V.Denot) = c.args.self.now.values.items in let within = c.requires in
    let here : get_elem? values c.args.slot ≡ some c.index_mut-2.result.now = at_index values c.args.slot c.index_mut-2.result.now (omega arith) c.index_mut-2.ensures.value in
    let found : c.index-word.result.now ≡ get_or c.args.self.now.words.items c.args.slot 0 = first_of (search rules, grind (arith, common_steps)) in
    let bit = c.if-word-eq1.false in
    let clear : taken_of (get_or c.args.self.now.words.items c.args.slot 0) ≡ 0 = ap (λ (z : ℕ). taken_of z) (sym found) ∙ (omega arith) in
    is_some c.replace.result (λ e. c.args.self.now.at_home c.args.slot within clear (here ∙ ap some (sym c.replace.ensures.value ∙ e)))

pub returns : goal.returns
returns g c = let even = c.args.self.now.even in let values : List (Option g.row.V.Denot) = c.args.self.now.values.items in let within = c.requires in
    let here : get_elem? values c.args.slot ≡ some c.index_mut-2.result.now = at_index values c.args.slot c.index_mut-2.result.now (omega arith) c.index_mut-2.ensures.value in
    let taken : c.index_mut-2.result.now ≡ Some c.unwrap-value.result = first_of (search rules, grind (arith, common_steps)) in
    let found : c.index-word.result.now ≡ get_or c.args.self.now.words.items c.args.slot 0 = first_of (search rules, grind (arith, common_steps)) in (
      record {
        free = first_of (search rules, grind (arith, common_steps));
        room = first_of (search rules, grind (arith, common_steps));
        slot = refl;
        number = first_of (search rules, grind (arith, common_steps));
        change = first_of (search rules, grind (arith, common_steps));
        pin = first_of (search rules, grind (arith, common_steps));
        unchanged = first_of (search rules, grind (arith, common_steps));
      },
      (_, (here ∙ ap some taken, refl), λ i. alone (set c.args.self.now.words.items c.args.slot (bit_or (found i) 1)) (set values c.args.slot (c.replace.ensures.after i))),
    )
