use Rattle.std.proofs.Common.{◌+◌, ◌<◌, length, length-set, get_or, ap, ◌∙◌, sym, subst, arith}
use Rattle.turn_store.specs.Told.{MayGive, alone, slots}
use Rattle.turn_store.specs.Alone.{words_of, values_of, words_and_values}
use Rattle.turn_store.proofs.Turnstiles.{may_give, may_give_changed, may_give_after_pin, slots_after_take, length_after_pin}
use Rattle.turn_store.proofs.tests.alone.pin_what_is_out.Goals as goal

pub give_back-requires : goal.give_back-requires
give_back-requires c = let told = words_and_values c.args.alone.now in let told' = words_and_values c.try_take.new.self in let t = c.in-Taken.taken in
    let had = may_give 0 told told' c.try_take.result t c.in-Taken.is c.requires c.try_take.ensures in
    let inside : 0 < length (words_of c.try_take.new.self) = (let n = slots_after_take 0 told told' c.try_take.result c.try_take.ensures in let r = c.requires in omega arith) in
    let after = may_give_after_pin 0 3 (words_of c.try_take.new.self) (words_of c.pin-pinned.new.self) (values_of c.try_take.new.self) c.pin-pinned.result t inside c.pin-pinned.ensures.word had in
    may_give_changed (words_and_values c.pin-pinned.new.self) t 12 (subst (λ vs. MayGive (alone (words_of c.pin-pinned.new.self) vs) t) (sym c.pin-pinned.ensures.values) after)

pub returns : goal.returns
returns c = let told = words_and_values c.args.alone.now in let told' = words_and_values c.try_take.new.self in let words = words_of c.pin-pinned.new.self in let k = c.in-Taken.taken.slot in
    ap (λ z. slots z) c.give_back.ensures ∙ (length-set words k (get_or words k 0 + 1) ∙ (length_after_pin 0 3 (words_of c.try_take.new.self) words c.pin-pinned.result c.pin-pinned.ensures.word
    ∙ slots_after_take 0 told told' c.try_take.result c.try_take.ensures))

pub returns-in_default : goal.returns-in_default
returns-in_default c = slots_after_take 0 (words_and_values c.args.alone.now) (words_and_values c.try_take.new.self) c.try_take.result c.try_take.ensures
