use Rattle.std.proofs.Common.{arith, ◌≡◌, ℕ, ◌+◌, List, length-set, set, Option, sym, ◌∙◌, subst}
use mathlib.Core.Option.{some, some-injective}
use lib.ListN.{get_elem?}
use Rattle.atomic_table.proofs.Lists.{at_index}
use Rattle.turn_store.proofs.Lonely.{AtHome, given_home}
use Rattle.turn_store.proofs.alone_turns.AloneTurnsTurnstile.give_back.Goals as goal

pub unreachable-requires : goal.unreachable-requires
unreachable-requires g c = let even = c.args.self.now.even in let values : List (Option g.row.V.Denot) = c.args.self.now.values.items in
    let here : get_elem? values c.args.taken.slot ≡ some c.index_mut-2.result.now = at_index values c.args.taken.slot c.index_mut-2.result.now (let r = c.requires.inside in omega arith) c.index_mut-2.ensures.value in
    c.in_default.not-None (c.replace-empty.ensures.value ∙ some-injective _ _ (sym here ∙ c.requires.empty))

pub invariant_of-self : goal.invariant_of-self
invariant_of-self g c = let even = c.args.self.now.even in let words : List ℕ = c.args.self.now.words.items in let values : List (Option g.row.V.Denot) = c.args.self.now.values.items in let k : ℕ = c.args.taken.slot in
    let given : AtHome (set words k (c.index_mut.result.now + 1)) (set values k c.replace-empty.new.dest) = subst (λ (x : Option g.row.V.Denot). AtHome (set words k (c.index_mut.result.now + 1)) (set values k x)) (sym c.replace-empty.ensures.after)
    (given_home words values k (c.index_mut.result.now + 1) c.args.taken.value c.args.self.now.at_home (let r = c.requires.inside in omega arith)) in record {
      even = length-set words k (c.index_mut.result.now + 1) ∙ (even ∙ sym (length-set values k c.replace-empty.new.dest));
      at_home = given;
    }
