use Rattle.std.proofs.Common.{rules, arith, ◌≡◌, ℕ, ◌*◌, List, Option, Some, length, map, replicate, sym, subst}
use Rattle.std.proofs.lemmas.Grind.{common_steps}
use Rattle.atomic_table.specs.Table.{opening}
use Rattle.turn_store.specs.Rule.{IsLockState, beginner}
use Rattle.turn_store.proofs.Starting.{starts}
use Rattle.turn_store.proofs.open.lay.Goals as goal

pub new-requires : goal.new-requires
new-requires g c = let W : Type 0 = List g.row.V.Denot in let S : Type 0 = List (Option g.row.V.Denot) in
    let words : c.as_slice.result.now ≡ replicate c.len.result (c.args.first * 2) = first_of (search rules, grind (arith, common_steps)) in
    let slots : c.in_ok-slots.slots.items ≡ map Some c.args.values.items = first_of (search rules, grind (arith, common_steps)) in
    let values : c.of.result.value.items ≡ c.args.values.items = first_of (search rules, grind (arith, common_steps)) in
    let many : c.len.result ≡ length c.args.values.items = first_of (search rules, grind (arith, common_steps)) in
    let P : W × List ℕ × S → Type 0 = λ z. IsLockState c.args.first z.0 (opening z.1 z.2 beginner) in
    subst P (λ i. (sym values i, sym words i, sym slots i)) (starts c.args.first c.len.result c.args.values.items (omega arith) many)
