use Rattle.std.proofs.Common.{◌≡◌, ◌≤◌, ◌∙◌, sym, subst, ap, map, length, string_bytes, arith}
use Rattle.std.proofs.lemmas.List.{length-map}
use Rattle.role_routing.specs.Held.{roles_data}
use Rattle.role_copies.specs.Alike.{static_texts}
use Rattle.role_copies.specs.Kept.{AreCopies}
use Rattle.role_copies.proofs.Walks.{sound_of_same, some_role}
use Rattle.role_copies.proofs.making.unchanged_copies.Goals as goal

pub invariant_of-result : goal.invariant_of-result
invariant_of-result c =
    let some = some_role (roles_data c.args.roles.now) c.args.roles.now.sound in
    let names : length (map string_bytes c.args.roles.now.names.items) ≡ length c.args.roles.now.names.items = grind (arith, length-map) in
    let counted = c.len-count.ensures in
    let ended = c.loop-test.false in
    let one : 1 ≤ c.loop.counter = omega arith in
    record {
      sound = subst (λ programs. AreCopies programs c.in_ok-statics.statics.items) (sym c.loop.invariant)
          (sound_of_same c.loop.counter c.args.app.now c.in_ok-statics.statics.items one (c.in_ok-statics.ensures ∙ ap static_texts c.files.ensures.files));
    }
