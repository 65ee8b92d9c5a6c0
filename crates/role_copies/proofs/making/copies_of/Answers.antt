use Rattle.std.proofs.Common.{◌∙◌, ap}
use Rattle.std.specs.List.{list_all}
use Rattle.role_copies.specs.Alike.{are_alike}
use Rattle.role_copies.proofs.Walks.{sound_of_first}
use Rattle.role_copies.proofs.making.copies_of.Goals as goal

pub invariant_of-result : goal.invariant_of-result
invariant_of-result c =
    let all = c.all_alike.ensures ∙ ap (list_all (are_alike c.files-first.result.now)) c.deref.ensures.value in
    record {
      sound = sound_of_first c.args.programs.items c.files-first.result.now c.index.result.now c.in_ok-statics.statics.items c.all_alike.result c.requires.some
          (c.files-first.ensures.files ∙ c.index.ensures) all c.if-not-all_alike.false c.in_ok-statics.ensures;
    }
