use Rattle.std.proofs.Common.{◌≡◌, ◌++◌, ◌∷◌, [], map, string_bytes, lit<, ap, ◌∙◌}
use Rattle.std.specs.List.{filter_map}
use Rattle.app_reading.specs.Parts.{part_of}
use Rattle.app_reading.proofs.Cut.{parts_told, visible_all}
use Rattle.app_reading.proofs.paths.part_paths.Goals as goal

pub returns-clause-paths : goal.returns-clause-paths
returns-clause-paths g c =
    let front : c.deref-2.result.now ≡ c.args.below.now ++ 47 ∷ [] = c.deref-2.ensures ∙ c.in_ok-push.ensures.bytes
    ∙ ap (λ slash. string_bytes c.in_ok-front.front ++ slash) (c.in_ok-push.ensures.ascii (lit< tt))
    ∙ ap (λ bytes. bytes ++ 47 ∷ []) c.in_ok-front.ensures.ok in
    let parts = c.in_ok-paths.ensures ∙ ap (λ listed. filter_map (part_of c.deref-2.result.now) (map string_bytes listed)) c.deref.ensures.value in
    parts_told c.args.below.now c.deref-2.result.now _ _ _ _ front c.in_ok-listed.ensures.paths parts c.put_in_order.ensures.ascending c.put_in_order.ensures.same

pub returns-clause-visible : goal.returns-clause-visible
returns-clause-visible g c = visible_all c.deref-2.result.now _ _ _ c.in_ok-paths.ensures c.put_in_order.ensures.same
