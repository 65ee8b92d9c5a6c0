use Rattle.std.proofs.Common.{◌≡◌, ◌++◌, ◌+◌, drop, ap, ◌∙◌}
use Rattle.app_load.specs.Stubs.{stub_places}
use Rattle.app_load.proofs.Keys.{drop_next}
use Rattle.app_load.proofs.stub.stub_places.Goals as goal

pub loop-function-preserved : goal.loop-function-preserved
loop-function-preserved c = c.in_ok-note_place.ensures (drop (c.loop-function.function-index + 1) c.args.functions.now)
    ∙ ap (λ z. c.loop-function.places.items ++ stub_places c.args.path.now c.args.text.now z) (drop_next c.args.functions.now c.loop-function.function-index c.function-item.result c.loop-function-test.true c.function-item.is)
    ∙ c.loop-function.invariant
