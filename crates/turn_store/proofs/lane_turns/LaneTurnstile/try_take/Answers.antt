use Rattle.turn_store.specs.Told.{lane}
use Rattle.turn_store.proofs.lane_turns.LaneTurnstile.try_take.Goals as goal

pub returns : goal.returns
returns g c = let did = c.try_take.ensures.take in (did.0, λ i. lane c.args.self.now.store.now (did.1 i) (did.2 i))
