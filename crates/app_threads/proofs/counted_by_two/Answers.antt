use denote.Param.Send.{sendable}
use Rattle.app_threads.proofs.Crossing.{program_sync}
use Rattle.app_threads.proofs.counted_by_two.Goals as goal

pub join-requires-send-F : goal.join-requires-send-F
join-requires-send-F g c κs within = search (sendable, program_sync) depth 20
