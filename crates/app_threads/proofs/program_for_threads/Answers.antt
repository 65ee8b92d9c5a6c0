use denote.Param.Send.{sendable}
use Rattle.app_threads.proofs.Crossing.{program_send, program_sync}
use Rattle.app_threads.proofs.program_for_threads.Goals as goal

pub for_threads-requires-send-T : goal.for_threads-requires-send-T
for_threads-requires-send-T c κs = search (sendable, program_send)

pub for_threads-requires-sync-T : goal.for_threads-requires-sync-T
for_threads-requires-sync-T c κs = search (sendable, program_sync)
