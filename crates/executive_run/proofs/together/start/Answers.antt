use denote.Param.Send.{sendable}
use Rattle.executive_run.proofs.Threads.{Crew-send}
use Rattle.executive_run.proofs.together.start.Goals as goal

pub spawn-requires-send-F : goal.spawn-requires-send-F
spawn-requires-send-F g c κs within = search (sendable, Crew-send, c.type_bounds.sync-R, c.type_bounds.sync-G) depth 20
