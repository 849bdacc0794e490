use denote.Param.Send.{sendable}
use Rattle.run_workers.proofs.Crew.{crew_sync}
use Rattle.run_workers.proofs.tasks.run_crew.Goals as goal

pub start-requires-sync-F : goal.start-requires-sync-F
start-requires-sync-F g c κs within = search (sendable, crew_sync) depth 12
