use denote.Param.Send.{sendable}
use Rattle.std.proofs.Crossing.{crosses, sync}
use Rattle.stm_service.proofs.Crossing.{service_sync}
use Rattle.stm_service.proofs.front.Front.TheSendSync as front
use Rattle.stm_service_tests.proofs.played.Act.TheSendSync as act
use Rattle.stm_service_tests.proofs.played.side_by_side.Goals as goal

pub map_indices-all-requires-sync-F : goal.map_indices-all-requires-sync-F
map_indices-all-requires-sync-F g c κs within =
    let a = act.the_send in
    let b = act.the_sync in
    let s = service_sync _ g.N.Naming c.type_bounds.send-N in
    let h = sync in
    let f = front.the_sync g.row.N g.N.Naming in
    search (sendable, crosses) depth 20
