use Rattle.std.proofs.Common.{[]}
use Rattle.runner.proofs.Gathering.{breaks_before, breaks_out, gathers_out, gathers_text, gathers_then, map_err, map_ok, on_err, then_breaks}
use Rattle.runner.proofs.pieces.put_end.Goals as goal

pub returns-in_err-make_room-clause-breaks : goal.returns-in_err-make_room-clause-breaks
returns-in_err-make_room-clause-breaks g c = on_err _ (breaks_before _ _ _ [] _ c.in_err-make_room.ensures.breaks)

pub returns-clause-gathers : goal.returns-clause-gathers
returns-clause-gathers g c =
    let so_far = gathers_text _ _ _ _ _ _ c.in_ok-make_room.ensures.gathers c.in-Ok.ensures.bytes in
    map_ok c.put_all.result (λ all. gathers_then _ _ _ _ _ [] _ [] so_far (gathers_out _ _ _ _ c.as_bytes.ensures.value all)) c.put_all.ensures.all

pub returns-clause-breaks : goal.returns-clause-breaks
returns-clause-breaks g c =
    let so_far = gathers_text _ _ _ _ _ _ c.in_ok-make_room.ensures.gathers c.in-Ok.ensures.bytes in
    map_err c.put_all.result (λ some. then_breaks _ _ _ _ _ _ [] so_far (breaks_out _ _ _ _ c.as_bytes.ensures.value some)) c.put_all.ensures.beginning
