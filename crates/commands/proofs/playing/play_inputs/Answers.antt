use Rattle.std.proofs.Common.{inl, inr}
use Rattle.commands.specs.Files.{file_limit, schedule_limit}
use Rattle.commands.proofs.BytesRead.{keeps_same, read_as}
use Rattle.commands.proofs.playing.play_inputs.Goals as goal

pub returns-in-Ok-clause-played : goal.returns-in-Ok-clause-played
returns-in-Ok-clause-played g c =
    let file = read_as file_limit (g.I.Read.remaining c.args.file) c.in-Ok.file.items c.as_slice.result.now c.as_slice.ensures.value c.in-Ok.ensures.first in
    let other = read_as schedule_limit (g.J.Read.remaining c.args.schedule) c.in-Ok.schedule.items c.as_slice-in-Ok.result.now c.as_slice-in-Ok.ensures.value c.in-Ok.ensures.second in
    inr (c.as_slice.result.now, file, (c.as_slice-in-Ok.result.now, other, c.answered.ensures.played))

pub returns-in-Err-clause-played : goal.returns-in-Err-clause-played
returns-in-Err-clause-played g c = inl (c.in-Err.ensures.unread, keeps_same (g.S.Sink.bytes c.args.sink.now))
