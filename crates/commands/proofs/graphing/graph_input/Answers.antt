use Rattle.std.proofs.Common.{inl, inr}
use Rattle.commands.specs.Files.{file_limit}
use Rattle.commands.proofs.BytesRead.{keeps_same, read_as}
use Rattle.commands.proofs.graphing.graph_input.Goals as goal

pub returns-in-Ok-clause-drawn : goal.returns-in-Ok-clause-drawn
returns-in-Ok-clause-drawn g c =
    let read = read_as file_limit (g.I.Read.remaining c.args.input) c.in-Ok.bytes.items c.as_slice.result.now c.as_slice.ensures.value c.in-Ok.ensures.read in
    inr (c.as_slice.result.now, read, c.drawn.ensures.drawn)

pub returns-in-Err-clause-drawn : goal.returns-in-Err-clause-drawn
returns-in-Err-clause-drawn g c = inl (c.in-Err.ensures.unread, keeps_same (g.S.Sink.bytes c.args.sink.now))
