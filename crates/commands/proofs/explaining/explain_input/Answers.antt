use Rattle.std.proofs.Common.{inl, inr}
use Rattle.commands.specs.Files.{file_limit}
use Rattle.commands.proofs.BytesRead.{keeps_same, read_as}
use Rattle.commands.proofs.explaining.explain_input.Goals as goal

pub returns-in-Ok-clause-explained : goal.returns-in-Ok-clause-explained
returns-in-Ok-clause-explained g c =
    let read = read_as file_limit (g.I.Read.remaining c.args.input) c.in-Ok.bytes.items c.as_slice.result.now c.as_slice.ensures.value c.in-Ok.ensures.read in
    inr (c.as_slice.result.now, read, c.explained.ensures.explained)

pub returns-in-Err-clause-explained : goal.returns-in-Err-clause-explained
returns-in-Err-clause-explained g c = inl (c.in-Err.ensures.unread, keeps_same (g.S.Sink.bytes c.args.sink.now))
