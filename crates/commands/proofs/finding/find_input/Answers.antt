use Rattle.std.proofs.Common.{inl, inr}
use Rattle.commands.specs.Files.{file_limit}
use Rattle.commands.proofs.BytesRead.{keeps_same, read_as}
use Rattle.commands.proofs.finding.find_input.Goals as goal

pub returns-in-Ok-clause-found : goal.returns-in-Ok-clause-found
returns-in-Ok-clause-found g c =
    let read = read_as file_limit (g.I.Read.remaining c.args.input) c.in-Ok.bytes.items c.as_slice.result.now c.as_slice.ensures.value c.in-Ok.ensures.read in
    inr (c.as_slice.result.now, read, c.found.ensures.found)

pub returns-in-Err-clause-found : goal.returns-in-Err-clause-found
returns-in-Err-clause-found g c = inl (c.in-Err.ensures.unread, keeps_same (g.S.Sink.bytes c.args.sink.now))
