use Rattle.std.proofs.Common.{inl, inr}
use Rattle.commands.specs.Files.{file_limit}
use Rattle.commands.proofs.BytesRead.{keeps_same, read_as, report_as}
use Rattle.commands.proofs.explaining.explain_on_inputs.Goals as goal

pub returns-in-Ok-clause-explained : goal.returns-in-Ok-clause-explained
returns-in-Ok-clause-explained g c =
    let file = read_as file_limit (g.I.Read.remaining c.args.file) c.in-Ok.file.items c.as_slice.result.now c.as_slice.ensures.value c.in-Ok.ensures.first in
    let report = report_as (g.J.Read.remaining c.args.report) c.in-Ok.file.items c.as_slice.result.now c.in-Ok.report.items c.as_slice-in-Ok.result.now c.as_slice.ensures.value c.as_slice-in-Ok.ensures.value c.in-Ok.ensures.second in
    inr (c.as_slice.result.now, file, (c.as_slice-in-Ok.result.now, report, c.explained_on.ensures.explained))

pub returns-in-Err-clause-explained : goal.returns-in-Err-clause-explained
returns-in-Err-clause-explained g c = inl (c.in-Err.ensures.unread, keeps_same (g.S.Sink.bytes c.args.sink.now))
