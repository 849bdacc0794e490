use Rattle.std.proofs.Common.{inl, inr}
use Rattle.commands.proofs.BytesRead.{keeps_same}
use Rattle.commands.proofs.finding.find_as.Goals as goal

pub returns-in-Some-clause-found : goal.returns-in-Some-clause-found
returns-in-Some-clause-found g c = inr (c.in-Some.outcome, c.in-Some.ensures.known, c.find_file.ensures.found)

pub returns-in-None-clause-found : goal.returns-in-None-clause-found
returns-in-None-clause-found g c = inl (c.in-None.ensures.unknown, c.no_such_outcome.ensures, keeps_same (g.S.Sink.bytes c.args.sink.now))
