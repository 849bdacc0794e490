use Rattle.std.proofs.Common.{inl, inr}
use Rattle.commands.proofs.BytesRead.{keeps_same}
use Rattle.commands.proofs.finding.find_file.Goals as goal

pub returns-in-Ok-clause-found : goal.returns-in-Ok-clause-found
returns-in-Ok-clause-found g c = elim c.find_input.ensures.found [
  | inl h ↦ inl h
  | inr r ↦ inr (r.0, tt, r.2)
]

pub returns-in-Err-clause-found : goal.returns-in-Err-clause-found
returns-in-Err-clause-found g c = inl (c.in-Err.ensures, keeps_same (g.S.Sink.bytes c.args.sink.now))
