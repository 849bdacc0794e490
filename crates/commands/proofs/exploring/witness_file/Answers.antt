use Rattle.std.proofs.Common.{inl, inr}
use Rattle.commands.proofs.BytesRead.{keeps_same}
use Rattle.commands.proofs.exploring.witness_file.Goals as goal

pub returns-in-Ok-clause-witnessed : goal.returns-in-Ok-clause-witnessed
returns-in-Ok-clause-witnessed g c = elim c.witness_input.ensures.witnessed [
  | inl h ↦ inl h
  | inr r ↦ inr (r.0, tt, r.2)
]

pub returns-in-Err-clause-witnessed : goal.returns-in-Err-clause-witnessed
returns-in-Err-clause-witnessed g c = inl (c.in-Err.ensures, keeps_same (g.S.Sink.bytes c.args.sink.now))
