use Rattle.std.proofs.Common.{inl, inr}
use Rattle.commands.proofs.BytesRead.{keeps_same}
use Rattle.commands.proofs.running.run_file.Goals as goal

pub returns-in-Ok-clause-ran : goal.returns-in-Ok-clause-ran
returns-in-Ok-clause-ran g c = elim c.run_input.ensures.ran [
  | inl h ↦ inl h
  | inr r ↦ inr (r.0, tt, r.2)
]

pub returns-in-Err-clause-ran : goal.returns-in-Err-clause-ran
returns-in-Err-clause-ran g c = inl (c.in-Err.ensures, keeps_same (g.S.Sink.bytes c.args.sink.now))
