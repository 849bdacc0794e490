use Rattle.std.proofs.Common.{inl, inr}
use Rattle.commands.proofs.BytesRead.{keeps_same, any_report}
use Rattle.commands.proofs.checking.check_files.Goals as goal

pub returns-in-Ok-clause-checked : goal.returns-in-Ok-clause-checked
returns-in-Ok-clause-checked g c = elim c.check_inputs.ensures.checked [
  | inl h ↦ inl h
  | inr r ↦ inr (r.0, tt, (r.2.0, any_report r.0 _ r.2.0 r.2.1, r.2.2))
]

pub returns-in-Err-clause-checked : goal.returns-in-Err-clause-checked
returns-in-Err-clause-checked g c = inl (c.in-Err.ensures, keeps_same (g.S.Sink.bytes c.args.sink.now))
