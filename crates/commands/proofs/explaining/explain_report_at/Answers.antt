use Rattle.std.proofs.Common.{inl, inr}
use Rattle.commands.proofs.BytesRead.{keeps_same, any_report}
use Rattle.commands.proofs.explaining.explain_report_at.Goals as goal

pub returns-in-Ok-clause-explained : goal.returns-in-Ok-clause-explained
returns-in-Ok-clause-explained g c = elim c.explain_on_inputs.ensures.explained [
  | inl h ↦ inl h
  | inr r ↦ inr (r.0, tt, (r.2.0, any_report r.0 _ r.2.0 r.2.1, r.2.2))
]

pub returns-in-Err-clause-explained : goal.returns-in-Err-clause-explained
returns-in-Err-clause-explained g c = inl (c.in-Err.ensures, keeps_same (g.S.Sink.bytes c.args.sink.now))
