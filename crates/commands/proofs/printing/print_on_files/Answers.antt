use Rattle.std.proofs.Common.{inl, inr}
use Rattle.commands.proofs.BytesRead.{keeps_same, any_report}
use Rattle.commands.proofs.printing.print_on_files.Goals as goal

pub returns-in-Ok-clause-printed : goal.returns-in-Ok-clause-printed
returns-in-Ok-clause-printed g c = elim c.print_on_inputs.ensures.printed [
  | inl h ↦ inl h
  | inr r ↦ inr (r.0, tt, (r.2.0, any_report r.0 _ r.2.0 r.2.1, r.2.2))
]

pub returns-in-Err-clause-printed : goal.returns-in-Err-clause-printed
returns-in-Err-clause-printed g c = inl (c.in-Err.ensures, keeps_same (g.S.Sink.bytes c.args.sink.now))
