use Rattle.std.proofs.Common.{inl, inr}
use Rattle.commands.proofs.BytesRead.{keeps_same}
use Rattle.commands.proofs.graphing.graph_file.Goals as goal

pub returns-in-Ok-clause-drawn : goal.returns-in-Ok-clause-drawn
returns-in-Ok-clause-drawn g c = elim c.graph_input.ensures.drawn [
  | inl h ↦ inl h
  | inr r ↦ inr (r.0, tt, r.2)
]

pub returns-in-Err-clause-drawn : goal.returns-in-Err-clause-drawn
returns-in-Err-clause-drawn g c = inl (c.in-Err.ensures, keeps_same (g.S.Sink.bytes c.args.sink.now))
