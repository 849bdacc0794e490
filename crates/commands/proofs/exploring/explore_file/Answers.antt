use Rattle.std.proofs.Common.{inl, inr}
use Rattle.commands.proofs.BytesRead.{keeps_same}
use Rattle.commands.proofs.exploring.explore_file.Goals as goal

pub returns-in-Ok-clause-explored : goal.returns-in-Ok-clause-explored
returns-in-Ok-clause-explored g c = elim c.explore_input.ensures.explored [
  | inl h ↦ inl h
  | inr r ↦ inr (r.0, tt, r.2)
]

pub returns-in-Err-clause-explored : goal.returns-in-Err-clause-explored
returns-in-Err-clause-explored g c = inl (c.in-Err.ensures, keeps_same (g.S.Sink.bytes c.args.sink.now))
