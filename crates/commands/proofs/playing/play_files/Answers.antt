use Rattle.std.proofs.Common.{inl, inr}
use Rattle.commands.proofs.BytesRead.{keeps_same}
use Rattle.commands.proofs.playing.play_files.Goals as goal

pub returns-in-Ok-clause-played : goal.returns-in-Ok-clause-played
returns-in-Ok-clause-played g c = elim c.play_inputs.ensures.played [
  | inl h ↦ inl h
  | inr r ↦ inr (r.0, tt, (r.2.0, tt, r.2.2))
]

pub returns-in-Err-clause-played : goal.returns-in-Err-clause-played
returns-in-Err-clause-played g c = inl (c.in-Err.ensures, keeps_same (g.S.Sink.bytes c.args.sink.now))
