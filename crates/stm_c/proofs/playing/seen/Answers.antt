use Rattle.std.proofs.Common.{inl}
use Rattle.stm_c.proofs.Refused.{want_of_memory}
use Rattle.stm_c.proofs.playing.seen.Goals as goal

pub returns-clause-refused : goal.returns-clause-refused
returns-clause-refused c = inl (want_of_memory c.args.file.now)
