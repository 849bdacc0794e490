use Rattle.std.proofs.Common.{◌≡◌, length}
use Rattle.run_interface.specs.Puts.{Taken}
use Rattle.run_interface.proofs.sink.put_bytes.Given as goal

abbrev pub invariant-loop-rest : goal.invariant-loop-rest
invariant-loop-rest g l = Taken (g.S.Sink.bytes l.initial.sink) (g.S.Sink.bytes l.sink) l.bytes l.rest × (g.S.Sink.failed l.sink ≡ g.S.Sink.failed l.initial.sink)

abbrev pub decreases-loop-rest : goal.decreases-loop-rest
decreases-loop-rest g l = length l.rest
