use Rattle.std.proofs.Common.{◌≡◌, map, take}
use Rattle.book.specs.Written.{write_at}
use Rattle.book.proofs.written.list_writes.Given as goal

abbrev pub invariant-loop-place : goal.invariant-loop-place
invariant-loop-place l = l.writes.items ≡ map (write_at l.values) (take l.place-index l.places)
