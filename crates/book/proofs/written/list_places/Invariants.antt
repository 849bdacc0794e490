use Rattle.std.proofs.Common.{◌≡◌, map, take}
use Rattle.book.specs.Written.{place_of}
use Rattle.book.proofs.written.list_places.Given as goal

abbrev pub invariant-loop-note : goal.invariant-loop-note
invariant-loop-note l = l.places.items ≡ map place_of (take l.note-index l.notes)
