use Rattle.std.proofs.Common.{arith}
use Rattle.txn_programs.specs.declared.limits.TheConstants.{MAX_VALUES}
use Rattle.book.proofs.Noting.{note_inside}
use Rattle.book.proofs.written.list_places.Goals as goal

pub overflow_cast-note : goal.overflow_cast-note
overflow_cast-note c =
    omega (arith, note_inside MAX_VALUES c.args.notes.now c.loop-note.note-index (record { place = 0; old = lib.IntN.pos 0 }) c.requires c.loop-note-test.true)
