use Rattle.std.proofs.Common.{◌≡◌, map, take, get_or}
use Rattle.txn_evaluator.specs.declared.notes.Note.{Note}
use Rattle.checker.proofs.raise.versions_of.Given as goal

abbrev pub invariant-notes : goal.invariant-notes
invariant-notes l = l.found.items ≡ map (λ (n : Note). get_or l.versions n.place 0) (take l.note-index l.notes)
