use Rattle.std.proofs.Common.{◌≡◌, ◌≤◌, drop, take, length}
use Rattle.txn_evaluator.specs.Notes.{undone, AreInside}
use Rattle.txn_evaluator.proofs.notes.undo.Given as goal

abbrev pub invariant-loop-notes : goal.invariant-loop-notes
invariant-loop-notes l = record {
  above : l.height ≤ length l.notes.items;
  front : take l.height l.notes.items ≡ take l.height l.fn.notes.items;
  inside : AreInside (length l.state) (drop l.height l.notes.items);
  to : undone (drop l.height l.notes.items) l.state ≡ undone (drop l.height l.fn.notes.items) l.fn.state;
}

abbrev pub decreases-loop-notes : goal.decreases-loop-notes
decreases-loop-notes l = length l.notes.items
