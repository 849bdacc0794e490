use Rattle.std.proofs.Common.{◌≡◌, ◌≤◌, ℕ, drop, take, length}
use Rattle.attempt_writes.specs.Known.{Known}
use Rattle.attempt_writes.specs.Own.{undone, AreHinted, AreInside, AreListed, AreNotedListed}
use Rattle.attempt_writes.proofs.note.undo.Given as goal

abbrev pub invariant-loop-notes : goal.invariant-loop-notes
invariant-loop-notes l = record {
  wide : length l.table ≡ length l.fn.table;
  hints : length l.noted ≡ length l.fn.noted;
  same : length l.fn.noted ≡ length l.fn.table;
  above : l.height ≤ length l.notes.items;
  inside : AreInside (length l.table) l.notes.items;
  front : take l.height l.notes.items ≡ take l.height l.fn.notes.items;
  hinted : AreHinted 0 l.notes.items l.noted;
  to : (h : ℕ) → h ≤ l.height → undone (drop h l.notes.items) l.table ≡ undone (drop h l.fn.notes.items) l.fn.table;
  noted : (pairs : Known) → AreNotedListed pairs l.fn.notes.items → AreNotedListed pairs l.notes.items;
  all : (pairs : Known) → AreNotedListed pairs l.fn.notes.items → AreListed pairs l.fn.table → AreListed pairs l.table;
}

abbrev pub decreases-loop-notes : goal.decreases-loop-notes
decreases-loop-notes l = length l.notes.items
