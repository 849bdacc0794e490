use Rattle.std.proofs.Common.{◌≡◌, ◌≤◌, ◌-◌, ◌++◌, ℕ, ℤ, List, Option, drop, take, length}
use Rattle.attempt_writes.specs.Known.{Known}
use Rattle.attempt_writes.specs.Own.{undone, hints_before, AreApart, AreHinted, AreInside, AreNotedListed}
use Rattle.attempt_writes.proofs.written.join.Given as goal

abbrev pub invariant-loop-i : goal.invariant-loop-i
invariant-loop-i l = record {
  above : l.height ≤ l.kept;
  before : l.kept ≤ l.i;
  within : l.i ≤ length l.notes;
  same : length l.notes ≡ length l.fn.notes;
  hints : length l.noted ≡ length l.fn.noted;
  inside : AreInside (length l.noted) (drop l.i l.notes);
  front : take l.height l.notes ≡ take l.height l.fn.notes;
  hinted : AreHinted 0 (take l.kept l.notes) (hints_before (drop l.i l.notes) l.noted);
  apart : AreApart (drop l.low (take l.kept l.notes));
  rest : AreApart (drop l.i l.notes);
  to : (h : ℕ) → h ≤ l.low → (table : List (Option ℤ)) → undone (drop h (take l.kept l.notes ++ drop l.i l.notes)) table ≡ undone (drop h l.fn.notes) table;
  listed : (pairs : Known) → AreNotedListed pairs l.fn.notes → AreNotedListed pairs (take l.kept l.notes ++ drop l.i l.notes);
}

abbrev pub decreases-loop-i : goal.decreases-loop-i
decreases-loop-i l = length l.notes - l.i
