use Rattle.std.proofs.Common.{◌≡◌, ◌≤◌, length, drop}
use Rattle.checker.proofs.Noted.{raised}
use Rattle.checker.proofs.raise.raise.Given as goal

abbrev pub invariant-notes : goal.invariant-notes
invariant-notes l = record {
  so_far : l.versions.items ≡ raised l.number l.values l.fn.versions.items (drop l.left l.notes);
  sized : length l.versions.items ≡ length l.values;
  within : l.left ≤ length l.notes;
}

abbrev pub decreases-notes : goal.decreases-notes
decreases-notes l = l.left
