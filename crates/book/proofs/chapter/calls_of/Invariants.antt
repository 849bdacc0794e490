use Rattle.std.proofs.Common.{◌≡◌, take}
use Rattle.txn_programs.specs.Listing.{calls}
use Rattle.book.specs.ChapterInside.{HoldsEach}
use Rattle.book.proofs.chapter.calls_of.Given as goal

abbrev pub invariant-loop-i : goal.invariant-loop-i
invariant-loop-i l = record {
  listed : l.calls.calls ≡ take l.i (calls l.catalogue);
  room : l.calls.room ≡ l.room;
  row_room : HoldsEach l.catalogue l.calls.width;
}
