use Rattle.std.proofs.Common.{◌≡◌, length, map, ap, sym, subst, arith}
use Rattle.txn_programs.specs.declared.arguments.Call.{Call}
use Rattle.txn_programs.specs.Listing.{IsCallable}
use Rattle.txn_programs.specs.Standing.{Upholds}
use Rattle.book.specs.Standings.{bare}
use Rattle.book.specs.Carrying.{staying}
use Rattle.book.specs.Calls.{CallsView}
use Rattle.book.specs.Chapters.{ChapterView}
use Rattle.book.specs.ChapterInside.{HoldsEach}
use Rattle.book.proofs.TaskCalls.{AreKnown, calls_begun}
use Rattle.book.proofs.Staying.{staying_all, staying_shorter}
use Rattle.book.proofs.chapter.Chapter.begin.Goals as goal

pub invariant_of-self : goal.invariant_of-self
invariant_of-self c =
    let s = c.self.inside in
    let k = c.self.invariant in
    let l = s.opened.now in
    let ts = map bare c.args.standings.now in
    let values = c.put.new.later.items in
    let now = c.keep_staying.new.self in
    let kept : now.calls ≡ staying s.calls.calls ts = ap (λ (v : CallsView). v.calls) c.keep_staying.ensures in
    let room : now.room ≡ s.calls.room = ap (λ (v : CallsView). v.room) c.keep_staying.ensures in
    let width : now.width ≡ s.calls.width = ap (λ (v : CallsView). v.width) c.keep_staying.ensures in
    let same : values ≡ c.args.values.now = c.put.ensures.values in
    record {
      listed = calls_begun l values now.calls;
      known = subst (AreKnown l) (sym kept) (staying_all (λ (x : Call). IsCallable l x.tx x.arguments) s.calls.calls ts k.known);
      wide = omega (arith, ap length same, c.requires.wide, ap (λ (v : ChapterView). length v.listing.initial) c.self.view_is, k.wide);
      upheld = subst (Upholds l) (sym same) (subst (λ (v : ChapterView). Upholds v.listing c.args.values.now) (sym c.self.view_is) c.requires.upheld);
      later_room = omega (arith, k.later_room, c.put.ensures.capacity);
      within = omega (arith, ap length kept, staying_shorter s.calls.calls ts, k.within, room);
      few = omega (arith, k.few, room);
      row_room = subst (HoldsEach l) (sym width) k.row_room;
      steps = k.steps;
    }
