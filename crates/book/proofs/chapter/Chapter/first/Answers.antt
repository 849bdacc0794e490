use Rattle.std.proofs.Common.{rules, ◌≡◌, List, true, length, ap, sym, subst, refl, arith}
use Rattle.txn_programs.specs.declared.arguments.Call.{Call}
use Rattle.txn_programs.specs.Listing.{calls}
use Rattle.book.proofs.TaskCalls.{AreKnown, calls_known, length-calls}
use Rattle.book.proofs.Listings.{listed, calls_first}
use Rattle.book.proofs.chapter.Chapter.first.Goals as goal

pub invariant_of-result : goal.invariant_of-result
invariant_of-result c =
    let l = c.args.opened.now in
    let e = c.in_ok-calls_of.ensures in
    let cs = c.in_ok-calls_of.field-0.calls in
    let made : cs ≡ calls l = e.calls in
    record {
      listed = subst (λ (xs : List Call). calls (listed true l l.initial xs) ≡ xs) (sym made) (calls_first l l.initial);
      known = subst (AreKnown l) (sym made) (calls_known l c.rules.ensures.names);
      wide = refl;
      upheld = c.rules.ensures.upheld;
      later_room = search rules;
      within = omega (arith, ap length made, length-calls l, c.requires.fits, e.room);
      few = omega (arith, e.room, c.requires.few);
      row_room = e.row_room;
      steps = c.in_ok-steps_of.ensures;
    }
