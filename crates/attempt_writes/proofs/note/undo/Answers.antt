use Rattle.std.proofs.Common.{◌≡◌, ◌≤◌, ◌++◌, ◌∷◌, [], List, length, subst, sym, ap, ◌∙◌, drop, take, arith, length-append}
use Rattle.std.proofs.lemmas.List.{take-append-le}
use Rattle.std.proofs.Math.ListN.{length-set}
use Rattle.attempt_writes.specs.declared.note.Note.{Note}
use Rattle.attempt_writes.specs.Own.{AreHinted, AreInside, AreNotedListed, undone}
use Rattle.attempt_writes.proofs.OwnHints.{hinted_pop}
use Rattle.attempt_writes.proofs.OwnNotes.{back_step, inside_front, noted_front}
use Rattle.attempt_writes.proofs.OwnTable.{put_listed}
use Rattle.attempt_writes.proofs.note.undo.Goals as goal

pub bounds-table-x : goal.bounds-table-x
bounds-table-x c =
    let n = length c.loop-notes.table in
    (inside_front n c.pop.new.self.items c.in-Some.note (subst (AreInside n) c.in-Some.ensures.items c.loop-notes.invariant.inside)).0

pub bounds-noted-x : goal.bounds-noted-x
bounds-noted-x c =
    let n = length c.loop-notes.table in
    let k = c.loop-notes.invariant in
    let lt = (inside_front n c.pop.new.self.items c.in-Some.note (subst (AreInside n) c.in-Some.ensures.items k.inside)).0 in
    omega (arith, lt, k.wide, k.hints, k.same)

pub loop-notes-preserved : goal.loop-notes-preserved
loop-notes-preserved c =
    let t = c.loop-notes.table in
    let ns = c.pop.new.self.items in
    let n : Note = c.in-Some.note in
    let k = c.loop-notes.invariant in
    let split : c.loop-notes.notes.items ≡ ns ++ n ∷ [] = c.in-Some.ensures.items in
    let same = length-set t n.x.0 n.old in
    let long = length-append ns (n ∷ []) in
    let whole : length c.loop-notes.notes.items ≡ length (ns ++ n ∷ []) = ap length split in
    let above : c.args.height ≤ length ns = omega (arith, whole, long, c.loop-notes-test.true, c.len.ensures) in
    record {
      wide = same ∙ k.wide;
      hints = length-set c.loop-notes.noted n.x.0 n.earlier ∙ k.hints;
      same = k.same;
      above = above;
      inside = subst (λ m. AreInside m ns) (sym same) (inside_front (length t) ns n (subst (AreInside (length t)) split k.inside)).1;
      front = sym (take-append-le c.args.height ns (n ∷ []) above) ∙ ap (λ (l : List Note). take c.args.height l) (sym split) ∙ k.front;
      hinted = hinted_pop 0 ns n c.loop-notes.noted (subst (λ (l : List Note). AreHinted 0 l c.loop-notes.noted) split k.hinted);
      to = λ h le. back_step h ns n t (omega (arith, le, above)) ∙ ap (λ (l : List Note). undone (drop h l) t) (sym split) ∙ k.to h le;
      noted = λ pairs a. (noted_front pairs ns n (subst (AreNotedListed pairs) split (k.noted pairs a))).1;
      all = λ pairs a l. put_listed pairs t n.x n.old pairs (k.all pairs a l) (noted_front pairs ns n (subst (AreNotedListed pairs) split (k.noted pairs a))).0 (λ y h. h);
    }
