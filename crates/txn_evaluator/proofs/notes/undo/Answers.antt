use Rattle.std.proofs.Common.{◌≡◌, ◌∙◌, ◌≤◌, ◌∷◌, ◌++◌, [], List, length, subst, sym, ap, drop, take, arith, length-append}
use Rattle.std.proofs.Math.ListN.{length-set}
use Rattle.txn_evaluator.specs.declared.notes.Note.{Note}
use Rattle.txn_evaluator.specs.Notes.{undone, AreInside}
use Rattle.txn_evaluator.proofs.GoingBack.{back_step, front_step, inside_step}
use Rattle.txn_evaluator.proofs.notes.undo.Goals as goal

pub put_back-requires : goal.put_back-requires
put_back-requires c =
    let h = c.args.height in
    let m = c.loop-notes.state in
    let ns = c.pop.new.self.items in
    let n : Note = c.in-Some.note in
    let k = c.loop-notes.invariant in
    let split : c.loop-notes.notes.items ≡ ns ++ n ∷ [] = c.in-Some.ensures.items in
    let long = length-append ns (n ∷ []) in
    let whole : length c.loop-notes.notes.items ≡ length (ns ++ n ∷ []) = ap length split in
    let above : h ≤ length ns = omega (arith, whole, long, c.loop-notes-test.true, c.len.ensures) in
    (inside_step (length m) h ns n above (subst (λ (l : List Note). AreInside (length m) (drop h l)) split k.inside)).0

pub loop-notes-preserved : goal.loop-notes-preserved
loop-notes-preserved c =
    let h = c.args.height in
    let m = c.loop-notes.state in
    let ns = c.pop.new.self.items in
    let n : Note = c.in-Some.note in
    let k = c.loop-notes.invariant in
    let split : c.loop-notes.notes.items ≡ ns ++ n ∷ [] = c.in-Some.ensures.items in
    let long = length-append ns (n ∷ []) in
    let whole : length c.loop-notes.notes.items ≡ length (ns ++ n ∷ []) = ap length split in
    let above : h ≤ length ns = omega (arith, whole, long, c.loop-notes-test.true, c.len.ensures) in
    let inside = inside_step (length m) h ns n above (subst (λ (l : List Note). AreInside (length m) (drop h l)) split k.inside) in
    record {
      above = above;
      front = front_step h ns n above ∙ ap (λ (l : List Note). take h l) (sym split) ∙ k.front;
      inside = subst (λ j. AreInside j (drop h ns)) (sym (ap length c.put_back.ensures ∙ length-set m n.place n.old)) inside.1;
      to = ap (undone (drop h ns)) c.put_back.ensures ∙ back_step h ns n m above ∙ ap (λ (l : List Note). undone (drop h l) m) (sym split) ∙ k.to;
    }
