use Rattle.std.proofs.Common.{◌≡◌, ◌∙◌, ◌++◌, ◌∷◌, [], ℕ, ℤ, List, Option, None, drop, eqb, length, subst, sym, ap, arith, slice_get, length-append}
use Rattle.std.specs.List.{IsDistinct}
use Rattle.attempt_writes.specs.FarWrites.{far_at, far_now, gathered}
use Rattle.attempt_writes.specs.Notes.{undone, AreHinted, AreInside}
use Rattle.attempt_writes.proofs.Indexed.{distinct_more}
use Rattle.attempt_writes.proofs.FarLines.{at_more, gathered_more, hinted_more, inside_wider, line_at}
use Rattle.attempt_writes.proofs.far_writes.FarWrites.line_of.Goals as goal

pub invariant_of-self-in-None : goal.invariant_of-self-in-None
invariant_of-self-in-None c =
    let f = c.self.inside in
    let k = c.self.invariant in
    let n = c.args.x.0 in
    let now = c.in_ok-add_line-in-None.ensures in
    let numbers = ap length now.numbers ∙ length-append f.numbers (n ∷ []) in
    let table = ap length now.table ∙ length-append f.table.items (None ∷ []) in
    let noted = ap length now.noted ∙ length-append f.noted.items (0 ∷ []) in
    let inside = subst (λ (m : ℕ). AreInside m f.notes.items) (k.each ∙ sym k.hints) k.inside in
    record {
      distinct = subst (IsDistinct eqb) (sym now.numbers) (distinct_more f.numbers n k.distinct (c.find.ensures.nowhere c.in-None.is));
      each = omega (arith, numbers, table, k.each);
      hints = omega (arith, numbers, noted, k.hints);
      inside = inside_wider f.notes.items f.table.items c.add_line.new.table.items now.table k.inside;
      hinted = subst (λ (t : List ℕ). AreHinted 0 f.notes.items t) (sym now.noted) (hinted_more 0 f.notes.items f.noted.items 0 inside k.hinted);
      room = λ some. now.room;
      few = k.few;
    }

pub returns-in_ok-add_line-in-None-clause-here : goal.returns-in_ok-add_line-in-None-clause-here
returns-in_ok-add_line-in-None-clause-here c =
    let f = c.self.inside in
    let n = c.args.x.0 in
    let at : c.len-k.result ≡ length f.numbers = omega (arith, c.len-k.ensures, f.table.ok.0, c.self.invariant.each) in
    ap (λ (ns : List ℕ). slice_get ns c.len-k.result) c.in_ok-add_line-in-None.ensures.numbers
    ∙ ap (λ (j : ℕ). slice_get (f.numbers ++ n ∷ []) j) at ∙ line_at f.numbers n

pub returns-in_ok-add_line-in-None-clause-now : goal.returns-in_ok-add_line-in-None-clause-now
returns-in_ok-add_line-in-None-clause-now c =
    let f = c.self.inside in
    let n = c.args.x.0 in
    let now = c.in_ok-add_line-in-None.ensures in
    ap (λ (ns : List ℕ). gathered ns c.add_line.new.table.items) now.numbers
    ∙ ap (gathered (f.numbers ++ n ∷ [])) now.table
    ∙ gathered_more f.numbers f.table.items n c.self.invariant.each ∙ ap far_now c.self.view_is

pub returns-in_ok-add_line-in-None-clause-before : goal.returns-in_ok-add_line-in-None-clause-before
returns-in_ok-add_line-in-None-clause-before c = λ h.
    let f = c.self.inside in
    let n = c.args.x.0 in
    let now = c.in_ok-add_line-in-None.ensures in
    ap (λ (ns : List ℕ). gathered ns (undone (drop h f.notes.items) c.add_line.new.table.items)) now.numbers
    ∙ ap (λ (t : List (Option ℤ)). gathered (f.numbers ++ n ∷ []) (undone (drop h f.notes.items) t)) now.table
    ∙ at_more f.numbers f.table.items f.notes.items n h c.self.invariant.each c.self.invariant.inside ∙ ap (far_at h) c.self.view_is
