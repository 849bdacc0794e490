use Rattle.std.proofs.Common.{◌≡◌, ◌≤◌, ◌∙◌, ℕ, List, length, subst, sym, ap, arith}
use Rattle.std.specs.List.{refill}
use Rattle.attempt_writes.specs.FarWrites.{Far}
use Rattle.attempt_writes.specs.Notes.{AreHinted, AreInside}
use Rattle.attempt_writes.proofs.FarLines.{inside_front_of}
use Rattle.attempt_writes.proofs.OwnNotes.{refilled_with}
use Rattle.attempt_writes.proofs.far_writes.FarWrites.back.Goals as goal

pub invariant_of-self : goal.invariant_of-self
invariant_of-self c =
    let f = c.self.inside in
    let k = c.self.invariant in
    let table = refilled_with f.table.len f.table.items c.undo.new.table (c.undo.ensures.wide ∙ c.as_mut_slice.ensures.len) in
    let noted = refilled_with f.noted.len f.noted.items c.undo.new.noted (c.undo.ensures.hints ∙ c.as_mut_slice-2.ensures.len) in
    let long : length (refill f.table.len f.table.items c.undo.new.table) ≡ length f.table.items = ap length table ∙ c.undo.ensures.wide ∙ ap length c.as_mut_slice.ensures.value in
    let within : c.args.height ≤ length f.notes.items = subst (λ (v : Far). c.args.height ≤ length v.notes) (sym c.self.view_is) c.requires in
    record {
      distinct = k.distinct;
      each = long ∙ k.each;
      hints = ap length noted ∙ c.undo.ensures.hints ∙ ap length c.as_mut_slice-2.ensures.value ∙ k.hints;
      inside = subst (λ (n : ℕ). AreInside n c.undo.new.notes.items) (sym long) (inside_front_of (length f.table.items) c.args.height f.notes.items c.undo.new.notes.items c.undo.ensures.front k.inside);
      hinted = subst (λ (t : List ℕ). AreHinted 0 c.undo.new.notes.items t) (sym noted) c.undo.ensures.hinted;
      room = k.room;
      few = omega (arith, within, k.few, c.undo.ensures.height);
    }
