use Rattle.std.proofs.Common.{◌∙◌, length, refl}
use Rattle.attempt_writes.proofs.OwnNotes.{refilled_with}
use Rattle.attempt_writes.proofs.SortedLines.{rotated}
use Rattle.attempt_writes.proofs.sorted_lines.put_in_front.Goals as goal

pub returns-clause-items : goal.returns-clause-items
returns-clause-items c =
    let all = c.extend_from_slice.new.self in
    let s = c.as_mut_slice.result.now in
    refilled_with all.len all.items c.rotate_right.new.self (c.rotate_right.ensures.len ∙ c.as_mut_slice.ensures.len)
    ∙ c.rotate_right.ensures.after
    ∙ rotated s c.args.pairs.now.items c.args.near.now _ (length c.args.near.now) (c.as_mut_slice.ensures.value ∙ c.in-Ok.ensures.items) refl refl
