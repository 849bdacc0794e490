use Rattle.std.proofs.Common.{◌∙◌, ◌++◌, ap, append_assoc, map}
use Rattle.checker.specs.Parts.{on_line}
use Rattle.checker.proofs.tasks.lines_of.Goals as goal

pub returns : goal.returns
returns c =
    let r = c.args.report.now in
    let first = c.in_ok-lines.ensures ∙ ap (map on_line) c.deref.ensures.value in
    let second = c.in_ok-extend_from_slice.ensures.items ∙ (ap (λ xs. xs ++ c.deref-2.result.now) first ∙ ap (λ xs. map on_line r.entries.items ++ xs) c.deref-2.ensures.value) in
    c.in_ok-extend_from_slice-2.ensures.items ∙ (ap (λ xs. xs ++ c.deref-3.result.now) second
    ∙ (ap (λ xs. (map on_line r.entries.items ++ r.parked.items) ++ xs) c.deref-3.ensures.value
    ∙ append_assoc (map on_line r.entries.items) r.parked.items r.memory.items))
