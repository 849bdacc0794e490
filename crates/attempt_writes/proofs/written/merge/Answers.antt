use Rattle.std.proofs.Common.{List, ap, sym, subst, ◌∙◌, drop, take, reverse}
use Rattle.attempt_writes.specs.declared.note.Note.{Note}
use Rattle.attempt_writes.specs.Own.{undone, AreApart, AreHinted, AreNotedListed, AreOnce}
use Rattle.attempt_writes.proofs.OwnHints.{once_inner, once_joined}
use Rattle.attempt_writes.proofs.OwnNotes.{inner_nested, marks_same, refilled}
use Rattle.attempt_writes.proofs.written.merge.Goals as goal

pub returns-in-Some-clause-marks : goal.returns-in-Some-clause-marks
returns-in-Some-clause-marks c = λ kept t.
    let ns = c.args.notes.now in
    let bs = c.args.branches.now in
    let b = c.in-Some.outer.now in
    let same = c.join-kept.ensures.same ∙ c.as_mut_slice.ensures.len in
    let now = c.truncate.ensures.items ∙ ap (λ (l : List Note). take c.join-kept.result l) (refilled ns.len ns.items c.join-kept.new.notes same) in
    let all = (inner_nested c.args.height bs b (sym c.in-Some.ensures.value) c.requires.nested).1 in
    marks_same b.height (reverse bs) ns.items c.truncate.new.self.items kept t t all
    (λ h le.
    ap (λ (l : List Note). undone (drop h l) t) now
    ∙ c.join-kept.ensures.undone h le t
    ∙ ap (λ (l : List Note). undone (drop h l) t) c.as_mut_slice.ensures.value)

pub returns-in-Some-clause-noted : goal.returns-in-Some-clause-noted
returns-in-Some-clause-noted c = λ pairs a.
    let ns = c.args.notes.now in
    let same = c.join-kept.ensures.same ∙ c.as_mut_slice.ensures.len in
    let now = c.truncate.ensures.items ∙ ap (λ (l : List Note). take c.join-kept.result l) (refilled ns.len ns.items c.join-kept.new.notes same) in
    subst (AreNotedListed pairs) (sym now) (c.join-kept.ensures.noted pairs (subst (AreNotedListed pairs) (sym c.as_mut_slice.ensures.value) a))

pub join-kept-requires-clause-below : goal.join-kept-requires-clause-below
join-kept-requires-clause-below c = (inner_nested c.args.height c.args.branches.now c.in-Some.outer.now (sym c.in-Some.ensures.value) c.requires.nested).0

pub join-kept-requires-clause-outer : goal.join-kept-requires-clause-outer
join-kept-requires-clause-outer c =
    let b = c.in-Some.outer.now in
    subst (λ (l : List Note). AreApart (drop b.height (take c.args.height l))) (sym c.as_mut_slice.ensures.value)
    (once_inner c.args.branches.now b c.args.notes.now.items c.args.height (sym c.in-Some.ensures.value) c.requires.outer)

pub returns-in-Some-clause-hinted : goal.returns-in-Some-clause-hinted
returns-in-Some-clause-hinted c =
    let ns = c.args.notes.now in
    let same = c.join-kept.ensures.same ∙ c.as_mut_slice.ensures.len in
    let now = c.truncate.ensures.items ∙ ap (λ (l : List Note). take c.join-kept.result l) (refilled ns.len ns.items c.join-kept.new.notes same) in
    subst (λ (l : List Note). AreHinted 0 l c.join-kept.new.noted) (sym now) c.join-kept.ensures.hinted

pub returns-in-Some-clause-once : goal.returns-in-Some-clause-once
returns-in-Some-clause-once c =
    let ns = c.args.notes.now in
    let bs = c.args.branches.now in
    let b = c.in-Some.outer.now in
    let last = sym c.in-Some.ensures.value in
    let same = c.join-kept.ensures.same ∙ c.as_mut_slice.ensures.len in
    let now = c.truncate.ensures.items ∙ ap (λ (l : List Note). take c.join-kept.result l) (refilled ns.len ns.items c.join-kept.new.notes same) in
    let front = c.join-kept.ensures.front ∙ ap (λ (l : List Note). take c.args.height l) c.as_mut_slice.ensures.value in
    let low = (inner_nested c.args.height bs b last c.requires.nested).0 in
    subst (λ (l : List Note). AreOnce l (reverse bs)) (sym now)
    (once_joined bs b ns.items c.join-kept.new.notes c.args.height c.join-kept.result last low c.join-kept.ensures.above front c.join-kept.ensures.apart c.requires.outer)
