use Rattle.std.proofs.Common.{◌≡◌, ◌<◌, ◌-◌, ◌∙◌, ℕ, ap, arith, drop, length}
use Rattle.checker.proofs.Noted.{raised, raised_all, inside_at}
use Rattle.checker.proofs.raise.raise.Goals as goal

pub settle-requires-clause-inside : goal.settle-requires-clause-inside
settle-requires-clause-inside c =
    let lt : c.notes.left - 1 < length c.args.notes.now = omega (arith, c.notes-test.true, c.notes.invariant.within) in
    inside_at _ (c.notes.left - 1) c.args.notes.now _ c.requires.inside lt

pub returns-clause-raised : goal.returns-clause-raised
returns-clause-raised c =
    let n = c.args.number in
    let new = c.args.values.now in
    let ks = c.args.versions.now.items in
    let ended : c.notes.left ≡ 0 = omega (arith, c.notes-test.false) in
    c.notes.invariant.so_far ∙ (ap (λ (k : ℕ). raised n new ks (drop k c.args.notes.now)) ended ∙ raised_all n new ks c.args.notes.now c.requires.sizes c.requires.inside)
