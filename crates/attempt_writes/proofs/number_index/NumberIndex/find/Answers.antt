use Rattle.std.proofs.Common.{◌≡◌, ℕ, List, Some, subst, slice_get}
use Rattle.std.specs.Prelude.{IfSome}
use Rattle.attempt_writes.proofs.Indexed.{only_if_some}
use Rattle.attempt_writes.proofs.number_index.NumberIndex.find.Goals as goal

pub returns-then-is_empty-clause-only : goal.returns-then-is_empty-clause-only
returns-then-is_empty-clause-only c =
    let n = c.args.number in
    let o = c.look_at_each.result in
    let there = subst (λ (l : List ℕ). IfSome o (λ k. slice_get l k ≡ Some n)) c.as_slice.ensures c.look_at_each.ensures.there in
    let only = only_if_some c.self.inside.numbers.items n o c.self.invariant.distinct there in
    subst (λ (l : List ℕ). IfSome o (λ k. (j : ℕ) → slice_get l j ≡ Some n → j ≡ k)) c.self.view_is only

pub returns-else-is_empty-clause-only : goal.returns-else-is_empty-clause-only
returns-else-is_empty-clause-only c =
    let n = c.args.number in
    let o = c.follow.result in
    let there = subst (λ (l : List ℕ). IfSome o (λ k. slice_get l k ≡ Some n)) c.as_slice-else-is_empty.ensures c.follow.ensures.there in
    let only = only_if_some c.self.inside.numbers.items n o c.self.invariant.distinct there in
    subst (λ (l : List ℕ). IfSome o (λ k. (j : ℕ) → slice_get l j ≡ Some n → j ≡ k)) c.self.view_is only
