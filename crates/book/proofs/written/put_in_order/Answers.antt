use Rattle.std.proofs.Common.{◌<◌, ℕ, List, eqb, subst, sym}
use Rattle.std.specs.List.{dedup, All, Contains}
use Rattle.std.specs.List.Sorted.{IsStrictlySortedBy}
use Rattle.std.specs.Ordering.{nat_cmp}
use Rattle.std.proofs.lemmas.List.Filters.{dedup_is, All-dedup}
use Rattle.std.proofs.lemmas.List.Kept.{Contains-dedup_nat}
use Rattle.std.proofs.lemmas.List.Sorted.{All-permutation, Contains-permutation}
use Rattle.std.proofs.lemmas.Map.Keys.{IsStrictlyIncreasing-dedup, sorted_from_strictly_increasing}
use Rattle.book.proofs.written.put_in_order.Goals as goal

pub returns-clause-ascending : goal.returns-clause-ascending
returns-clause-ascending c =
    let sorted = c.sort_unstable.new.self.items in
    let left = dedup_is eqb sorted c.dedup.new.self.items c.dedup.ensures.filtered in
    subst (λ (xs : List ℕ). IsStrictlySortedBy nat_cmp xs) (sym left) (sorted_from_strictly_increasing (dedup eqb sorted) (IsStrictlyIncreasing-dedup sorted c.sort_unstable.ensures.sorted))

pub returns-clause-all : goal.returns-clause-all
returns-clause-all c = λ x h.
    let sorted = c.sort_unstable.new.self.items in
    let left = dedup_is eqb sorted c.dedup.new.self.items c.dedup.ensures.filtered in
    subst (λ (xs : List ℕ). Contains xs x) (sym left) (Contains-dedup_nat sorted x (Contains-permutation c.args.places.now.items sorted x c.sort_unstable.ensures.permutation h))

pub returns-clause-known : goal.returns-clause-known
returns-clause-known c = λ n h.
    let sorted = c.sort_unstable.new.self.items in
    let left = dedup_is eqb sorted c.dedup.new.self.items c.dedup.ensures.filtered in
    subst (λ (xs : List ℕ). All (λ x. x < n) xs) (sym left)
    (All-dedup eqb (λ x. x < n) sorted (All-permutation (λ x. x < n) c.args.places.now.items sorted c.sort_unstable.ensures.permutation h))
