use Rattle.std.proofs.Common.{ℕ, List, length, subst, sym, arith}
use Rattle.attempt_writes.specs.NumberIndex.{IsFound}
use Rattle.attempt_writes.proofs.Indexed.{found_none, indexed_none}
use Rattle.attempt_writes.proofs.number_index.NumberIndex.clear.Goals as goal

pub invariant_of-self : goal.invariant_of-self
invariant_of-self c =
    let i = c.self.inside in
    let now = c.clear.new.self.items in
    let none = indexed_none now c.clear.ensures.items in
    let found = found_none i.numbers.items i.heads.items i.links.items (length i.numbers.items) c.self.invariant.found in
    record {
      distinct = none.0;
      known = none.1;
      found = subst (λ (l : List ℕ). IsFound l (length l) i.heads.items i.links.items) (sym c.clear.ensures.items) found;
      short = omega (arith, c.clear.ensures.capacity, c.self.invariant.short);
    }
