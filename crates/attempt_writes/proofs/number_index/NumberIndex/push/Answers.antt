use Rattle.std.proofs.Common.{◌≡◌, ◌+◌, ◌<◌, ◌++◌, ◌∷◌, [], ℕ, List, length, subst, sym, ap, ◌∙◌, arith, eqb}
use Rattle.std.specs.List.{AllByRecursion, IsDistinct}
use Rattle.attempt_writes.specs.NumberIndex.{IsAbsent, IsFound}
use Rattle.attempt_writes.proofs.Indexed.{few_distinct, distinct_more, known_more, found_more}
use Rattle.attempt_writes.proofs.number_index.NumberIndex.push.Goals as goal

pub have_room-requires-clause-few : goal.have_room-requires-clause-few
have_room-requires-clause-few c =
    let few = few_distinct 1048832 c.self.inside.numbers.items c.self.invariant.distinct c.self.invariant.known in
    omega (arith, few, ap length c.as_slice.ensures)

pub enter-requires-clause-few : goal.enter-requires-clause-few
enter-requires-clause-few c =
    let old = c.self.inside.numbers.items in
    let n = c.args.number in
    let absent = subst (λ (l : List ℕ). IsAbsent l n) (sym c.self.view_is) c.requires.new in
    let few = few_distinct 1048832 (old ++ n ∷ []) (distinct_more old n c.self.invariant.distinct absent) (known_more 1048832 old n c.self.invariant.known c.requires.known) in
    omega (arith, few, ap length c.as_slice-2.ensures, ap length c.in_ok-push.ensures.ok)

pub enter-requires-clause-found : goal.enter-requires-clause-found
enter-requires-clause-found c =
    let old = c.self.inside.numbers.items in
    let n = c.args.number in
    let heads = c.have_room.new.heads.items in
    let links = c.have_room.new.links.items in
    let before = subst (λ (l : List ℕ). IsFound l (length l) heads links) c.as_slice.ensures c.have_room.ensures.found in
    let grown : c.as_slice-2.result.now ≡ old ++ n ∷ [] = c.as_slice-2.ensures ∙ c.in_ok-push.ensures.ok in
    let more = subst (λ (l : List ℕ). IsFound l (length old) heads links) (sym grown) (found_more old heads links n before) in
    subst (λ (k : ℕ). IsFound c.as_slice-2.result.now k heads links) (sym c.len-count.ensures.value) more

pub invariant_of-self-2 : goal.invariant_of-self-2
invariant_of-self-2 c =
    let old = c.self.inside.numbers.items in
    let n = c.args.number in
    let now = c.push.new.self.items in
    let absent = subst (λ (l : List ℕ). IsAbsent l n) (sym c.self.view_is) c.requires.new in
    let grown : now ≡ old ++ n ∷ [] = c.in_ok-push.ensures.ok in
    let long : c.len-count.result + 1 ≡ length c.as_slice-2.result.now = omega (arith, c.len-count.ensures.value, c.in_ok-push.ensures.len, ap length c.as_slice-2.ensures) in
    record {
      distinct = subst (IsDistinct eqb) (sym grown) (distinct_more old n c.self.invariant.distinct absent);
      known = subst (AllByRecursion (λ k. k < 1048832)) (sym grown) (known_more 1048832 old n c.self.invariant.known c.requires.known);
      found = subst (λ (l : List ℕ). IsFound l (length l) c.enter.new.heads.items c.enter.new.links.items) c.as_slice-2.ensures (subst (λ (k : ℕ). IsFound c.as_slice-2.result.now k c.enter.new.heads.items c.enter.new.links.items) long c.enter.ensures.found);
      short = omega (arith, c.push.ensures.capacity, c.self.invariant.short);
    }
