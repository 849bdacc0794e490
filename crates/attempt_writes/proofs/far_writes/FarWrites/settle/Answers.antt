use Rattle.std.proofs.Common.{◌≡◌, ◌<◌, ◌∙◌, ◌++◌, ℕ, List, subst, sym, ap, arith, length}
use Rattle.std.specs.List.Sorted.{IsPermutation}
use Rattle.std.proofs.lemmas.List.Sorted.{length_permutation}
use Rattle.attempt_writes.specs.FarWrites.{Far, far_now, in_lines}
use Rattle.attempt_writes.specs.Known.{Known}
use Rattle.attempt_writes.proofs.FarLines.{inside_none, hinted_none}
use Rattle.attempt_writes.proofs.OwnNotes.{refilled_with}
use Rattle.attempt_writes.proofs.SortedLines.{sorted_same}
use Rattle.attempt_writes.proofs.far_writes.FarWrites.settle.Goals as goal

pub invariant_of-self : goal.invariant_of-self
invariant_of-self c =
    let k = c.self.invariant in
    record {
      distinct = k.distinct;
      each = k.each;
      hints = k.hints;
      inside = inside_none _ _ c.clear.ensures.items;
      hinted = hinted_none _ _ c.clear.ensures.items;
      room = λ some. omega (arith, k.room some, c.clear-2.ensures.capacity, c.list_lines.ensures.capacity, c.put_in_front.ensures.capacity);
      few = omega (arith, ap length c.clear.ensures.items);
    }

pub returns-clause-pairs : goal.returns-clause-pairs
returns-clause-pairs c =
    let f = c.self.inside in
    let lines = c.list_lines.new.pairs in
    let sorted = c.sort_lines.new.lines in
    let numbers : c.as_slice.result.now ≡ f.numbers = c.as_slice.ensures in
    let table : c.as_slice-2.result.now ≡ f.table.items = c.as_slice-2.ensures.value in
    let listed : lines.items ≡ in_lines f.numbers f.table.items =
    c.list_lines.ensures.listed ∙ ap (λ (l : Known). l ++ in_lines c.as_slice.result.now c.as_slice-2.result.now) c.clear-2.ensures.items
    ∙ ap (λ (ns : List ℕ). in_lines ns c.as_slice-2.result.now) numbers ∙ ap (in_lines f.numbers) table in
    let moved = subst (λ (l : Known). IsPermutation l sorted) (c.as_mut_slice.ensures.value ∙ listed) c.sort_lines.ensures.same in
    c.put_in_front.ensures.items
    ∙ ap (λ (l : Known). c.args.near.now ++ l)
    (refilled_with lines.len lines.items sorted (length_permutation c.as_mut_slice.result.now sorted c.sort_lines.ensures.same ∙ c.as_mut_slice.ensures.len) ∙ sorted_same f.numbers f.table.items sorted c.self.invariant.distinct moved c.sort_lines.ensures.sorted)
    ∙ ap (λ (v : Far). c.args.near.now ++ far_now v) c.self.view_is

pub put_in_front-requires : goal.put_in_front-requires
put_in_front-requires c =
    let f = c.self.inside in
    let some : 0 < length f.numbers = subst (λ (v : Far). 0 < length v.numbers) (sym c.self.view_is) c.requires.some in
    let room = c.self.invariant.room some in
    let numbers : length c.as_slice.result.now ≡ length f.numbers = ap length c.as_slice.ensures in
    record { room = omega (arith, room, numbers, c.requires.few, c.clear-2.ensures.len, c.clear-2.ensures.capacity, c.list_lines.ensures.len, c.list_lines.ensures.capacity) }
