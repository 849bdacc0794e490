use Rattle.std.proofs.Common.{◌≡◌, ◌<◌, ◌∙◌, ◌++◌, ℕ, List, length, reverse, take, ap, subst, sym, arith}
use Rattle.arrayvec.proofs.ArrayVecLemmas.{items-with_items}
use Rattle.attempt_writes.specs.declared.written.Branch.{Branch}
use Rattle.attempt_writes.specs.declared.note.Note.{Note}
use Rattle.attempt_writes.specs.FarWrites.{AreFar, far_now}
use Rattle.attempt_writes.specs.Known.{Known}
use Rattle.attempt_writes.specs.Order.{AllKnown, Ascending}
use Rattle.attempt_writes.specs.Own.{Own, AreHinted, AreListed, AreNested, AreNotedListed, AreOnce, AreFarNested, HaveFloors, listed, valued}
use Rattle.attempt_writes.proofs.OwnFar.{pairs_case}
use Rattle.attempt_writes.proofs.OwnTable.{known_valued, listed_all, listed_ascending, valued_listed}
use Rattle.attempt_writes.proofs.written.Writes.settle_some.Goals as goal

pub invariant_of-self : goal.invariant_of-self
invariant_of-self c =
    let i = c.self.inside in
    let w = i.pairs.items in
    let k = c.self.invariant in
    let same = c.gather-kept.ensures.same ∙ ap length c.as_mut_slice.ensures.value in
    let now : c.truncate.new.self.items ≡ valued w i.table =
    c.truncate.ensures.items
    ∙ ap (λ (l : Known). take c.gather-kept.result l) (items-with_items i.pairs c.gather-kept.new.pairs same)
    ∙ c.gather-kept.ensures.front ∙ ap (λ (l : Known). valued l i.table) c.as_mut_slice.ensures.value in
    let settled : listed 0 i.table ≡ c.truncate.new.self.items = sym (now ∙ valued_listed w i.table k.ascending k.listed) in
    record {
      wide = k.wide;
      hints = k.hints;
      ascending = subst Ascending settled (listed_ascending i.table);
      known = subst (AllKnown 256) (sym now) (known_valued 256 w i.table k.known);
      listed = subst (λ (l : Known). AreListed l i.table) settled (listed_all i.table);
      noted = subst (λ (l : List Note). AreNotedListed c.truncate.new.self.items l) (sym c.clear.ensures.items) tt;
      nested = subst (λ (l : List Branch). AreNested (length c.clear.new.self.items) (reverse l)) (sym c.clear-2.ensures.items) tt;
      few = omega (arith, ap length c.clear.ensures.items);
      hinted = subst (λ (l : List Note). AreHinted 0 l i.noted) (sym c.clear.ensures.items) tt;
      once = subst (λ (l : List Branch). AreOnce c.clear.new.self.items (reverse l)) (sym c.clear-2.ensures.items) tt;
      floors = subst (λ (l : List Branch). HaveFloors (length c.clear-3.new.self.items) (reverse l)) (sym c.clear-2.ensures.items) (ap length c.clear-3.ensures.items);
      far = subst AreFar (sym c.settle_far.ensures.numbers) k.far;
      far_nested = subst (λ (l : List Branch). AreFarNested (length c.settle_far.new.far.notes) (reverse l)) (sym c.clear-2.ensures.items) tt;
      narrow = λ e. c.settle_far.ensures.numbers ∙ k.narrow e;
      some = λ e. subst (λ (ns : List ℕ). 0 < length ns) (sym c.settle_far.ensures.numbers) (k.some e);
    }

pub returns-clause-writes : goal.returns-clause-writes
returns-clause-writes c =
    ap (λ (l : Known). listed 0 c.self.inside.table ++ l) c.settle_far.ensures.now ∙ ap (λ (o : Own). o.writes) c.self.view_is

pub returns-clause-pairs : goal.returns-clause-pairs
returns-clause-pairs c =
    let i = c.self.inside in
    let w = i.pairs.items in
    let same = c.gather-kept.ensures.same ∙ ap length c.as_mut_slice.ensures.value in
    let settled : c.truncate.new.self.items ≡ listed 0 i.table =
    c.truncate.ensures.items
    ∙ ap (λ (l : Known). take c.gather-kept.result l) (items-with_items i.pairs c.gather-kept.new.pairs same)
    ∙ c.gather-kept.ensures.front ∙ ap (λ (l : Known). valued l i.table) c.as_mut_slice.ensures.value
    ∙ valued_listed w i.table c.self.invariant.ascending c.self.invariant.listed in
    let near = c.truncate.new.self.items in
    pairs_case i.is_wide i.far c.settle_far.new.far near
    (λ e. c.settle_far.ensures.pairs e ∙ ap (λ (l : Known). l ++ far_now i.far) c.as_slice.ensures.value) c.self.invariant.narrow
    ∙ ap (λ (l : Known). l ++ far_now i.far) settled
    ∙ ap (λ (o : Own). o.writes) c.self.view_is
