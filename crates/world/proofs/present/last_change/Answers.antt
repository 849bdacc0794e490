use Rattle.std.proofs.Common.{rules, ◌≡◌, ◌∙◌, ◌+◌, ◌-◌, ℕ, ℤ, List, map, sym, ap, subst, arith}
use Rattle.std.proofs.lemmas.Int.{to_z-of_z}
use Rattle.std.proofs.lemmas.List.{length-map}
use Rattle.std.specs.Int.{w64}
use Rattle.std.proofs.Math.Facts.{of_z-to_z}
use mir.Val.{SFits, to_z, of_z}
use Rattle.txn_words.specs.Words.{state_of, state_value}
use Rattle.world.specs.Inside.{state_items}
use Rattle.world.proofs.Changed.{ChangedBy, changed_more, same_more, state_at, changed_last}
use Rattle.world.proofs.present.last_change.Goals as goal
use Rattle.world.proofs.present.last_change.Goals.{then-next-value, else-next-value}

pub states-preserved : goal.states-preserved
states-preserved c =
    let h = map state_items c.args.history.now in
    let x = c.args.x in
    let n = c.states.n in
    let i = c.states.invariant in
    let at = c.index-history-n in
    let fits : SFits w64 c.value_in-next.result = search rules in
    let next : to_z w64 (of_z w64 c.value_in-next.result) ≡ c.value_in-next.result = to_z-of_z w64 c.value_in-next.result fits in
    let here : state_value (state_of h n) x ≡ c.value_in-next.result = ap (λ (m : List ℤ). state_value m x) (state_at c.args.history.now n at.result (omega arith) at.is) ∙ sym c.value_in-next.ensures in
    let bits : of_z w64 (to_z w64 c.states.value-bits) ≡ c.states.value-bits = of_z-to_z c.states.auto.value-fits in
    let same : n + 1 - 1 ≡ n = omega arith in
    record {
      changed = elim c.if-next-value.branch [
        | then-next-value w ↦ subst (λ (v : ℕ). ChangedBy h x (n + 1) v) (sym w.last-is) (changed_more h x n c.states.last i.changed (λ e. w.if-next-value.true (ap (of_z w64) (sym here ∙ e ∙ sym i.value) ∙ bits)))
        | else-next-value w ↦ subst (λ (v : ℕ). ChangedBy h x (n + 1) v) (sym w.last-is) (same_more h x n c.states.last i.changed
            (here ∙ sym next ∙ ap (to_z w64) w.if-next-value.false ∙ i.value))
      ];
      value = next ∙ sym here ∙ ap (λ (k : ℕ). state_value (state_of h k) x) (sym same);
    }

pub returns : goal.returns
returns c = changed_last (map state_items c.args.history.now) c.args.x c.states.last c.states.n (omega (arith, c.states-test.false, length-map c.args.history.now state_items)) (omega (arith, c.states.auto.n, length-map c.args.history.now state_items)) c.states.invariant.changed
