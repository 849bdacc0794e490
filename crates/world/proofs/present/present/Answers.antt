use Rattle.std.proofs.Common.{rules, ◌≡◌, ◌∙◌, ℕ, ℤ, List, ◌+◌, ◌-◌, length, map, sym, ap, subst, arith}
use Rattle.std.proofs.lemmas.List.{length-map}
use Rattle.std.specs.Int.{w64}
use Rattle.std.proofs.lemmas.Int.{to_z-of_z}
use mir.Val.{SFits}
use Rattle.txn_words.specs.Words.{last_state, state_of, state_value}
use Rattle.world.specs.Inside.{state_items}
use Rattle.world.specs.WorldText.{ArePresent}
use Rattle.world.proofs.Changed.{present_more, state_at}
use Rattle.world.proofs.present.present.Goals as goal

pub variables-preserved : goal.variables-preserved
variables-preserved c =
    let states = c.args.history.now in
    let h = map state_items states in
    let x = c.variables.x in
    let at = c.index-history-history in
    let some = c.requires in
    let count : length h ≡ length states = length-map states state_items in
    let last : last_state h ≡ at.result.items = ap (λ (n : ℕ). state_of h (n - 1)) count ∙ state_at states (length states - 1) at.result (omega arith) at.is in
    let value : c.value_in-value.result ≡ state_value (last_state h) x = c.value_in-value.ensures ∙ ap (λ (m : List ℤ). state_value m x) (sym last) in
    let fits : SFits w64 c.value_in-value.result = search rules in
    subst (λ (vs : List (ℤ × ℕ)). ArePresent h (x + 1) vs) (sym c.in_ok-push.ensures.items)
    (present_more h x c.variables.vars.items _ c.variables.invariant (to_z-of_z w64 c.value_in-value.result fits ∙ value) c.last_change-version.ensures)
