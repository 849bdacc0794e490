use Rattle.std.proofs.Common.{◌≡◌, ℤ, inl, inr, pos, get_or, sym, ◌∙◌, ap, subst, arith, refl, true≢false}
use Rattle.std.specs.List.{slice_get}
use Rattle.std.proofs.lemmas.Bool.{cases_eq}
use Rattle.std.proofs.lemmas.Int.{to_z-of_z}
use Rattle.std.proofs.lemmas.Option.{same_Some, slice_get-get_or, slice_get_within}
use Rattle.txn_programs.specs.declared.ast.VarId.{VarId}
use Rattle.txn_programs.specs.Meaning.{value_at}
use Rattle.world.proofs.Logs.{known_pair, agrees_all, agrees_pair}
use Rattle.world.proofs.asking.agrees.Goals as goal

abbrev none : VarId × ℤ
none = (record { 0 = 0 }, pos 0)

pub bounds-state-pair : goal.bounds-state-pair
bounds-state-pair c =
    let log = c.args.log.now in
    let i = c.loop-pair.pair-index in
    known_pair _ log i (get_or log i none) c.requires (slice_get-get_or log i none c.loop-pair-test.true)

pub returns-then-state-pair : goal.returns-then-state-pair
returns-then-state-pair c = (
  λ e. absurd (true≢false (sym e)),
  λ a.
      let log = c.args.log.now in
      let i = c.loop-pair.pair-index in
      let one : value_at c.args.state.now (get_or log i none).0 ≡ (get_or log i none).1 = agrees_pair log c.args.state.now i (get_or log i none) a (slice_get-get_or log i none c.loop-pair-test.true) in
      absurd (c.if-state-pair.true (cc)),
)

pub loop-pair-preserved : goal.loop-pair-preserved
loop-pair-preserved c i p less e =
    let log = c.args.log.now in
    let j = c.loop-pair.pair-index in
    let here : VarId × ℤ = get_or log j none in
    let value : value_at c.args.state.now here.0 ≡ here.1 = grind (arith, to_z-of_z, c.if-state-pair.false) in
    elim (cases_eq i j) [
      | inl same ↦
          let one : here ≡ p = same_Some _ _ (sym (slice_get-get_or log j none c.loop-pair-test.true) ∙ (ap (slice_get log) (sym same) ∙ e)) in
          subst (λ (q : VarId × ℤ). value_at c.args.state.now q.0 ≡ q.1) one value
      | inr other ↦ c.loop-pair.invariant i p (omega (arith, less, other)) e
    ]

pub returns : goal.returns
returns c = (λ e. agrees_all c.args.log.now c.args.state.now (λ i p e. c.loop-pair.invariant i p (omega (arith, slice_get_within c.args.log.now i p e, c.loop-pair-test.false)) e), λ a. refl)
