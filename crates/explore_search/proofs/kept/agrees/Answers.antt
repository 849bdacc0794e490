use Rattle.std.proofs.Common.{◌≡◌, ℤ, inl, inr, pos, get_or, sym, ◌∙◌, ap, subst, arith, refl, true≢false}
use Rattle.std.specs.Prelude.{slice_get}
use Rattle.std.proofs.lemmas.Bool.{cases_eq}
use Rattle.std.proofs.lemmas.Int.{to_z-of_z}
use Rattle.std.proofs.lemmas.Option.{same_Some, slice_get-get_or, slice_get_within}
use Rattle.txn_programs.specs.declared.ast.VarId.{VarId}
use Rattle.txn_programs.specs.Meaning.{value_at}
use Rattle.explore_search.proofs.Counting.{known_pair}
use Rattle.explore_search.proofs.Keeping.{agrees_all, agrees_pair}
use Rattle.explore_search.proofs.kept.agrees.Goals as goal

abbrev none : VarId × ℤ
none = (record { 0 = 0 }, pos 0)

pub bounds-values-pair : goal.bounds-values-pair
bounds-values-pair c =
    let log = c.args.reads.now in
    let i = c.reads.pair-index in
    known_pair _ log i (get_or log i none) c.requires (slice_get-get_or log i none c.reads-test.true)

pub returns-then-values-pair : goal.returns-then-values-pair
returns-then-values-pair c = (
  λ e. absurd (true≢false (sym e)),
  λ a.
      let log = c.args.reads.now in
      let i = c.reads.pair-index in
      let one : value_at c.args.values.now (get_or log i none).0 ≡ (get_or log i none).1 = agrees_pair log c.args.values.now i (get_or log i none) a (slice_get-get_or log i none c.reads-test.true) in
      absurd (c.if-values-pair.true (cc)),
)

pub reads-preserved : goal.reads-preserved
reads-preserved c i p less e =
    let log = c.args.reads.now in
    let j = c.reads.pair-index in
    let here : VarId × ℤ = get_or log j none in
    let value : value_at c.args.values.now here.0 ≡ here.1 = grind (arith, to_z-of_z, c.if-values-pair.false) in
    elim (cases_eq i j) [
      | inl same ↦
          let one : here ≡ p = same_Some _ _ (sym (slice_get-get_or log j none c.reads-test.true) ∙ (ap (slice_get log) (sym same) ∙ e)) in
          subst (λ (q : VarId × ℤ). value_at c.args.values.now q.0 ≡ q.1) one value
      | inr other ↦ c.reads.invariant i p (omega (arith, less, other)) e
    ]

pub returns : goal.returns
returns c = (λ e. agrees_all c.args.reads.now c.args.values.now (λ i p e. c.reads.invariant i p (omega (arith, slice_get_within c.args.reads.now i p e, c.reads-test.false)) e), λ a. refl)
