use Rattle.std.proofs.Common.{◌≡◌, sym, refl, ◌∙◌, subst}
use Rattle.txn_words.specs.Stores.{opened}
use Rattle.cells.specs.Sight.{Sight, publishing, commit_of}
use Rattle.cells.specs.Publishing.{IsResting}
use Rattle.cells.proofs.Starts.{rests_first}
use Rattle.cells.proofs.cells.Cells.open.Goals as goal

pub invariant_of-writer : goal.invariant_of-writer
invariant_of-writer c =
    let m = c.args.values.now in
    let is : c.enroll.new.seat.me.0 ≡ publishing (opened m) = c.in_ok-passes.ensures.seat.1 ∙ c.in_ok-cells.ensures.seat.1 in
    subst (λ (d : Sight). (d ≡ publishing (commit_of d)) × IsResting (commit_of d) 0) (sym is) (refl, rests_first m)
