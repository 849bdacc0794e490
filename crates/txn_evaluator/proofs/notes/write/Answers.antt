use Rattle.std.proofs.Common.{subst, sym, to_z, of_z, w64, slice_set, rules}
use Rattle.txn_evaluator.specs.Notes.{LeadBack}
use Rattle.txn_evaluator.proofs.GoingBack.{lead_back_write}
use Rattle.txn_evaluator.proofs.notes.write.Goals as goal

pub returns-clause-back : goal.returns-clause-back
returns-clause-back c =
    let m = c.args.state.now in
    let ns = c.args.notes.now.items in
    let v = to_z w64 (of_z w64 c.args.v) in
    let e = c.in_ok-push.ensures.items in
    subst (λ notes. LeadBack ns m notes (slice_set m c.args.place v)) (sym e) (lead_back_write ns m _ v c.requires (search rules))
