use Rattle.std.proofs.Common.{◌≡◌, ◌∙◌, ap, sym, List, ℕ}
use Rattle.txn_programs.specs.declared.ast.TxId.{TxId}
use Rattle.txn_programs.specs.Listing.{program_as}
use Rattle.txn_programs.specs.Meaning.{State, after, outcome}
use Rattle.txn_programs.specs.Replay.{Snapshot, versions_after, applied}
use Rattle.txn_evaluator.specs.Notes.{undone}
use Rattle.txn_evaluator.specs.declared.notes.Note.{Note}
use Rattle.checker.specs.View.{view}
use Rattle.explain_reports.proofs.Due.{goes_by}
use Rattle.explain_reports.proofs.entries.step.Goals as goal

pub returns-clause-applied : goal.returns-clause-applied
unfolding applied
returns-clause-applied c _ =
    let l = c.args.catalogue.now in
    let e = c.args.entry.now in
    let s = view c.args.stage.now in
    let new = c.execute.new.values.items in
    let named : e.tx ≡ c.due_tx-tx.result = (c.has.ensures.0 c.if-not-has.false).1 in
    let state : new ≡ after (program_as l e.task e.tx) s.state = c.in_ok-outcome.ensures.after ∙ ap (λ (tx : TxId). after (program_as l e.task tx) s.state) (sym named) in
    let back : undone c.deref.result.now c.deref-2.result.now ≡ s.state =
    ap (λ (ns : List Note). undone ns c.deref-2.result.now) c.deref.ensures.value ∙ (ap (undone c.execute.new.notes.items) c.deref-2.ensures.value ∙ c.execute.ensures.undone) in
    let versions : c.raise.new.versions.items ≡ versions_after e.number s.state (after (program_as l e.task e.tx) s.state) s.versions =
    c.in_ok-raise.ensures.raised ∙ (ap (λ (m : State). versions_after e.number m c.deref-2.result.now s.versions) back
    ∙ ap (λ (m : State). versions_after e.number s.state m s.versions) (c.deref-2.ensures.value ∙ state)) in
    ap (λ (m : State). let x : Snapshot = record { number = e.number; state = m; versions = c.raise.new.versions.items } in x) state
    ∙ ap (λ (ks : List ℕ). let x : Snapshot = record { number = e.number; state = after (program_as l e.task e.tx) s.state; versions = ks } in x) versions

pub returns-clause-step : goal.returns-clause-step
returns-clause-step c =
    let l = c.args.catalogue.now in
    let e = c.args.entry.now in
    let s = view c.args.stage.now in
    let has = c.has.ensures.0 c.if-not-has.false in
    let due = c.due_tx-tx.ensures.due in
    goes_by l s e has.0 (has.1 ∙ due) (has.2 ∙ c.in_ok-outcome.ensures.outcome ∙ ap (λ (tx : TxId). outcome (program_as l e.task tx) s.state) due)
