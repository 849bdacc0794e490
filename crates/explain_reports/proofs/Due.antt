-- An entry goes on exactly where replay has it so.
use Rattle.std.proofs.Common.{◌≡◌, ◌∙◌, ◌+◌, ◌==◌, Bool, true, false, refl, ap, sym}
use Rattle.std.proofs.lemmas.Bool.{eqb-true, eq-eqb}
use Rattle.std.specs.Prelude.{if◌then◌else◌}
use Rattle.txn_programs.specs.declared.ast.TxId.{TxId}
use Rattle.txn_programs.specs.declared.report.Entry.{Entry}
use Rattle.txn_programs.specs.Meaning.{outcome}
use Rattle.txn_programs.specs.Listing.{Listing, arity, program_as, task_tx, transaction_at}
use Rattle.txn_programs.specs.Replay.{Snapshot}
use Rattle.checker.specs.Parts.{GoesOn}
use Rattle.explain_reports.specs.Parts.{due_tx}

-- the transaction that the entry names is the one that replay has where it takes as many arguments as the task has
pub due_own : (l : Listing) (e : Entry) → arity (transaction_at l e.tx) ≡ arity (transaction_at l (task_tx l e.task)) → due_tx l e ≡ e.tx
due_own l e h = ap (λ (b : Bool). if b then e.tx else task_tx l e.task) (eq-eqb (arity (transaction_at l e.tx)) (arity (transaction_at l (task_tx l e.task))) h)

takes_by : (l : Listing) (e : Entry) → e.tx ≡ due_tx l e → arity (transaction_at l e.tx) ≡ arity (transaction_at l (task_tx l e.task))
takes_by l e = by (arity (transaction_at l e.tx) == arity (transaction_at l (task_tx l e.task))) refl
  where
    by : (b : Bool) → (arity (transaction_at l e.tx) == arity (transaction_at l (task_tx l e.task))) ≡ b → e.tx ≡ (if b then e.tx else task_tx l e.task)
        → arity (transaction_at l e.tx) ≡ arity (transaction_at l (task_tx l e.task))
    by true is h = eqb-true (arity (transaction_at l e.tx)) (arity (transaction_at l (task_tx l e.task))) is
    by false is h = ap (λ (tx : TxId). arity (transaction_at l tx)) h

module _ (l : Listing) (s : Snapshot) (e : Entry) where
  pub goes_by : e.number ≡ s.number + 1 → e.tx ≡ due_tx l e → e.outcome ≡ outcome (program_as l e.task (due_tx l e)) s.state → GoesOn l e s
  goes_by n t o = record { number = n; takes = takes_by l e t; outcome_is = o ∙ ap (λ (tx : TxId). outcome (program_as l e.task tx) s.state) (sym t) }

  pub goes_so : GoesOn l e s → (e.number ≡ s.number + 1) × (e.tx ≡ due_tx l e) × (e.outcome ≡ outcome (program_as l e.task (due_tx l e)) s.state)
  goes_so g =
      let t = due_own l e g.takes in
      (g.number, sym t, g.outcome_is ∙ ap (λ (tx : TxId). outcome (program_as l e.task tx) s.state) (sym t))
