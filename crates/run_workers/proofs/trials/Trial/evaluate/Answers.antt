use Rattle.std.proofs.Common.{◌≡◌, ◌<◌, ◌∙◌, ℤ, List, length, ap, subst}
use Rattle.txn_programs.specs.declared.ast.TxId.{TxId}
use Rattle.txn_programs.specs.Listing.{Listing, call_program, program_at, task_tx, task_program}
use Rattle.attempt.specs.Room.{NeedsNoMemory, TakesMemory}
use Rattle.attempt.specs.View.{AttemptView, fresh_attempt}
use Rattle.attempt.proofs.Calls.{call_small}
use Rattle.run_workers.specs.Over.{is_over}
use Rattle.run_workers.proofs.trials.Trial.evaluate.Goals as goal

pub invariant_of-self : goal.invariant_of-self
invariant_of-self g c =
    let l = c.args.catalogue.now in let t = c.args.self.now.task in let e = c.in-Ok.ensures in
    record {
      exists = c.args.self.now.exists;
      own = λ _. e.program ∙ (ap (λ a. a.program) c.restart.ensures ∙ (ap (λ i. call_program l i c.task_arguments-arguments.result.now) c.task_tx.ensures.value ∙ (ap (call_program l (task_tx l t)) c.task_arguments-arguments.ensures.value ∙ ap (λ l. task_program l t) c.requires.named)));
      known = λ _. e.variables ∙ (ap (λ a. a.variables) c.restart.ensures ∙ ap (λ l. length l.initial) c.requires.named);
      over = λ _. ap is_over e.ended;
      short = λ e. absurd (cc);
    }

-- an attempt of a call takes memory only where its transaction does
call_takes : (l : Listing) (tx : TxId) (given : List ℤ) (a : AttemptView) → a ≡ fresh_attempt l tx given → (NeedsNoMemory a.program → 8 < a.variables) → TakesMemory l tx
call_takes l tx given a fresh h =
    λ small. subst (λ (v : AttemptView). NeedsNoMemory v.program → 8 < v.variables) fresh h (call_small given (program_at l tx) small)

pub invariant_of-self-in-Err-clause-short : goal.invariant_of-self-in-Err-clause-short
invariant_of-self-in-Err-clause-short g c = λ _.
    let l = c.args.catalogue.now in let t = c.args.self.now.task in
    subst (λ (k : Listing). TakesMemory k (task_tx k t)) c.requires.named
    (subst (TakesMemory l) c.task_tx.ensures.value (call_takes l c.task_tx.result c.task_arguments-arguments.result.now _ c.restart.ensures c.in-Err.ensures.memory))
