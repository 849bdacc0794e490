-- What a store that refused a turn is left as.
use Rattle.std.proofs.Common.{◌≡◌, Err}
use Rattle.book.specs.View.{IsRunning}
use Rattle.stm_store.specs.Asking.{IsPresentJob}
use Rattle.stm_store.specs.Turning.{HasTurn}
use Rattle.stm_store.specs.Bringing.{Brings}
use Rattle.stm_store.specs.declared.answers.Refused.{Refused}
use Rattle.stm_store.specs.declared.answers.Refused.TheVariants as refused
use Rattle.stm_store.specs.declared.job.Job.{Job}
use Rattle.stm_store.specs.declared.store.Store.{Store}
use Rattle.stm_store.specs.declared.worker.Worker.{Worker}
use Rattle.stm_desk.specs.Running.{RefusesTurn}

pub turn_refused : (old new : Store) (job : Job) (why : Refused) → HasTurn old job (Err why) new → new.book ≡ old.book
turn_refused old new job refused.Gone h = h.1
turn_refused old new job refused.NotRunning h = h.2
turn_refused old new job refused.Unknown h = absurd h
turn_refused old new job refused.NotReady h = absurd h
turn_refused old new job refused.NotEnded h = absurd h
turn_refused old new job refused.OtherProgram h = absurd h
turn_refused old new job refused.Stale h = absurd h
turn_refused old new job refused.NoRoom h = absurd h
turn_refused old new job refused.Retries h = absurd h
turn_refused old new job refused.Memory h = absurd h
turn_refused old new job refused.Closed h = absurd h
turn_refused old new job refused.TimedOut h = absurd h

pub bring_refused : (old new : Store) (w : Worker) (why : Refused) → Brings old w (Err why) new → new.book ≡ old.book
bring_refused old new w refused.NotEnded h = h.1
bring_refused old new w refused.Gone h = h.3
bring_refused old new w refused.OtherProgram h = h.4
bring_refused old new w refused.Stale h = h.2.2
bring_refused old new w refused.NotRunning h = h.2.1
bring_refused old new w refused.Unknown h = absurd h.2
bring_refused old new w refused.NotReady h = absurd h.2
bring_refused old new w refused.NoRoom h = absurd h.2
bring_refused old new w refused.Retries h = absurd h.2
bring_refused old new w refused.Memory h = absurd h.2
bring_refused old new w refused.Closed h = absurd h.2
bring_refused old new w refused.TimedOut h = absurd h.2

pub turn_always : (s : Store) (job : Job) (why : Refused) → IsPresentJob s job → IsRunning s.book job.task → RefusesTurn s job why → ⊥
turn_always s job refused.Gone present runs h = h present
turn_always s job refused.NotRunning present runs h = h.1 runs
turn_always s job refused.Unknown present runs h = h
turn_always s job refused.NotReady present runs h = h
turn_always s job refused.NotEnded present runs h = h
turn_always s job refused.OtherProgram present runs h = h
turn_always s job refused.Stale present runs h = h
turn_always s job refused.NoRoom present runs h = h
turn_always s job refused.Retries present runs h = h
turn_always s job refused.Memory present runs h = h
turn_always s job refused.Closed present runs h = h
turn_always s job refused.TimedOut present runs h = h
