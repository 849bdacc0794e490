-- What the workers of a run share may be used by many threads at once.
use denote.RattleType.{RattleType}
use denote.Ref.{NamedLft}
use denote.Builtin.{One}
use denote.Hole.{as_row}
use denote.Struct.Field.{shr_ref_field}
use denote.Param.Send.{IsSend, IsSync, sendable, shr_sync}
use denote.Param.SendFields.{declared_send, declared_sync, as_row_sync}
use Rattle.std.proofs.Crossing.{crosses}
use Rattle.arrayvec.proofs.array_vec.ArrayVec.TheSendSync as array_vec
use Rattle.std.specs.contracts.sync.Mutex as mutex
use Rattle.txn.specs.contracts.catalogue.Catalogue as catalogue
use Rattle.cells.specs.contracts.cells.Cells as cells
use Rattle.cells.proofs.cells.Cells.TheSendSync as crossing
use Rattle.run_workers.specs.declared.shared.Naming.{Ghosts}
use Rattle.run_workers.specs.contracts.shared.Named as named
use Rattle.run_workers.specs.contracts.worker.Crew as crew
use Rattle.book.proofs.Crossing.{catalogue_sync, book_send}

-- a reference to what may be shared
shared_field : (k : NamedLft) (R : RattleType) (one : One R.mir) → IsSync R → IsSync (as_row (shr_ref_field k R one))
shared_field k R one s = as_row_sync (shr_ref_field k R one) (shr_sync k.mir k.lft R s)

pub named_send : (ℓ : NamedLft) (N : RattleType) (n : Ghosts N.Denot) → IsSend N → IsSend (named.the_row ℓ N n)
named_send ℓ N n s =
    let held = array_vec.the_send in
    declared_send (named.the_type ℓ N n) (book_send ℓ, (search (sendable, crosses) depth 10, (search sendable, tt)))

module _ (k ℓ : NamedLft) (G : RattleType) (N : RattleType) (n : Ghosts N.Denot) where
  mutex_sync : IsSend N → IsSync (mutex.the_row (named.the_row ℓ N n))
  mutex_sync s = let h = named_send ℓ N n s in search crosses depth 10

  pub crew_sync : IsSync G → IsSend N → IsSync (crew.the_row k ℓ G N n)
  crew_sync f s =
      declared_sync (crew.the_type k ℓ G N n) (
        search (sendable, crosses) depth 20,
        (
          shared_field ℓ catalogue.the_row tt catalogue_sync,
          (
            search (sendable, crosses) depth 20,
            (
              shared_field k cells.the_row tt crossing.the_sync,
              (
                shared_field k (mutex.the_row (named.the_row ℓ N n)) tt (mutex_sync s),
                (search sendable, (search sendable, (search sendable, tt))),
              ),
            ),
          ),
        ),
      )
