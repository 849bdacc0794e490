-- A handle once what it holds was changed where it lies.
use Rattle.std.specs.Prelude.{Some}
use Rattle.stm_store.specs.declared.store.Store.{Store}
use Rattle.stm_c.specs.declared.store_handle.StoreHandle.{StoreHandle}
use Rattle.stm_store.specs.declared.lender.Lender.{Lender}
use Rattle.stm_c.specs.declared.lender_handle.LenderHandle.{LenderHandle}
use Rattle.stm_store.specs.declared.worker.Worker.{Worker}
use Rattle.stm_c.specs.declared.worker_handle.WorkerHandle.{WorkerHandle}
use Rattle.stm_desk.specs.declared.desk.Desk.{Desk}
use Rattle.stm_c.specs.declared.desk_handle.DeskHandle.{DeskHandle}
use Rattle.stm_desk.specs.declared.ended.Ended.{Ended}
use Rattle.stm_c.specs.declared.ended_handle.EndedHandle.{EndedHandle}

-- with this store in the place of the one that it holds
abbrev pub store_in : StoreHandle → Store → StoreHandle
store_in handle held = record { ptr = handle.ptr; alloc = handle.alloc; value = Some held }

-- with this lender in the place of the one that it holds
abbrev pub lender_in : LenderHandle → Lender → LenderHandle
lender_in handle held = record { ptr = handle.ptr; alloc = handle.alloc; value = Some held }

-- with this worker in the place of the one that it holds
abbrev pub worker_in : WorkerHandle → Worker → WorkerHandle
worker_in handle held = record { ptr = handle.ptr; alloc = handle.alloc; value = Some held }

-- with this desk in the place of the one that it holds
abbrev pub desk_in : DeskHandle → Desk → DeskHandle
desk_in handle held = record { ptr = handle.ptr; alloc = handle.alloc; value = Some held }

-- with this chapter in the place of the one that it holds
abbrev pub ended_in : EndedHandle → Ended → EndedHandle
ended_in handle held = record { ptr = handle.ptr; alloc = handle.alloc; value = Some held }
