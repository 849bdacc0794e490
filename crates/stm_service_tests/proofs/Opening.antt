-- No task runs in a store that opens.
use Rattle.std.proofs.Common.{◌≡◌, ◌≢◌, ℕ, zero, suc, Some, length, replicate, slice_get, subst}
use Rattle.book.specs.Tasks.{Ready, Running}
use Rattle.book.specs.View.{BookView, opened}
use Rattle.txn_programs.specs.Listing.{Listing, tasks}
use Rattle.stm_store.specs.declared.store.Store.{Store}
use Rattle.stm_desk.specs.Asking.{IsStill}

ready_not_running : (n k : ℕ) → slice_get (replicate n Ready) k ≢ Some Running
ready_not_running zero k e = cc
ready_not_running (suc n) zero e = cc
ready_not_running (suc n) (suc k) e = ready_not_running n k e

pub opened_still : (l : Listing) (spare : ℕ) (s : Store) → s.book ≡ opened l s.cells spare → IsStill s
opened_still l spare s is k runs = ready_not_running (length (tasks l)) k (subst (λ (b : BookView). slice_get b.tasks k ≡ Some Running) is runs)
