use Rattle.std.proofs.Common.{◌≡◌, Some, slice_get, subst}
use Rattle.book.specs.Tasks.{Running}
use Rattle.book.specs.View.{BookView}
use Rattle.stm_desk_tests.proofs.long.opened.Goals as goal

pub open-requires : goal.open-requires
open-requires c =
    record { still = λ k runs. c.in_ok-store.ensures k (subst (λ (b : BookView). slice_get b.tasks k ≡ Some Running) c.worker.ensures.book runs) }
