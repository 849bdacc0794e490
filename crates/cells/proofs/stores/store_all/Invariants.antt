use Rattle.std.proofs.Common.{◌≡◌, Bool, take}
use Rattle.cells.specs.Sight.{publishing, commit_of}
use Rattle.cells.specs.Publishing.{changes_of}
use Rattle.cells.specs.Private.{IsSameSeat, all_stored}
use Rattle.cells.proofs.stores.store_all.Given as goal

abbrev pub invariant-loop-write : goal.invariant-loop-write
invariant-loop-write l =
    IsSameSeat l.initial.seat l.seat
    × ((b : Bool) × (l.seat.me.0 ≡ publishing (all_stored b (changes_of l.values (take l.write-index l.writes)) (commit_of l.initial.seat.me.0))))
