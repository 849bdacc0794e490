use Rattle.std.proofs.Common.{◌≡◌, take}
use Rattle.cells.specs.Sight.{publishing, commit_of}
use Rattle.cells.specs.Publishing.{changes_of}
use Rattle.cells.specs.Private.{IsSameSeat, all_released}
use Rattle.cells.proofs.stores.release_all.Given as goal

abbrev pub invariant-loop-write : goal.invariant-loop-write
invariant-loop-write l =
    IsSameSeat l.initial.seat l.seat
    × (l.seat.me.0 ≡ publishing (all_released l.fn.number (changes_of l.values (take l.write-index l.writes)) (commit_of l.initial.seat.me.0)))
