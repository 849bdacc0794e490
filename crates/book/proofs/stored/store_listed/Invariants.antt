use Rattle.book.specs.Changed.{AreListed}
use Rattle.book.proofs.Storing.{Stored}
use Rattle.book.proofs.stored.store_listed.Given as goal

abbrev pub invariant-loop-write : goal.invariant-loop-write
invariant-loop-write l =
    Stored l.number l.writes l.fn.present.values.items l.fn.present.versions.items l.write-index l.present.values.items l.present.versions.items
    × AreListed l.base l.present.values.items l.present.versions.items l.since
