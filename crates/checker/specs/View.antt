-- What a stage of the replay says, and not where it lies in memory.
use Rattle.txn_programs.specs.Replay.{Snapshot}
use Rattle.checker.specs.declared.stage.Stage.{Stage}

abbrev pub view : Stage → Snapshot
view s = record { number = s.number; state = s.values.items; versions = s.versions.items }
