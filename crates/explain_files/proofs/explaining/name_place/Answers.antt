use Rattle.explain_files.proofs.Named.{some_name_is_wrong}
use Rattle.explain_files.proofs.explaining.name_place.Goals as goal

pub unreachable-requires : goal.unreachable-requires
unreachable-requires c = some_name_is_wrong c.args.bytes.now c.requires (rw c.in-None.is at c.in_ok-wrong.ensures.none)
