use Rattle.std.proofs.Common.{◌≡◌, true, false}
use Rattle.txn_programs.specs.Standing.{upholds}
use Rattle.txn.proofs.Standing.{upheld_passes}
use Rattle.txn.proofs.values.with_upheld_values.Goals as goal

pub unreachable-requires-in-Err-Broken : goal.unreachable-requires-in-Err-Broken
unreachable-requires-in-Err-Broken c =
    let no : upholds c.args.catalogue.now c.args.values.now ≡ false = c.in-Err-Broken.ensures.broken c.in-Err-Broken.field-0-is in
    let yes : upholds c.args.catalogue.now c.args.values.now ≡ true = upheld_passes c.args.catalogue.now c.args.values.now c.requires.upheld in
    cc
