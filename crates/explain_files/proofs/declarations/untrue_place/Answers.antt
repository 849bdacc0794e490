use Rattle.text_resolver.specs.Parts.{view_parts}
use Rattle.explain_files.proofs.Placing.{false_declared, broken_listed, broken_untrue}
use Rattle.explain_files.proofs.declarations.untrue_place.Goals as goal

pub parts_of-requires : goal.parts_of-requires
parts_of-requires c = broken_listed c.args.bytes.now c.requires

pub untrue-requires : goal.untrue-requires
untrue-requires c = broken_untrue c.args.bytes.now (view_parts c.in_ok-parts.parts) c.requires c.in_ok-parts.ensures

pub unreachable-requires : goal.unreachable-requires
unreachable-requires c = false_declared c.args.bytes.now (view_parts c.in_ok-parts.parts) c.in_ok-name.name.now c.in_ok-parts.ensures c.in_ok-name.ensures c.in-None.ensures.none
