use Rattle.text_resolver.specs.Parts.{view_parts}
use Rattle.explain_files.proofs.Placing.{costly_declared, limit_listed, costs_do_not_hold}
use Rattle.explain_files.proofs.declarations.costly_place.Goals as goal

pub parts_of-requires : goal.parts_of-requires
parts_of-requires c = limit_listed c.args.bytes.now c.requires.fault c.requires.right

pub unreachable-requires : goal.unreachable-requires
unreachable-requires c = costly_declared c.args.bytes.now (view_parts c.in_ok-parts.parts) c.in-Some.used c.in-Some.name.now c.in_ok-parts.ensures c.in-Some.ensures.some c.in-None-declaration_place.ensures.none

pub unreachable-requires-in-None : goal.unreachable-requires-in-None
unreachable-requires-in-None c = costs_do_not_hold c.args.bytes.now (view_parts c.in_ok-parts.parts) c.requires.fault c.requires.right c.in_ok-parts.ensures c.in-None.ensures.none
