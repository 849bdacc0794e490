use Rattle.explain_schedules.proofs.Parts.{some_parted, none_parts, parted_length}
use Rattle.explain_schedules.proofs.line.split_once.Goals as goal

pub returns-clause-some : goal.returns-clause-some
returns-clause-some c = some_parted c.args.sep c.args.bytes.now c.part.result c.part.ensures.value

pub returns-clause-none : goal.returns-clause-none
returns-clause-none c e = none_parts c.args.sep c.args.bytes.now c.part.result c.part.ensures.value e

pub returns-clause-len : goal.returns-clause-len
returns-clause-len c = parted_length c.args.sep c.args.bytes.now c.part.result c.part.ensures.value
