use Rattle.std.proofs.Common.{subst}
use Rattle.text_line_reader.specs.Schedules.{IsFirst}
use Rattle.explain_schedules.proofs.Limits.{limit_uneven}
use Rattle.explain_schedules.proofs.explaining.place_of.Goals as goal

pub first_wrong-requires-in-Limit-clause-uneven : goal.first_wrong-requires-in-Limit-clause-uneven
first_wrong-requires-in-Limit-clause-uneven c = limit_uneven c.args.catalogue.now c.args.bytes.now c.rules.ensures.limits (subst (IsFirst c.args.catalogue.now c.args.bytes.now) c.in-Limit.is c.requires.first)
