use Rattle.std.proofs.Common.{◌∙◌, ap}
use Rattle.txn_programs.specs.Names.{names_hold}
use Rattle.txn_programs.specs.Limits.{limits_hold}
use Rattle.txn.proofs.Standing.{names_stay, limits_stay}
use Rattle.txn.proofs.values.made.Goals as goal

pub built-requires-clause-names : goal.built-requires-clause-names
built-requires-clause-names c = ap names_hold c.requires ∙ names_stay c.args.catalogue.now c.args.values.now ∙ c.rules.ensures.names

pub built-requires-clause-limits : goal.built-requires-clause-limits
built-requires-clause-limits c = ap limits_hold c.requires ∙ limits_stay c.args.catalogue.now c.args.values.now ∙ c.rules.ensures.limits
