use Rattle.checker.proofs.Whole.{lawful, all_hold}
use Rattle.checker.proofs.laws.lawful_where_all_parts_hold.Goals as goal

pub returns : goal.returns
returns c l r fits = (all_hold l r, lawful l r fits)
