use Rattle.std.proofs.Common.{ap}
use Rattle.text_grammar.specs.Spelling.{fault_in}
use Rattle.text_file_reader.proofs.Spelt.{spelled_listing, faultless_is}
use Rattle.text_file_reader.proofs.laws.faults_where_none_is_spelled.Goals as goal

pub returns-clause-spelled : goal.returns-clause-spelled
returns-clause-spelled c bytes l s = ap fault_in (spelled_listing bytes l s)

pub returns-clause-faultless : goal.returns-clause-faultless
returns-clause-faultless c = faultless_is
