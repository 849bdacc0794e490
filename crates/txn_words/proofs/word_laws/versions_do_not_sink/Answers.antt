use Rattle.txn_words.proofs.Loads.{first_not_above, second_not_above}
use Rattle.txn_words.proofs.word_laws.versions_do_not_sink.Goals as goal

pub returns-clause-first : goal.returns-clause-first
returns-clause-first c words h r holds n = first_not_above words h r holds n

pub returns-clause-second : goal.returns-clause-second
returns-clause-second c words h r holds n = second_not_above words h r holds n
