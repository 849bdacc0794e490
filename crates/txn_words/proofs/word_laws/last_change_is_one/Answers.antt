use Rattle.txn_words.proofs.Words.{one_last_change}
use Rattle.txn_words.proofs.word_laws.last_change_is_one.Goals as goal

pub returns : goal.returns
returns c h x v w a b = one_last_change h x v w a b
