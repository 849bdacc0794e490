use Rattle.book_storage.proofs.Rows.{has_is}
use Rattle.book_storage.proofs.level.has.Goals as goal

pub returns : goal.returns
returns c = has_is c.args.words.now c.args.bit
