use Rattle.book_storage.proofs.Rows.{set_is}
use Rattle.book_storage.proofs.level.set.Goals as goal

pub returns : goal.returns
returns c = set_is c.args.words.now c.args.bit
