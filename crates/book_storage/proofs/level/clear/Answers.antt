use Rattle.book_storage.proofs.Rows.{clear_is}
use Rattle.book_storage.proofs.level.clear.Goals as goal

pub returns-clause-cleared : goal.returns-clause-cleared
returns-clause-cleared c = clear_is c.args.words.now c.args.bit
