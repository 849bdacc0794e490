use Rattle.std.proofs.Common.{pos}
use Rattle.txn_words.specs.Words.{last_state}
use Rattle.cells_tests.proofs.Changes.{one_write}
use Rattle.cells_tests.proofs.wide.publish_nine.Goals as goal

pub publish-requires-clause-writes : goal.publish-requires-clause-writes
publish-requires-clause-writes c = one_write (last_state c.args.publisher.now.history) (c.args.x, pos 9) c.requires.exists
