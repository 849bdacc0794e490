use Rattle.book_tests.proofs.Sums.{sum_upheld}
use Rattle.book_tests.proofs.accounts.sum_is_kept.Goals as goal

pub returns-clause-base : goal.returns-clause-base
returns-clause-base c = sum_upheld c.args.book.now.catalogue _ c.requires c.law.ensures.upheld.0

pub returns-clause-present : goal.returns-clause-present
returns-clause-present c = sum_upheld c.args.book.now.catalogue _ c.requires c.law.ensures.upheld.1

pub returns-clause-published : goal.returns-clause-published
returns-clause-published c k d low = sum_upheld c.args.book.now.catalogue _ c.requires (c.law.ensures.upheld.2 k d low)
