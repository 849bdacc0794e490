use Rattle.txn_evaluator.proofs.Sequences.{retry_anywhere, retry_ends, throw_anywhere, throw_ends}
use Rattle.txn_evaluator.proofs.laws.nothing_follows.Goals as goal

pub returns-clause-retry_anywhere : goal.returns-clause-retry_anywhere
returns-clause-retry_anywhere c parts rest m = retry_anywhere parts rest m

pub returns-clause-retry_ends : goal.returns-clause-retry_ends
returns-clause-retry_ends c parts rest m n h = retry_ends parts rest m n h

pub returns-clause-throw_anywhere : goal.returns-clause-throw_anywhere
returns-clause-throw_anywhere c e parts rest m = throw_anywhere parts rest m e

pub returns-clause-throw_ends : goal.returns-clause-throw_ends
returns-clause-throw_ends c e parts rest m n h = throw_ends parts rest m e n h
