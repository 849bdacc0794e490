use Rattle.std.proofs.Common.{sym}
use Rattle.std.proofs.lemmas.Option.{get_or_from_slice_get}
use Rattle.txn_programs.specs.Listing.{tasks}
use Rattle.book.proofs.Listings.{tx_own, known_own}
use Rattle.book.proofs.chapter.Chapter.transaction.Goals as goal

pub returns-clause-own : goal.returns-clause-own
returns-clause-own c = tx_own c.self.inside c.args.self.now c.args.task.0 c.transaction.result c.self.view_is c.self.invariant.listed c.transaction.ensures

pub returns-clause-value : goal.returns-clause-value
returns-clause-value c =
    sym (get_or_from_slice_get (tasks c.args.self.now.listing) c.args.task.0 c.transaction.result (record { 0 = 0 })
    (tx_own c.self.inside c.args.self.now c.args.task.0 c.transaction.result c.self.view_is c.self.invariant.listed c.transaction.ensures))

pub returns-clause-known : goal.returns-clause-known
returns-clause-known c =
    let s = c.self.inside in
    let v = c.args.self.now in
    let k = c.self.invariant in
    (known_own s v c.args.task c.transaction.result c.self.view_is k.listed k.known (tx_own s v c.args.task.0 c.transaction.result c.self.view_is k.listed c.transaction.ensures)).declared
