use Rattle.std.proofs.Common.{◌<◌, length, refl, arith}
use Rattle.std.proofs.lemmas.Option.{slice_get_read}
use Rattle.book.proofs.Given.{length_in, tx_in}
use Rattle.book.proofs.calls.Calls.transaction.Goals as goal

pub index-requires : goal.index-requires
index-requires c = let s = c.self.inside in omega (arith, c.requires, s.transactions.ok.0, length_in s c.args.self.now c.self.view_is)

pub returns : goal.returns
returns c =
    let s = c.self.inside in
    let txs = s.transactions.items in
    let low : c.args.task < length txs = omega (arith, c.requires, length_in s c.args.self.now c.self.view_is) in
    tx_in s c.args.self.now c.args.task c.index.result.now c.self.view_is (slice_get_read txs (length txs) c.args.task c.index.result.now refl low c.index.ensures)
