use Rattle.std.proofs.Common.{arith}
use Rattle.book.proofs.Given.{length_in}
use Rattle.book.proofs.calls.Calls.len.Goals as goal

pub returns : goal.returns
returns c = let s = c.self.inside in omega (arith, c.len.ensures, s.transactions.ok.0, length_in s c.args.self.now c.self.view_is)
