use Rattle.std.proofs.Common.{length, sym, ap, arith}
use Rattle.book.specs.View.{BookView}
use Rattle.book.proofs.Tallies.{counts_stay}
use Rattle.book.proofs.Beginning.{carried_shorter}
use Rattle.book.proofs.book.Book.staying.Goals as goal

pub overflow_add-result : goal.overflow_add-result
overflow_add-result c =
    let ts = c.args.self.now.tasks in
    omega (arith, counts_stay ts c.counts-counts.result c.counts-counts.ensures, carried_shorter ts, ap (λ (b : BookView). length b.tasks) c.self.view_is, c.self.invariant.fits.few)

pub overflow_add-result-2 : goal.overflow_add-result-2
overflow_add-result-2 c =
    let ts = c.args.self.now.tasks in
    omega (arith, counts_stay ts c.counts-counts.result c.counts-counts.ensures, carried_shorter ts, ap (λ (b : BookView). length b.tasks) c.self.view_is, c.self.invariant.fits.few)

pub returns : goal.returns
returns c = sym (counts_stay c.args.self.now.tasks c.counts-counts.result c.counts-counts.ensures)
