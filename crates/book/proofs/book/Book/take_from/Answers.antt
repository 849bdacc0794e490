use Rattle.std.proofs.Common.{subst}
use Rattle.book.specs.View.{BookView}
use Rattle.book.specs.Turns.{TakenFrom}
use Rattle.book.specs.BookInside.{book_of}
use Rattle.book.proofs.Kept.{kept_taken_from, taken_from_view}
use Rattle.book.proofs.book.Book.take_from.Goals as goal

pub invariant_of-self : goal.invariant_of-self
invariant_of-self c = kept_taken_from c.self.inside c.take_from.new.self c.args.number c.take_from.result c.self.invariant c.take_from.ensures

pub returns-clause-taken : goal.returns-clause-taken
returns-clause-taken c =
    subst (λ (v : BookView). TakenFrom c.args.number v c.take_from.result (book_of (record c.self.inside { table = c.take_from.new.self }))) c.self.view_is (taken_from_view c.self.inside c.take_from.new.self c.args.number c.take_from.result c.take_from.ensures)
