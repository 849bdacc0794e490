use Rattle.book.proofs.Recording.{kept_withdrawn, withdrawn_view}
use Rattle.book.proofs.book.Book.withdraw.Goals as goal

pub invariant_of-self : goal.invariant_of-self
invariant_of-self c = kept_withdrawn c.self.inside c.withdraw.new.self c.args.task c.withdraw.result c.self.invariant c.withdraw.ensures

pub returns-clause-withdrawn : goal.returns-clause-withdrawn
returns-clause-withdrawn c = withdrawn_view c.self.inside c.args.self.now c.withdraw.new.self c.args.task c.withdraw.result c.self.view_is c.withdraw.ensures
