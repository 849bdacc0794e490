use Rattle.std.proofs.Common.{◌∙◌, sym, ap}
use Rattle.std.specs.List.{slice_get}
use Rattle.book.specs.View.{BookView}
use Rattle.book.proofs.Filling.{running_with}
use Rattle.book.proofs.PlainKept.{turned_catalogue}
use Rattle.book.proofs.book.Book.turn_plainly.Goals as goal

pub commit_plainly-requires : goal.commit_plainly-requires
commit_plainly-requires c =
    record { running = ap (λ (x : BookView). slice_get x.tasks c.args.task.0) (sym c.self.view_is) ∙ running_with c.self.inside.present.values.items c.self.inside.table.tasks c.args.task.0 c.if-not-is_running.ensures }

pub returns-clause-catalogue : goal.returns-clause-catalogue
returns-clause-catalogue c =
    turned_catalogue c.args.self.now c.commit_plainly.new.self c.args.task c.commit_plainly.result c.commit_plainly.ensures.committed c.commit_plainly.ensures.unchanged
