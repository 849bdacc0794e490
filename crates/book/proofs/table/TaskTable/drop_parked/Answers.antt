use Rattle.std.proofs.Common.{◌∙◌, ap}
use Rattle.book.specs.Tasks.{Ready, GivenUp}
use Rattle.book.specs.Table.{TableView, placed}
use Rattle.book.proofs.Recording.{placed_twice}
use Rattle.book.proofs.table.TaskTable.drop_parked.Goals as goal

pub returns : goal.returns
returns c =
    c.drop_ready.ensures ∙ (ap (λ (b : TableView). placed b c.args.task GivenUp) c.unpark.ensures ∙ placed_twice c.args.self.now c.args.task Ready GivenUp)
