use Rattle.std.proofs.Common.{◌∙◌, ap}
use Rattle.book.specs.Tasks.{Running, GivenUp}
use Rattle.book.specs.Table.{TableView, placed}
use Rattle.book.proofs.Recording.{placed_twice}
use Rattle.book.proofs.table.TaskTable.drop_ready.Goals as goal

pub returns : goal.returns
returns c =
    c.give_up.ensures ∙ (ap (λ (b : TableView). placed b c.args.task GivenUp) c.claim.ensures ∙ placed_twice c.args.self.now c.args.task Running GivenUp)
