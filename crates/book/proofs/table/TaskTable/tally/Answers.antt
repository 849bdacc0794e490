use Rattle.std.proofs.Common.{◌∙◌, ap, map}
use Rattle.book.specs.Standings.{bare, unlogged}
use Rattle.book.specs.Table.{TableView}
use Rattle.book.proofs.Rows.{all_bare}
use Rattle.book.proofs.Tallies.{tally_unlogged}
use Rattle.book.specs.TableInside.{kept_of}
use Rattle.book.proofs.table.TaskTable.tally.Goals as goal

pub returns : goal.returns
returns c =
    let s = c.self.inside in
    tally_unlogged c.args.self.now.tasks (map bare s.standings.items) s.tally
    (all_bare s.variables (kept_of s) s.standings.items ∙ ap (λ (b : TableView). map unlogged b.tasks) c.self.view_is) c.self.invariant.tallied
