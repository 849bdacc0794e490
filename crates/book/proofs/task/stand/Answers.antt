use Rattle.book.proofs.Tallies.{counts_running, counts_parked, counts_given_up, tally_set}
use Rattle.book.proofs.task.stand.Goals as goal

pub without_one-requires : goal.without_one-requires
without_one-requires c =
    let ss = c.args.standings.now.items in
    record {
      running = counts_running ss c.args.task.0 c.args.was.now c.args.tally.now c.requires.was c.requires.tallied;
      parked = counts_parked ss c.args.task.0 c.args.was.now c.args.tally.now c.requires.was c.requires.tallied;
      given_up = counts_given_up ss c.args.task.0 c.args.was.now c.args.tally.now c.requires.was c.requires.tallied;
    }

pub returns-clause-tallied : goal.returns-clause-tallied
returns-clause-tallied c =
    let ss = c.args.standings.now.items in
    tally_set ss c.args.task.0 c.args.was.now c.args.how c.args.tally.now c.without_one.result c.with_one_more.result c.requires.was c.requires.tallied c.without_one.ensures c.with_one_more.ensures
