use Rattle.run_workers.proofs.Ended.{its_end}
use Rattle.run_workers.proofs.rounds.bring.Goals as goal

pub end-requires-clause-ended : goal.end-requires-clause-ended
end-requires-clause-ended g c κs within =
    let t = c.args.trial.now in
    record {
      program = t.own c.in-Ended.is;
      variables = t.known c.in-Ended.is;
      ended = its_end t.attempt.stand (t.over c.in-Ended.is);
    }
