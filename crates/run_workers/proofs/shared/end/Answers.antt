use Rattle.std.proofs.Common.{◌∙◌}
use Rattle.run_workers.proofs.Journals.{finish_short}
use Rattle.run_workers.proofs.Sparing.{ended_gives}
use Rattle.book.specs.declared.task.Finish.TheVariants as finish
use Rattle.book.specs.declared.task.Serial.TheVariants as serial
use Rattle.run_workers.proofs.Standing.{kept_over, committed_over}
use Rattle.run_workers.proofs.shared.end.Goals as goal

pub invariant_of-named-in-Committed : goal.invariant_of-named-in-Committed
invariant_of-named-in-Committed g c =
    let named = c.args.named.now in
    record {
      of_catalogue = c.keep_short.ensures.catalogue ∙ (c.in-Committed.ensures.catalogue ∙ named.of_catalogue);
      short = finish_short c.args.every g.N.Naming.every c.requires.every named.book c.law.ensures.lawful named.short _ _ c.args.task c.in-Committed.number c.in-Committed.ensures.finished.4 c.keep_short.ensures.kept_short;
      given_up = ended_gives c.args.every named.book c.args.task (finish.Committed c.in-Committed.number) (serial.Committed c.in-Committed.number) c.args.attempt.now _ _ c.in-Committed.ensures.finished c.keep_short.ensures.kept_short named.given_up;
      exist = named.exist;
      room = named.room;
    }

pub returns-in-Committed : goal.returns-in-Committed
returns-in-Committed g c = λ yes.
    let f = c.in-Committed.ensures.finished in
    kept_over c.args.every (serial.Committed c.in-Committed.number) _ _ c.args.task c.keep_short.ensures.kept_short (committed_over _ _ c.args.task f.0 f.4)
