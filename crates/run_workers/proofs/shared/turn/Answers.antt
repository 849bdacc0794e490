use Rattle.std.proofs.Common.{◌∙◌}
use Rattle.run_workers.proofs.Journals.{serial_short}
use Rattle.run_workers.proofs.Sparing.{turned_gives}
use Rattle.run_workers.proofs.Standing.{kept_over, served_over}
use Rattle.run_workers.proofs.shared.turn.Goals as goal

pub invariant_of-named : goal.invariant_of-named
invariant_of-named g c =
    let named = c.args.named.now in
    record {
      of_catalogue = c.keep_short.ensures.catalogue ∙ (c.serve-how.ensures.catalogue ∙ named.of_catalogue);
      short = serial_short c.args.every g.N.Naming.every c.requires.every named.book c.law.ensures.lawful named.short _ _ c.args.task c.serve-how.result c.serve-how.ensures.served c.keep_short.ensures.kept_short;
      given_up = turned_gives c.args.every named.book c.args.task c.serve-how.result _ _ c.serve-how.ensures.served c.serve-how.ensures.memory c.keep_short.ensures.kept_short named.given_up;
      exist = named.exist;
      room = named.room;
    }

pub returns : goal.returns
returns g c =
    kept_over c.args.every c.serve-how.result _ _ c.args.task c.keep_short.ensures.kept_short
    (served_over _ _ c.args.task c.serve-how.result c.serve-how.ensures.served)
