use Rattle.std.proofs.Common.{◌∙◌}
use Rattle.book.proofs.GivingUp.{gives_took}
use Rattle.run_workers.proofs.Sparing.{took_short}
use Rattle.run_workers.proofs.shared.next.Goals as goal

pub invariant_of-named : goal.invariant_of-named
invariant_of-named g c =
    let named = c.args.named.now in
    record {
      of_catalogue = c.take.ensures.catalogue ∙ named.of_catalogue;
      short = took_short g.N.Naming.every named.book c.take.result c.take.new.self c.take.ensures.taken named.short;
      given_up = gives_took named.book c.take.result c.take.new.self c.take.ensures.taken named.given_up;
      exist = named.exist;
      room = named.room;
    }
