use Rattle.std.proofs.Common.{◌∙◌, sym, subst}
use Rattle.txn_programs.specs.Listing.{Listing, task_tx}
use Rattle.attempt.specs.Room.{TakesMemory}
use Rattle.book.proofs.GivingUp.{gives_dropped}
use Rattle.run_workers.proofs.Sparing.{dropped_short}
use Rattle.run_workers.proofs.shared.drop_task.Goals as goal

pub invariant_of-named : goal.invariant_of-named
invariant_of-named g c =
    let named = c.args.named.now in
    let task = c.args.task in
    let takes = subst (λ (l : Listing). TakesMemory l (task_tx l task)) (sym named.of_catalogue) c.requires.memory in
    record {
      of_catalogue = c.give_up.ensures.catalogue ∙ named.of_catalogue;
      short = dropped_short g.N.Naming.every named.book task c.give_up.result c.give_up.new.self c.give_up.ensures.given_up named.short;
      given_up = gives_dropped named.book task c.give_up.result c.give_up.new.self c.give_up.ensures.given_up takes named.given_up;
      exist = named.exist;
      room = named.room;
    }
