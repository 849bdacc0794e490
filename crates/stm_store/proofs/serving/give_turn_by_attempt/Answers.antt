use Rattle.std.proofs.Common.{◌∙◌, sym}
use Rattle.txn_programs.specs.Listing.{task_program}
use Rattle.txn_programs.specs.Meaning.{outcome}
use Rattle.book.specs.declared.task.Serial.TheVariants as serial
use Rattle.stm_store.proofs.Entries.{enters_told, same_end}
use Rattle.stm_store.proofs.Shapes.{entered_shape}
use Rattle.stm_store.proofs.serving.give_turn_by_attempt.Goals as goal

pub told_by-told-requires : goal.told_by-told-requires
told_by-told-requires c =
    record { ended = (outcome (task_program c.args.book.now.catalogue c.args.task) c.args.book.now.present.state, c.in-Committed.ensures.ended) }

pub returns-in-Committed-clause-ends : goal.returns-in-Committed-clause-ends
returns-in-Committed-clause-ends c =
    let h = c.in-Committed.ensures.served in
    let same = same_end _ _ (sym c.told_by-told.ensures.outcome ∙ c.in-Committed.ensures.ended) in
    enters_told c.args.every c.args.book.now c.serial_lent-how.new.self c.keep_short.new.self c.args.task c.in-Committed.number c.told_by-told.result h.0 h.2 h.3 c.told_by-told.ensures.number same c.law.ensures.lawful c.law-2.ensures.lawful c.keep_short.ensures.kept_short

pub returns-in-Committed-clause-shape : goal.returns-in-Committed-clause-shape
returns-in-Committed-clause-shape c =
    entered_shape c.args.every (serial.Committed c.in-Committed.number) c.args.book.now c.serial_lent-how.new.self c.keep_short.new.self c.args.task c.in-Committed.ensures.served.3 c.keep_short.ensures.kept_short
