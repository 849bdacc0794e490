use Rattle.book.specs.declared.task.Serial.TheVariants as serial
use Rattle.stm_store.proofs.Entries.{entered_new, enters}
use Rattle.stm_store.proofs.Shapes.{entered_shape}
use Rattle.stm_store.proofs.serving.enter.Goals as goal

pub entered-told-requires-clause-entered : goal.entered-told-requires-clause-entered
entered-told-requires-clause-entered c = entered_new c.args.book.now c.finish_lent-how.new.self c.args.task c.in-Committed.ensures.finished.4

pub returns-clause-entered : goal.returns-clause-entered
returns-clause-entered c =
    let h = c.in-Committed.ensures.finished in
    enters c.args.every c.args.book.now c.finish_lent-how.new.self c.keep_short.new.self c.args.task c.in-Committed.number c.entered-told.result h.0 h.3 h.4 c.entered-told.ensures.number c.entered-told.ensures.outcome c.law.ensures.lawful c.law-2.ensures.lawful c.keep_short.ensures.kept_short

pub returns-clause-shape : goal.returns-clause-shape
returns-clause-shape c =
    entered_shape c.args.every (serial.Committed c.in-Committed.number) c.args.book.now c.finish_lent-how.new.self c.keep_short.new.self c.args.task c.in-Committed.ensures.finished.4 c.keep_short.ensures.kept_short
