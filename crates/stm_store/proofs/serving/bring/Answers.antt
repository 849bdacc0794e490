use Rattle.book.specs.declared.task.Serial.TheVariants as serial
use Rattle.stm_store.proofs.Entries.{entered_new, enters}
use Rattle.stm_store.proofs.Shapes.{entered_shape}
use Rattle.stm_store.proofs.serving.bring.Goals as goal

pub entered-told-requires-clause-entered : goal.entered-told-requires-clause-entered
entered-told-requires-clause-entered c = entered_new c.args.book.now c.finish_lent-how.new.self c.args.task c.in-Committed.ensures.finished.4

pub returns-in-Committed-clause-judged : goal.returns-in-Committed-clause-judged
returns-in-Committed-clause-judged c =
    let h = c.in-Committed.ensures.finished in
    (h.1, enters c.args.every c.args.book.now c.finish_lent-how.new.self c.keep_short.new.self c.args.task c.in-Committed.number c.entered-told.result h.0 h.3 h.4 c.entered-told.ensures.number c.entered-told.ensures.outcome c.law.ensures.lawful c.law-2.ensures.lawful c.keep_short.ensures.kept_short)

pub returns-in-Committed-clause-shape : goal.returns-in-Committed-clause-shape
returns-in-Committed-clause-shape c =
    entered_shape c.args.every (serial.Committed c.in-Committed.number) c.args.book.now c.finish_lent-how.new.self c.keep_short.new.self c.args.task c.in-Committed.ensures.finished.4 c.keep_short.ensures.kept_short
