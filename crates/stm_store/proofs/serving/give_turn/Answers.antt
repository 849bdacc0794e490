use Rattle.std.proofs.Common.{◌∙◌, refl, sym, ap, subst}
use Rattle.book.specs.View.{BookView, IsRunning}
use Rattle.book.specs.declared.task.Serial.TheVariants as serial
use Rattle.stm_store.specs.Shapes.{IsSameShape}
use Rattle.stm_store.specs.Turning.{Ends}
use Rattle.stm_store.proofs.Entries.{enters_told}
use Rattle.stm_store.proofs.Shapes.{entered_shape}
use Rattle.stm_store.proofs.serving.give_turn.Goals as goal

pub give_turn_by_attempt-requires : goal.give_turn_by_attempt-requires
give_turn_by_attempt-requires c = record { running = subst (λ (b : BookView). IsRunning b c.args.task) (sym c.in_default.ensures.unchanged) c.requires.running }

pub returns-in_default-clause-ends : goal.returns-in_default-clause-ends
returns-in_default-clause-ends c =
    subst (λ (b : BookView). Ends c.args.every b c.args.task c.give_turn_by_attempt.result c.give_turn_by_attempt.new.book) c.in_default.ensures.unchanged c.give_turn_by_attempt.ensures.ends

pub returns-in_default-clause-listing : goal.returns-in_default-clause-listing
returns-in_default-clause-listing c = c.give_turn_by_attempt.ensures.listing ∙ ap (λ (b : BookView). b.catalogue) c.in_default.ensures.unchanged

pub returns-in_default-clause-shape : goal.returns-in_default-clause-shape
returns-in_default-clause-shape c =
    subst (λ (b : BookView). IsSameShape b c.give_turn_by_attempt.new.book) c.in_default.ensures.unchanged c.give_turn_by_attempt.ensures.shape

pub returns-clause-ends : goal.returns-clause-ends
returns-clause-ends c =
    let h = c.in-Ok.ensures.committed in
    enters_told c.args.every c.args.book.now c.turn_plainly.new.self c.keep_short.new.self c.args.task c.in-Ok.number (record { number = c.in-Ok.number; outcome = c.in-Ok.outcome }) h.served.0 h.served.2 h.served.3 refl h.outcome_is c.law.ensures.lawful c.law-2.ensures.lawful c.keep_short.ensures.kept_short

pub returns-clause-shape : goal.returns-clause-shape
returns-clause-shape c =
    entered_shape c.args.every (serial.Committed c.in-Ok.number) c.args.book.now c.turn_plainly.new.self c.keep_short.new.self c.args.task c.in-Ok.ensures.committed.served.3 c.keep_short.ensures.kept_short
