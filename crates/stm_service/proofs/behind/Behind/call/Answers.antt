use Rattle.std.proofs.Common.{◌≡◌, ◌∙◌, Ok, sym, subst}
use Rattle.stm_desk.specs.declared.answers.Asked.{Asked}
use Rattle.stm_desk.specs.Answering.{IsAsked, history_of}
use Rattle.stm_desk.specs.History.{Begins, History}
use Rattle.stm_service.specs.Telling.{HasNoEntry}
use Rattle.stm_service.proofs.Asking.{ended_begun, next_is_new, passed_begun, refused_behind, waiting_begun}
use Rattle.stm_service.proofs.Joining.{begins_on}
use Rattle.stm_service.proofs.behind.Behind.call.Goals as goal

pub wait-requires-clause-is_new : goal.wait-requires-clause-is_new
wait-requires-clause-is_new g c κs within =
    let s = c.args.self.now in
    let begins : Begins c.args.front.now (history_of s.desk) = subst (Begins c.args.front.now) s.shown c.if-not-covers.ensures in
    next_is_new s.desk c.args.front.now c.in-Ok-Waits.ticket begins (subst (λ (x : Asked). IsAsked s.desk c.args.call.now c.args.way 0 (Ok x) c.ask.new.self.desk) c.in-Ok-Waits.field-0-is c.in-Ok-Waits.ensures.asked).2.ticket_is

pub returns-in-Ok-Ended-clause-begun : goal.returns-in-Ok-Ended-clause-begun
returns-in-Ok-Ended-clause-begun g c =
    let s = c.args.self.now in
    let begins : Begins c.args.front.now (history_of s.desk) = subst (Begins c.args.front.now) s.shown c.if-not-covers.ensures in
    ended_begun s.desk c.ask.new.self.desk c.args.front.now c.again.result c.args.call.now c.in-Ok-Ended.answer begins (c.again.ensures ∙ c.ask.new.self.shown) (subst (λ (x : Asked). IsAsked s.desk c.args.call.now c.args.way 0 (Ok x) c.ask.new.self.desk) c.in-Ok-Ended.field-0-is c.in-Ok-Ended.ensures.asked).1

pub returns-in-Err-clause-begun : goal.returns-in-Err-clause-begun
returns-in-Err-clause-begun g c =
    let s = c.args.self.now in
    let l = g.N.Naming.catalogue in
    let m = g.N.Naming.first in
    let before = c.args.front.now in
    let call = c.args.call.now in
    let begins : Begins before (history_of s.desk) = subst (Begins before) s.shown c.if-not-covers.ensures in
    let new = c.ask.new.self in
    let now : history_of new.desk ≡ c.again-in-Err.result = sym (c.again-in-Err.ensures ∙ new.shown) in (
      subst (Begins before) (sym c.again-in-Err.ensures) (begins_on before s.front new.front c.if-not-covers.ensures c.ask.ensures.grows),
      subst (λ (h : History). ∥ HasNoEntry l m before call c.args.way c.in-Err.why h ∥₁) now
          (refused_behind l m s.desk new.desk before call c.args.way c.in-Err.why s.named s.placed s.desk.work.store.declared begins c.in-Err.ensures.asked),
    )

-- where the chapter was full
pub pass_on-requires-clause-covers : goal.pass_on-requires-clause-covers
pass_on-requires-clause-covers g c κs within =
    begins_on c.args.front.now c.args.self.now.front c.ask.new.self.front c.if-not-covers.ensures c.ask.ensures.grows

pub returns-in-Ok-ChapterFull-clause-begun : goal.returns-in-Ok-ChapterFull-clause-begun
returns-in-Ok-ChapterFull-clause-begun g c =
    passed_begun g.N.Naming.catalogue g.N.Naming.first c.args.front.now c.pass_on.new.front c.args.call.now c.args.way c.pass_on.result c.pass_on.ensures.passed

pub returns-in-Ok-ChapterFull-clause-full : goal.returns-in-Ok-ChapterFull-clause-full
returns-in-Ok-ChapterFull-clause-full g c dropped is room = absurd (c.pass_on.ensures.room (c.ask.ensures.kept ∙ dropped) is)

-- whoever called waits, for a short call or a long one
pub wait-requires-in-Ok-Runs-clause-is_new : goal.wait-requires-in-Ok-Runs-clause-is_new
wait-requires-in-Ok-Runs-clause-is_new g c κs within =
    let s = c.args.self.now in
    let begins : Begins c.args.front.now (history_of s.desk) = subst (Begins c.args.front.now) s.shown c.if-not-covers.ensures in
    next_is_new s.desk c.args.front.now c.in-Ok-Runs.job.ticket begins (subst (λ (x : Asked). IsAsked s.desk c.args.call.now c.args.way 0 (Ok x) c.ask.new.self.desk) c.in-Ok-Runs.field-0-is c.in-Ok-Runs.ensures.asked).3.ticket

pub returns-in-Ok-Waits-clause-begun : goal.returns-in-Ok-Waits-clause-begun
returns-in-Ok-Waits-clause-begun g c =
    let s = c.args.self.now in
    let asked = subst (λ (x : Asked). IsAsked s.desk c.args.call.now c.args.way 0 (Ok x) c.ask.new.self.desk) c.in-Ok-Waits.field-0-is c.in-Ok-Waits.ensures.asked in
    waiting_begun g.N.Naming.catalogue g.N.Naming.first c.args.front.now c.wait.new.front c.args.call.now c.args.way c.wait.result asked.1 c.wait.ensures

pub returns-in-Ok-Runs-clause-begun : goal.returns-in-Ok-Runs-clause-begun
returns-in-Ok-Runs-clause-begun g c =
    let s = c.args.self.now in
    let asked = subst (λ (x : Asked). IsAsked s.desk c.args.call.now c.args.way 0 (Ok x) c.ask.new.self.desk) c.in-Ok-Runs.field-0-is c.in-Ok-Runs.ensures.asked in
    waiting_begun g.N.Naming.catalogue g.N.Naming.first c.args.front.now c.wait-in-Ok-Runs.new.front c.args.call.now c.args.way c.wait-in-Ok-Runs.result asked.1 c.wait-in-Ok-Runs.ensures
