use Rattle.std.proofs.Common.{◌∙◌, sym, subst}
use Rattle.std.proofs.Math.Logic.{∥∥₁_map}
use Rattle.stm_desk.specs.Answering.{history_of}
use Rattle.stm_desk.specs.History.{Begins, History}
use Rattle.stm_service.proofs.Asking.{legal_on}
use Rattle.stm_service.proofs.Joining.{begins_itself}
use Rattle.stm_service.proofs.Keeping.{StartsAt, carries_ended, ended_now, grows_on, is_chapter, is_chapter_of, none_lies_ended, none_lies_on, not_ended, starts_as, starts_next}
use Rattle.stm_service.proofs.Waiting.{awaited_on}
use Rattle.stm_service.proofs.behind.Behind.end_chapter.Goals as goal

pub add-requires-clause-legal : goal.add-requires-clause-legal
add-requires-clause-legal g c κs within =
    let s = c.args.self.now in
    legal_on g.N.Naming.catalogue g.N.Naming.first s.desk c.end_chapter.new.self c.end_chapter.ensures.first s.named s.placed

pub invariant_of-told : goal.invariant_of-told
invariant_of-told g c =
    let s = c.args.self.now in
    let new = c.end_chapter.new.self in
    let l = g.N.Naming.catalogue in
    let m = g.N.Naming.first in
    let h = ended_now s.desk.work new.work c.in-Ok.ended s.none_lies c.in-Ok.ensures.ended in
    let more : Begins s.front (history_of new) = subst (λ (x : History). Begins x (history_of new)) (sym s.shown) c.end_chapter.ensures.history in
    let is = is_chapter l m s.began s.desk.work new.work c.in-Ok.ended s.named s.placed h (s.starts c.requires) (grows_on s.began s.front (history_of new) more s.grows) in
    record { told = is_chapter_of l m s.began (history_of new) c.replace-began.result c.again-until.result c.in-Ok.ended c.replace-began.ensures.value (c.again-until.ensures ∙ c.add.ensures) is }

pub invariant_of-self-clause-kept : goal.invariant_of-self-clause-kept
invariant_of-self-clause-kept g c dropped = absurd (cc (dropped, c.requires))

pub invariant_of-self-clause-none_lies : goal.invariant_of-self-clause-none_lies
invariant_of-self-clause-none_lies g c =
    let s = c.args.self.now in
    none_lies_ended s.desk.work c.end_chapter.new.self.work c.in-Ok.ended c.in-Ok.ensures.ended

pub invariant_of-self-clause-starts : goal.invariant_of-self-clause-starts
invariant_of-self-clause-starts g c kept =
    let s = c.args.self.now in
    let new = c.end_chapter.new.self in
    let l = g.N.Naming.catalogue in
    let m = g.N.Naming.first in
    let h = ended_now s.desk.work new.work c.in-Ok.ended s.none_lies c.in-Ok.ensures.ended in
    subst (λ (x : History). ∥ StartsAt l m new.work.store x ∥₁) (sym (c.replace-began.ensures.after ∙ (c.again-next.ensures ∙ c.add.ensures))) (starts_next l m s.desk.work new.work c.in-Ok.ended s.named s.placed h)

pub invariant_of-self-clause-grows : goal.invariant_of-self-clause-grows
invariant_of-self-clause-grows g c =
    ∣ subst (λ (x : History). Begins x c.add.new.self) (sym (c.replace-began.ensures.after ∙ c.again-next.ensures)) (begins_itself c.add.new.self) ∣₁

pub invariant_of-self-clause-seated : goal.invariant_of-self-clause-seated
invariant_of-self-clause-seated g c t seat at =
    let s = c.args.self.now in
    let new = c.end_chapter.new.self in
    let h = ended_now s.desk.work new.work c.in-Ok.ended s.none_lies c.in-Ok.ensures.ended in
    let old = s.seated t seat at in
    (old.0, λ none. ∥∥₁_map (old.1 none) (awaited_on s.desk.work.waiters new.work.waiters t seat.call (carries_ended s.desk.work new.work c.in-Ok.ended h)))

-- where none ended
pub add-requires-in-Err-clause-legal : goal.add-requires-in-Err-clause-legal
add-requires-in-Err-clause-legal g c κs within =
    let s = c.args.self.now in
    legal_on g.N.Naming.catalogue g.N.Naming.first s.desk c.end_chapter.new.self c.end_chapter.ensures.first s.named s.placed

pub invariant_of-self-in-Err-clause-kept : goal.invariant_of-self-in-Err-clause-kept
invariant_of-self-in-Err-clause-kept g c dropped = absurd (cc (dropped, c.requires))

pub invariant_of-self-in-Err-clause-none_lies : goal.invariant_of-self-in-Err-clause-none_lies
invariant_of-self-in-Err-clause-none_lies g c =
    let s = c.args.self.now in
    let is = not_ended s.desk.work c.end_chapter.new.self.work c.in-Err.why c.in-Err.ensures.ended in
    none_lies_on s.desk.work c.end_chapter.new.self.work is.last s.none_lies

pub invariant_of-self-in-Err-clause-starts : goal.invariant_of-self-in-Err-clause-starts
invariant_of-self-in-Err-clause-starts g c kept =
    let s = c.args.self.now in
    let is = not_ended s.desk.work c.end_chapter.new.self.work c.in-Err.why c.in-Err.ensures.ended in
    starts_as g.N.Naming.catalogue g.N.Naming.first s.began s.desk.work.store c.end_chapter.new.self.work.store is.listing (s.starts kept)

pub invariant_of-self-in-Err-clause-grows : goal.invariant_of-self-in-Err-clause-grows
invariant_of-self-in-Err-clause-grows g c =
    let s = c.args.self.now in
    let now = c.add-in-Err.new.self in
    let more : Begins s.front now = subst (λ (h : History). Begins s.front h) (sym c.add-in-Err.ensures) (subst (λ (h : History). Begins h (history_of c.end_chapter.new.self)) (sym s.shown) c.end_chapter.ensures.history) in
    grows_on s.began s.front now more s.grows

pub invariant_of-self-in-Err-clause-seated : goal.invariant_of-self-in-Err-clause-seated
invariant_of-self-in-Err-clause-seated g c t seat at =
    let s = c.args.self.now in
    let new = c.end_chapter.new.self in
    let is = not_ended s.desk.work new.work c.in-Err.why c.in-Err.ensures.ended in
    let old = s.seated t seat at in
    (old.0, λ none. ∥∥₁_map (old.1 none) (awaited_on s.desk.work.waiters new.work.waiters t seat.call is.carries))
