use Rattle.std.proofs.Common.{sym, subst}
use Rattle.std.proofs.Math.Logic.{∥∥₁_map}
use Rattle.stm_desk.specs.Answering.{history_of}
use Rattle.stm_desk.specs.History.{Begins, History}
use Rattle.stm_service.proofs.Asking.{legal_on}
use Rattle.stm_service.proofs.Chapters.{begins_always, carries_begun, kept_on}
use Rattle.stm_service.proofs.Keeping.{grows_on, none_lies_on}
use Rattle.stm_service.proofs.Waiting.{awaited_on}
use Rattle.stm_service.proofs.behind.Behind.begin_chapter.Goals as goal

pub add-requires-clause-legal : goal.add-requires-clause-legal
add-requires-clause-legal g c κs within =
    let s = c.args.self.now in
    legal_on g.N.Naming.catalogue g.N.Naming.first s.desk c.begin_chapter.new.self c.begin_chapter.ensures.first s.named s.placed

pub invariant_of-self-clause-kept : goal.invariant_of-self-clause-kept
invariant_of-self-clause-kept g c dropped =
    let s = c.args.self.now in
    kept_on s.desk.work c.begin_chapter.new.self.work c.begin_chapter.ensures.last (s.kept dropped)

pub invariant_of-self-clause-none_lies : goal.invariant_of-self-clause-none_lies
invariant_of-self-clause-none_lies g c =
    let s = c.args.self.now in
    none_lies_on s.desk.work c.begin_chapter.new.self.work c.begin_chapter.ensures.last s.none_lies

pub invariant_of-self-clause-starts : goal.invariant_of-self-clause-starts
invariant_of-self-clause-starts g c kept = absurd (cc (kept, c.requires))

pub invariant_of-self-clause-grows : goal.invariant_of-self-clause-grows
invariant_of-self-clause-grows g c =
    let s = c.args.self.now in
    let more : Begins s.front c.add.new.self = subst (λ (h : History). Begins s.front h) (sym c.add.ensures) (subst (λ (h : History). Begins h (history_of c.begin_chapter.new.self)) (sym s.shown) c.begin_chapter.ensures.history) in
    grows_on s.began s.front c.add.new.self more s.grows

-- none lies with the desk, so it can always begin
pub unreachable-requires : goal.unreachable-requires
unreachable-requires g c =
    let s = c.args.self.now in
    begins_always s.desk.work c.begin_chapter.new.self.work c.in-Err.field-0 (s.kept c.requires) c.in-Err.ensures.begun

pub invariant_of-self-clause-seated : goal.invariant_of-self-clause-seated
invariant_of-self-clause-seated g c t seat at =
    let s = c.args.self.now in
    let new = c.begin_chapter.new.self in
    let old = s.seated t seat at in
    (old.0, λ none. ∥∥₁_map (old.1 none) (awaited_on s.desk.work.waiters new.work.waiters t seat.call (carries_begun s.desk.work new.work tt c.in-Ok.ensures.begun)))
