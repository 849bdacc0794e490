use Rattle.std.proofs.Common.{length, ◌≡◌, ◌∙◌, ◌++◌, ◌∷◌, [], inl, inr, ap, sym}
use Rattle.std.specs.BTreeMap.{get}
use Rattle.std.specs.Ordering.{nat_cmp}
use Rattle.std.proofs.lemmas.Bool.{cases_eq}
use Rattle.std.proofs.Math.Logic.{∥∥₁_map}
use Rattle.stm_desk.specs.declared.answers.Became.TheVariants as became
use Rattle.stm_desk.specs.declared.work.Work.{Work}
use Rattle.stm_desk.specs.History.{History}
use Rattle.stm_service.proofs.Histories.{last_is}
use Rattle.stm_service.proofs.Asking.{legal_on}
use Rattle.stm_service.proofs.Waiting.{awaited_but, awaited_on, carries_equal, left_same_not, nothing_there}
use Rattle.stm_service.proofs.Chapters.{kept_on}
use Rattle.stm_service.proofs.Keeping.{grows_on, none_lies_on, starts_as}
use Rattle.stm_service.proofs.behind.Behind.leave.Goals as goal

pub add-requires-clause-legal : goal.add-requires-clause-legal
add-requires-clause-legal g c κs within =
    let s = c.args.self.now in
    legal_on g.N.Naming.catalogue g.N.Naming.first s.desk c.leave.new.self c.leave.ensures.first s.named s.placed

pub invariant_of-self-clause-seated : goal.invariant_of-self-clause-seated
invariant_of-self-clause-seated g c t seat at =
    let s = c.args.self.now in
    let same : c.leave.new.self.work ≡ s.desk.work = left_same_not s.desk.work c.leave.new.self.work c.args.ticket c.leave.result c.in_default.not-Ok c.leave.ensures.left in
    let old = s.seated t seat at in
    (old.0, λ none. ∥∥₁_map (old.1 none) (awaited_on s.desk.work.waiters c.leave.new.self.work.waiters t seat.call (carries_equal s.desk.work.waiters c.leave.new.self.work.waiters (ap (λ (w : Work). w.waiters) same))))

pub invariant_of-self-clause-shown : goal.invariant_of-self-clause-shown
invariant_of-self-clause-shown g c =
    let s = c.args.self.now in
    let same : c.leave.new.self.work ≡ s.desk.work = left_same_not s.desk.work c.leave.new.self.work c.args.ticket c.leave.result c.in_default.not-Ok c.leave.ensures.left in
    s.shown ∙ sym (ap (λ (w : Work). w.history.items) same)

pub invariant_of-self-2-clause-seated : goal.invariant_of-self-2-clause-seated
invariant_of-self-2-clause-seated g c t seat at =
    let s = c.args.self.now in
    let left = c.in-Ok.ensures.left.1 in
    elim (cases_eq t c.args.ticket.0) [
      | inl same ↦ absurd (nothing_there (get nat_cmp c.remove.new.seats t) seat (ap (get nat_cmp c.remove.new.seats) same ∙ c.remove.ensures.gone) at)
      | inr apart ↦
          let old = s.seated t seat (sym (c.remove.ensures.others t apart) ∙ at) in
          (old.0, λ none. ∥∥₁_map (old.1 none) (awaited_but s.desk.work.waiters c.leave.new.self.work.waiters c.args.ticket t seat.call apart left.others left.told))
    ]

pub returns-clause-left : goal.returns-clause-left
returns-clause-left g c =
    let s = c.args.self.now in
    c.add.ensures ∙ (c.in-Ok.ensures.left.1.history ∙ ap (λ (x : History). x ++ (c.args.ticket, became.Left) ∷ []) (sym s.shown))

pub returns-clause-is_left : goal.returns-clause-is_left
returns-clause-is_left g c =
    let s = c.args.self.now in
    let is = c.add.ensures ∙ (c.in-Ok.ensures.left.1.history ∙ ap (λ (x : History). x ++ (c.args.ticket, became.Left) ∷ []) (sym s.shown)) in
    record { place = length s.front; at_place = last_is s.front c.add.new.self c.args.ticket became.Left is }

pub invariant_of-self-clause-kept : goal.invariant_of-self-clause-kept
invariant_of-self-clause-kept g c dropped =
    let s = c.args.self.now in
    kept_on s.desk.work c.leave.new.self.work c.leave.ensures.last (s.kept dropped)

pub invariant_of-self-2-clause-kept : goal.invariant_of-self-2-clause-kept
invariant_of-self-2-clause-kept g c dropped =
    let s = c.args.self.now in
    kept_on s.desk.work c.leave.new.self.work c.leave.ensures.last (s.kept dropped)

pub invariant_of-self-clause-none_lies : goal.invariant_of-self-clause-none_lies
invariant_of-self-clause-none_lies g c =
    let s = c.args.self.now in
    none_lies_on s.desk.work c.leave.new.self.work c.leave.ensures.last s.none_lies

pub invariant_of-self-2-clause-none_lies : goal.invariant_of-self-2-clause-none_lies
invariant_of-self-2-clause-none_lies g c =
    let s = c.args.self.now in
    none_lies_on s.desk.work c.leave.new.self.work c.leave.ensures.last s.none_lies

pub invariant_of-self-clause-starts : goal.invariant_of-self-clause-starts
invariant_of-self-clause-starts g c kept =
    let s = c.args.self.now in
    starts_as g.N.Naming.catalogue g.N.Naming.first s.began s.desk.work.store c.leave.new.self.work.store c.leave.ensures.kept.listing (s.starts kept)

pub invariant_of-self-2-clause-starts : goal.invariant_of-self-2-clause-starts
invariant_of-self-2-clause-starts g c kept =
    let s = c.args.self.now in
    starts_as g.N.Naming.catalogue g.N.Naming.first s.began s.desk.work.store c.leave.new.self.work.store c.leave.ensures.kept.listing (s.starts kept)

pub invariant_of-self-2-clause-grows : goal.invariant_of-self-2-clause-grows
invariant_of-self-2-clause-grows g c =
    let s = c.args.self.now in
    let left = (c.args.ticket, became.Left) ∷ [] in
    let is : c.add.new.self ≡ s.front ++ left = c.add.ensures ∙ (c.in-Ok.ensures.left.1.history ∙ ap (λ (x : History). x ++ left) (sym s.shown)) in
    grows_on s.began s.front c.add.new.self (left, is) s.grows
