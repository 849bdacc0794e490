use Rattle.std.proofs.Common.{◌≡◌, ◌∙◌, ℕ, inl, inr, ap, sym, subst}
use Rattle.std.specs.BTreeMap.{get}
use Rattle.std.specs.List.{slice_get}
use Rattle.std.specs.Ordering.{nat_cmp}
use Rattle.std.proofs.lemmas.Bool.{cases_eq}
use Rattle.std.proofs.Math.Logic.{∥∥₁_map}
use Rattle.stm_store.specs.declared.store.Store.{Store}
use Rattle.stm_desk.specs.History.{History}
use Rattle.stm_service.specs.Telling.{IsTold}
use Rattle.stm_service.proofs.Waiting.{awaited_on, awaited_rest, carries_none, next_told}
use Rattle.stm_service.proofs.Chapters.{kept_on}
use Rattle.stm_service.proofs.Keeping.{none_lies_on, starts_as}
use Rattle.stm_service.proofs.behind.Behind.hand_one.Goals as goal

pub invariant_of-self-clause-seated : goal.invariant_of-self-clause-seated
invariant_of-self-clause-seated g c t seat at =
    let s = c.args.self.now in
    let w = s.desk.work.waiters in
    let v = c.told.new.self.work.waiters in
    let old = s.seated t seat at in
    (old.0, λ none. ∥∥₁_map (old.1 none) (awaited_on w v t seat.call (carries_none c.told.result w v c.in_default.is c.told.ensures.told (λ (n : ℕ). ap (λ m. get nat_cmp m n) c.told.ensures.waits))))

pub tell-requires-after_bounds : goal.tell-requires-after_bounds
tell-requires-after_bounds g c κs within x at =
    let s = c.args.self.now in
    let told = c.in-Some.told in
    let old = s.seated told.ticket.0 x at in
    let front : s.desk.work.history.items ≡ c.again.result = sym (c.again.ensures ∙ s.shown) in (
      old.0,
      λ none. subst (λ (h : History). ∥ IsTold h told.ticket x.call told.answer ∥₁) front
          (next_told s.desk told x.call (ap (λ xs. slice_get xs 0) c.in-Some.ensures.told) (old.1 none)),
    )

pub invariant_of-self-2-clause-seated : goal.invariant_of-self-2-clause-seated
invariant_of-self-2-clause-seated g c t seat at =
    let s = c.args.self.now in
    let w = s.desk.work.waiters in
    let v = c.told.new.self.work.waiters in
    let told = c.in-Some.told in
    elim (cases_eq t told.ticket.0) [
      | inl same ↦
          let here = c.tell.ensures.here seat (ap (get nat_cmp c.tell.new.seats) (sym same) ∙ at) in
          (here.0 ∙ sym same, λ none. absurd (here.1 none))
      | inr apart ↦
          let old = s.seated t seat (sym (c.tell.ensures.others t apart) ∙ at) in
          (old.0, λ none. ∥∥₁_map (old.1 none) (awaited_rest w v told t seat.call apart c.in-Some.ensures.told (λ (n : ℕ). ap (λ m. get nat_cmp m n) c.told.ensures.waits)))
    ]

pub invariant_of-self-clause-kept : goal.invariant_of-self-clause-kept
invariant_of-self-clause-kept g c dropped =
    let s = c.args.self.now in
    kept_on s.desk.work c.told.new.self.work c.told.ensures.last (s.kept dropped)

pub invariant_of-self-2-clause-kept : goal.invariant_of-self-2-clause-kept
invariant_of-self-2-clause-kept g c dropped =
    let s = c.args.self.now in
    kept_on s.desk.work c.told.new.self.work c.told.ensures.last (s.kept dropped)

pub invariant_of-self-clause-none_lies : goal.invariant_of-self-clause-none_lies
invariant_of-self-clause-none_lies g c =
    let s = c.args.self.now in
    none_lies_on s.desk.work c.told.new.self.work c.told.ensures.last s.none_lies

pub invariant_of-self-clause-starts : goal.invariant_of-self-clause-starts
invariant_of-self-clause-starts g c kept =
    let s = c.args.self.now in
    starts_as g.N.Naming.catalogue g.N.Naming.first s.began s.desk.work.store c.told.new.self.work.store (ap (λ (x : Store). x.book.catalogue) c.told.ensures.store) (s.starts kept)

pub invariant_of-self-2-clause-none_lies : goal.invariant_of-self-2-clause-none_lies
invariant_of-self-2-clause-none_lies g c =
    let s = c.args.self.now in
    none_lies_on s.desk.work c.told.new.self.work c.told.ensures.last s.none_lies

pub invariant_of-self-2-clause-starts : goal.invariant_of-self-2-clause-starts
invariant_of-self-2-clause-starts g c kept =
    let s = c.args.self.now in
    starts_as g.N.Naming.catalogue g.N.Naming.first s.began s.desk.work.store c.told.new.self.work.store (ap (λ (x : Store). x.book.catalogue) c.told.ensures.store) (s.starts kept)
