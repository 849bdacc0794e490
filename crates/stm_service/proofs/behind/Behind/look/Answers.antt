use Rattle.std.proofs.Common.{◌∙◌, inl, inr, ap, sym}
use Rattle.std.specs.BTreeMap.{get}
use Rattle.std.specs.Ordering.{nat_cmp}
use Rattle.std.proofs.lemmas.Bool.{cases_eq}
use Rattle.stm_service.proofs.Waiting.{nothing_there}
use Rattle.stm_service.proofs.behind.Behind.look.Goals as goal

pub invariant_of-self-clause-seated : goal.invariant_of-self-clause-seated
invariant_of-self-clause-seated g c t seat at =
    let s = c.args.self.now in
    elim (cases_eq t c.args.awaited.now.ticket.0) [
      | inl same ↦ absurd (nothing_there (get nat_cmp c.remove.new.seats t) seat (ap (get nat_cmp c.remove.new.seats) same ∙ c.remove.ensures.gone) at)
      | inr apart ↦ s.seated t seat (sym (c.remove.ensures.others t apart) ∙ at)
    ]
