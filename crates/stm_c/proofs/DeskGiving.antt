-- A chapter that ended goes to its host, and back.
use Rattle.std.proofs.Common.{◌≡◌, ◌∙◌, ℤ, pos, inl, inr, Option, Some, None, Result, Ok, Err, refl, sym, ap, subst}
use Rattle.stm_store.specs.declared.answers.Refused.{Refused}
use Rattle.stm_desk.specs.declared.desk.Desk.{Desk}
use Rattle.stm_desk.specs.declared.ended.Ended.{Ended}
use Rattle.stm_desk.specs.declared.ended.Last.{Last}
use Rattle.stm_desk.specs.declared.work.Work.{Work}
use Rattle.stm_desk.specs.Ending.{EndsChapter, TakesBack}
use Rattle.stm_desk.specs.History.{Begins, History}
use Rattle.stm_c.specs.DeskChapters.{EndsFor, GivesBack, IsHandedOver, IsNotGiven}

-- all but what became of the chapter that ended last is as it was
record KeepsAll (old new : Work) : Type 0 where
  pub history : new.history.items ≡ old.history.items
  pub first : new.first.value ≡ old.first.value
  pub closed : new.closed ≡ old.closed

same_all : (old new : Work) → new ≡ old → KeepsAll old new
same_all old new e = record { history = ap (λ (w : Work). w.history.items) e; first = ap (λ (w : Work). w.first.value) e; closed = ap (λ (w : Work). w.closed) e }

handed_keeps : (r : Result Ended Refused) (mid : Work) (answer : ℤ) (handle : Option Ended) (new : Work) → IsHandedOver r mid answer handle new → KeepsAll mid new
handed_keeps (Err why) mid answer handle new h = same_all mid new h.2
handed_keeps (Ok e) mid answer handle new h = elim h [
  | inl p ↦ same_all mid new p.2
  | inr p ↦
      let is = p.2.1 in
      record { history = ap (λ (w : Work). w.history.items) is; first = ap (λ (w : Work). w.first.value) is; closed = ap (λ (w : Work). w.closed) is }
]

pub ends_for : (old mid new : Desk) (out : Option Ended) (answer : ℤ) (handle : Option Ended) (r : Result Ended Refused) → out ≡ None → EndsChapter old.work r mid.work → Begins old.work.history.items mid.work.history.items → mid.work.first.value ≡ old.work.first.value → mid.work.closed ≡ old.work.closed → IsHandedOver r mid.work answer handle new.work → EndsFor old out answer handle new
ends_for old mid new out answer handle r empty ended history first closed handed =
    let k = handed_keeps r mid.work answer handle new.work handed in
    record {
      full = λ filled. absurd (filled empty);
      ends = λ _. record {
        how = r;
        mid = mid.work;
        ended = ended;
        handed = handed;
        history = subst (λ (h : History). Begins old.work.history.items h) (sym k.history) history;
        first = k.first ∙ first;
        closed = k.closed ∙ closed;
      };
    }

pub not_given : (d : Desk) (o handle : Option Ended) (how : Ended → Last) (why : ℤ) → IsNotGiven d o why → handle ≡ o → GivesBack d o how why handle d
not_given d None handle how why is same = (is, same, refl)
not_given d (Some e) handle how why is same = (Err e, (is.0, refl, refl), (is.1, same))

pub given_back : (old new : Desk) (o handle : Option Ended) (how : Ended → Last) (e : Ended) → o ≡ Some e → handle ≡ None → TakesBack old.work e (how e) (Ok tt) new.work → GivesBack old o how (pos 0) handle new
given_back old new o handle how e is empty takes =
    subst (λ (x : Option Ended). GivesBack old x how (pos 0) handle new) (sym is) (Ok tt, takes, (refl, empty))
