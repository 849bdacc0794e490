-- Chapters that end, where their host keeps them.
use Rattle.std.proofs.Common.{◌≡◌, ◌∙◌, inl, inr, Result, Ok, Err, ap, sym, subst}
use Rattle.std.proofs.Math.Logic.{∥∥₁_map, ∥∥₁_map₂}
use Rattle.txn_programs.specs.Meaning.{State}
use Rattle.txn_programs.specs.Listing.{Listing}
use Rattle.book.specs.View.{BookView}
use Rattle.stm_store.specs.Working.{declaring, next_number}
use Rattle.stm_store.specs.declared.answers.Refused.{Refused}
use Rattle.stm_store.specs.declared.answers.Refused.TheVariants as refused
use Rattle.stm_store.specs.declared.store.Store.{Store}
use Rattle.stm_desk.specs.declared.ended.Ended.{Ended}
use Rattle.stm_desk.specs.declared.ended.Last.{Last}
use Rattle.stm_desk.specs.declared.work.Work.{Work}
use Rattle.stm_desk.specs.Asking.{StaysInChapter}
use Rattle.stm_desk.specs.Ending.{EndsChapter, EndsNow, IsNotKept, Settled, TakesBack}
use Rattle.stm_desk.specs.History.{Begins, History, led}
use Rattle.stm_desk.specs.Keeping.{Accounts}
use Rattle.stm_service.specs.Keeping.{Follows, IsChapter}
use Rattle.stm_service.proofs.Joining.{begins_on}
use Rattle.stm_service.proofs.Waiting.{Carries, carries_equal, carries_hands_on}

-- none lies with the desk that was not kept, whatever was called on it
pub none_lies_on : (old new : Work) → new.last ≡ old.last → (IsNotKept old.last → ⊥) → IsNotKept new.last → ⊥
none_lies_on old new same none lies = none (subst IsNotKept same lies)

-- with which values the present chapter began
abbrev pub StartsAt : Listing → State → Store → History → Type 0
StartsAt l m s began = s.book.catalogue.initial ≡ led l m began

pub starts_on : (l : Listing) (m : State) (began : History) (old new : Store) → StaysInChapter old new → ∥ StartsAt l m old began ∥₁ → ∥ StartsAt l m new began ∥₁
starts_on l m began old new within starts = ∥∥₁_map starts (λ (is : StartsAt l m old began). ap (λ (k : Listing). k.initial) within.1 ∙ is)

pub starts_as : (l : Listing) (m : State) (began : History) (old new : Store) → new.book.catalogue ≡ old.book.catalogue → ∥ StartsAt l m old began ∥₁ → ∥ StartsAt l m new began ∥₁
starts_as l m began old new same starts = ∥∥₁_map starts (λ (is : StartsAt l m old began). ap (λ (k : Listing). k.initial) same ∙ is)

pub grows_on : (began h longer : History) → Begins h longer → ∥ Begins began h ∥₁ → ∥ Begins began longer ∥₁
grows_on began h longer more grows = ∥∥₁_map grows (λ (b : Begins began h). begins_on began h longer b more)

-- a chapter that ended is the present one, once what ran has had its turn
pub ended_now : (old new : Work) (e : Ended) → (IsNotKept old.last → ⊥) → EndsChapter old (Ok e) new → (mid : Work) × Settled old mid × EndsNow mid e new
ended_now old new e none h = elim h.1 [
  | inl again ↦ absurd (none (subst IsNotKept (sym again.not_kept) tt))
  | inr more ↦ more
]

-- the present values of a desk of the program are those to which its history leads
leads_to : (l : Listing) (m : State) (w : Work) (a : Accounts w.first.value w.store w.history.items) → w.first.value.catalogue.now ≡ l → w.first.value.book.present.state ≡ m → w.store.book.present.state ≡ led l m w.history.items
leads_to l m w a named placed =
    sym a.leads ∙ (ap (λ (k : Listing). led k w.first.value.book.present.state w.history.items) named ∙ ap (λ (x : State). led l x w.history.items) placed)

-- what is told of a chapter that ended
pub is_chapter : (l : Listing) (m : State) (began : History) (old new : Work) (e : Ended) → old.first.value.catalogue.now ≡ l → old.first.value.book.present.state ≡ m
    → (mid : Work) × Settled old mid × EndsNow mid e new → ∥ StartsAt l m old.store began ∥₁ → ∥ Begins began new.history.items ∥₁ → ∥ IsChapter l m began new.history.items e ∥₁
is_chapter l m began old new e named placed h starts grows =
    let mid : Work = h.0 in
    let settled : Settled old mid = h.1 in
    let ends : EndsNow mid e new = h.2 in
    let first = settled.goes_on.first in
    let of_program = ap (λ (s : Store). s.catalogue.now) first ∙ named in
    let of_values = ap (λ (s : Store). s.book.present.state) first ∙ placed in
    ∥∥₁_map₂ mid.accounts (∥∥₁_map₂ starts grows (λ (s : StartsAt l m old.store began) (g : Begins began new.history.items). (s, g)))
    (λ (a : Accounts mid.first.value mid.store mid.history.items) (p : StartsAt l m old.store began × Begins began new.history.items).
    record {
      book = mid.store.book;
      tells = ends.tells;
      program = mid.store.declared ∙ ap declaring (a.catalogue ∙ of_program);
      grows = p.1;
      begins = ap (λ (k : Listing). k.initial) settled.listing ∙ p.0;
      ends = leads_to l m mid a of_program of_values ∙ ap (led l m) (sym ends.history);
    })

pub is_chapter_of : (l : Listing) (m : State) (began until b u : History) (e : Ended) → b ≡ began → u ≡ until → ∥ IsChapter l m began until e ∥₁ → ∥ IsChapter l m b u e ∥₁
is_chapter_of l m began until b u e from to is =
    subst (λ (x : History). ∥ IsChapter l m x u e ∥₁) (sym from) (subst (λ (x : History). ∥ IsChapter l m began x e ∥₁) (sym to) is)

-- and with which values the next one begins
pub starts_next : (l : Listing) (m : State) (old new : Work) (e : Ended) → old.first.value.catalogue.now ≡ l → old.first.value.book.present.state ≡ m
    → (mid : Work) × Settled old mid × EndsNow mid e new → ∥ StartsAt l m new.store new.history.items ∥₁
starts_next l m old new e named placed h =
    let mid : Work = h.0 in
    let settled : Settled old mid = h.1 in
    let ends : EndsNow mid e new = h.2 in
    let first = settled.goes_on.first in
    ∥∥₁_map mid.accounts (λ (a : Accounts mid.first.value mid.store mid.history.items).
    ap (λ (b : BookView). b.catalogue.initial) ends.begins.book
    ∙ (leads_to l m mid a (ap (λ (s : Store). s.catalogue.now) first ∙ named) (ap (λ (s : Store). s.book.present.state) first ∙ placed) ∙ ap (led l m) (sym ends.history)))

-- of a chapter that began where another ended
pub follows : (l : Listing) (m : State) (a b c d : History) (e f : Ended) → c ≡ b → IsChapter l m a b e → IsChapter l m c d f → Follows e f
follows l m a b c d e f same earlier later =
    record {
      before = earlier.book;
      now = later.book;
      tells_before = earlier.tells;
      tells_now = later.tells;
      program = later.program ∙ sym earlier.program;
      values = later.begins ∙ (ap (led l m) same ∙ sym earlier.ends);
    }

-- who waits waits on
pub carries_ended : (old new : Work) (e : Ended) → (mid : Work) × Settled old mid × EndsNow mid e new → Carries old.waiters new.waiters
carries_ended old new e h t seat there =
    let mid : Work = h.0 in
    carries_equal mid.waiters new.waiters h.2.waiters t seat (carries_hands_on old.waiters mid.waiters h.1.hands_on t seat there)

pub next_ended : (old new : Work) (e : Ended) → (mid : Work) × Settled old mid × EndsNow mid e new → new.store.chapter ≡ next_number old.store.chapter
next_ended old new e h = h.2.begins.chapter ∙ ap next_number h.1.goes_on.chapter

pub none_lies_ended : (old new : Work) (e : Ended) → EndsChapter old (Ok e) new → IsNotKept new.last → ⊥
none_lies_ended old new e h lies = subst IsNotKept h.0 lies

-- where none ended: what stays so
pub record HasNotEnded (old new : Work) : Type 0 where
  pub last : new.last ≡ old.last
  pub listing : new.store.book.catalogue ≡ old.store.book.catalogue
  pub carries : Carries old.waiters new.waiters

pub not_ended : (old new : Work) (why : Refused) → EndsChapter old (Err why) new → HasNotEnded old new
not_ended old new refused.NotEnded h =
    record {
      last = ap (λ (w : Work). w.last) h.1;
      listing = ap (λ (w : Work). w.store.book.catalogue) h.1;
      carries = carries_equal old.waiters new.waiters (ap (λ (w : Work). w.waiters) h.1);
    }
not_ended old new refused.Memory h =
    record {
      last = h.1.goes_on.last;
      listing = h.1.listing;
      carries = carries_hands_on old.waiters new.waiters h.1.hands_on;
    }
not_ended old new refused.Unknown h = absurd h
not_ended old new refused.Gone h = absurd h
not_ended old new refused.NotReady h = absurd h
not_ended old new refused.NotRunning h = absurd h
not_ended old new refused.OtherProgram h = absurd h
not_ended old new refused.Stale h = absurd h
not_ended old new refused.NoRoom h = absurd h
not_ended old new refused.Retries h = absurd h
not_ended old new refused.Closed h = absurd h
not_ended old new refused.TimedOut h = absurd h

-- what the host says of a chapter changes nothing else
pub record IsSameBut (old new : Work) : Type 0 where
  pub store : new.store ≡ old.store
  pub waiters : new.waiters ≡ old.waiters
  pub history : new.history.items ≡ old.history.items
  pub first : new.first.value ≡ old.first.value
  pub long : new.long.items ≡ old.long.items

pub taken_back : (old new : Work) (e : Ended) (how : Last) (r : Result (Unit {0}) Ended) → TakesBack old e how r new → IsSameBut old new
taken_back old new e how (Ok done) h =
    record {
      store = ap (λ (w : Work). w.store) h.1;
      waiters = ap (λ (w : Work). w.waiters) h.1;
      history = ap (λ (w : Work). w.history.items) h.1;
      first = ap (λ (w : Work). w.first.value) h.1;
      long = ap (λ (w : Work). w.long.items) h.1;
    }
taken_back old new e how (Err back) h =
    record {
      store = ap (λ (w : Work). w.store) h.2;
      waiters = ap (λ (w : Work). w.waiters) h.2;
      history = ap (λ (w : Work). w.history.items) h.2;
      first = ap (λ (w : Work). w.first.value) h.2;
      long = ap (λ (w : Work). w.long.items) h.2;
    }
