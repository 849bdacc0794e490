-- A history with one thing more that became of a task.
use Rattle.std.proofs.Common.{◌≡◌, ◌≢◌, ◌∙◌, inl, inr, ℕ, zero, suc, ◌+◌, ◌<◌, ◌≤◌, ◌^◌, Bool, true, false, List, [], ◌∷◌, ◌++◌, Some, length, map, get_or, refl, sym, ap, subst, arith, length-append, append_assoc, eqb}
use Rattle.std.specs.List.{slice_get, All, IsDistinct, AllByRecursion}
use Rattle.std.proofs.lemmas.List.Elements.{All-append}
use Rattle.std.proofs.lemmas.Bool.{cases_eq, eqb-true}
use Rattle.std.proofs.lemmas.List.{length-map}
use Rattle.std.proofs.lemmas.Map.Keys.{IsDistinct-from_apart}
use Rattle.std.proofs.lemmas.Option.{slice_get-get_or}
use Rattle.std.proofs.Math.Logic.{∥∥₁_elim}
use Rattle.std.proofs.Math.Bridge.{le_prop}
use Rattle.attempt_writes.proofs.Indexed.{few_distinct}
use Rattle.txn_programs.specs.declared.arguments.Call.{Call}
use Rattle.txn_programs.specs.Meaning.{State}
use Rattle.txn_programs.specs.Listing.{Listing}
use Rattle.stm_store.specs.Tickets.{AreTickets, most_tickets}
use Rattle.stm_store.specs.declared.job.Ticket.{Ticket}
use Rattle.stm_store.specs.declared.store.Store.{Store}
use Rattle.stm_desk.specs.declared.answers.Became.{Became}
use Rattle.stm_desk.specs.declared.answers.Became.TheVariants as became
use Rattle.stm_desk.specs.History.{AreLawful, Begins, History, IsLawful, IsOnce, led, left_by}
use Rattle.stm_desk.specs.Open.{HasOpen, IsOver}
use Rattle.stm_desk.specs.Steps.{HasBecome, HasStayed, StaysBut}
use Rattle.stm_desk.specs.Keeping.{Accounts, StandsIn}
use Rattle.stm_desk.proofs.Calling.{get_end, get_more}
use Rattle.stm_desk.proofs.Flags.{get_append_left}
use Rattle.stm_desk.proofs.Handing.{get_both}

led_more : (l : Listing) (m : State) (h : History) (e : Ticket × Became) → led l m (h ++ e ∷ []) ≡ left_by l (led l m h) e.1
led_more l m [] e = refl
led_more l m (x ∷ h) e = led_more l (left_by l m x.1) h e

lawful_more : (l : Listing) (m : State) (h : History) (e : Ticket × Became) → AreLawful l m h → IsLawful l (led l m h) e.1 → AreLawful l m (h ++ e ∷ [])
lawful_more l m [] e h w = (w, tt)
lawful_more l m (x ∷ xs) e h w = (h.0, lawful_more l (left_by l m x.1) xs e h.1 w)

once_more : (h : History) (e : Ticket × Became) → IsOnce h → ((place : ℕ) (x : Ticket × Became) → slice_get h place ≡ Some x → x.0.0 ≢ e.0.0) → IsOnce (h ++ e ∷ [])
once_more h e once apart i j a b at_i at_j same = elim (get_more h e i a at_i) [
  | inl p ↦ elim (get_more h e j b at_j) [
    | inl q ↦ once i j a b p q same
    | inr q ↦ absurd (apart i a p (same ∙ ap (λ (x : Ticket × Became). x.0.0) (sym q.1)))
  ]
  | inr p ↦ elim (get_more h e j b at_j) [
    | inl q ↦ absurd (apart j b q (sym same ∙ ap (λ (x : Ticket × Became). x.0.0) (sym p.1)))
    | inr q ↦ p.0 ∙ sym q.0
  ]
]

abbrev pub ticket : ℕ → Ticket
ticket n = record { 0 = n }

-- what stands in a history stands in a longer one
stands_on : (h : History) (e : Ticket × Became) (t : Ticket) → StandsIn h t → StandsIn (h ++ e ∷ []) t
stands_on h e t s = record { place = s.place; what = s.what; at_place = get_append_left h (e ∷ []) s.place (t, s.what) s.at_place }

stands_last : (h : History) (t one : Ticket) (what : Became) → t.0 ≡ one.0 → StandsIn (h ++ (one, what) ∷ []) t
stands_last h t one what same =
    record {
      place = length h;
      what = what;
      at_place = get_end h (one, what) (length h) refl ∙ ap (λ (n : ℕ). let e : Ticket × Became = (ticket n, what) in Some e) (sym same);
    }

-- the history with what became of the task
pub accounts_become : (first old new : Store) (h : History) (t : Ticket) (what : Became) → Accounts first old h → HasBecome old new t what → Accounts first new (h ++ (t, what) ∷ [])
accounts_become first old new h t what a b =
    let l = first.catalogue.now in
    let m = first.book.present.state in
    let e : Ticket × Became = (t, what) in
    let lawful : IsLawful l (led l m h) what =
    subst (λ (x : State). IsLawful l x what) (sym a.leads) (subst (λ (k : Listing). IsLawful k old.book.present.state what) a.catalogue b.lawful) in
    record {
      catalogue = b.stays.catalogue ∙ a.catalogue;
      legal = record {
        lawful = lawful_more l m h e a.legal.lawful lawful;
        once = once_more h e a.legal.once (λ place x at same. b.not_before (subst (λ (k : ℕ). IsOver old (ticket k)) same (a.over place x at)));
      };
      leads = led_more l m h e ∙ (ap (λ (x : State). left_by l x what) a.leads ∙ (ap (λ (k : Listing). left_by k old.book.present.state what) (sym a.catalogue) ∙ sym b.present));
      over = λ place x at. elim (get_more h e place x at) [
        | inl p ↦ b.stays.over x.0 (a.over place x p)
        | inr p ↦ subst (λ (y : Ticket × Became). IsOver new y.0) p.1 b.is_over
      ];
      before = λ one was. b.stays.over one (a.before one was);
      all = λ one is. elim (cases_eq one.0 t.0) [
        | inl same ↦ inr (stands_last h one t what same)
        | inr apart ↦ elim (a.all one (b.stays.over_before one apart is)) [
          | inl was ↦ inl was
          | inr s ↦ inr (stands_on h e one s)
        ]
      ];
    }

-- where the one is open too
pub over_but : (old new : Store) (one : Ticket) → StaysBut old new one → HasOpen new one → (t : Ticket) → IsOver new t → IsOver old t
over_but old new one stays is_open t over = elim (cases_eq t.0 one.0) [
  | inl same ↦ absurd (over.ended (subst (λ (n : ℕ). HasOpen new (ticket n)) (sym same) is_open))
  | inr apart ↦ stays.over_before t apart over
]

pub stayed_over : (old new : Store) (one : Ticket) (call : Call) → HasStayed old new one call → (t : Ticket) → IsOver new t → IsOver old t
stayed_over old new one call h t over = over_but old new one h.stays h.is_open.has t over

-- the same history, where nothing became of any
pub accounts_stay : (first old new : Store) (h : History) → new.catalogue.now ≡ old.catalogue.now → new.book.present.state ≡ old.book.present.state → ((t : Ticket) → IsOver old t → IsOver new t) → ((t : Ticket) → IsOver new t → IsOver old t) → Accounts first old h → Accounts first new h
accounts_stay first old new h same present over back a =
    record {
      catalogue = same ∙ a.catalogue;
      legal = a.legal;
      leads = a.leads ∙ sym present;
      over = λ place x at. over x.0 (a.over place x at);
      before = λ one was. over one (a.before one was);
      all = λ one is. a.all one (back one is);
    }

-- nothing became of any task yet
pub accounts_none : (first : Store) → Accounts first first []
accounts_none first =
    record {
      catalogue = refl;
      legal = record { lawful = tt; once = λ i j a b at_i at_j same. absurd (cc (at_i)) };
      leads = refl;
      over = λ place e at. absurd (cc (at));
      before = λ one was. was;
      all = λ one is. inl is;
    }

-- what was open and is over stands in what the history has more
pub ended_stands : (first old new : Store) (h more : History) (one : Ticket) → Accounts first old h → Accounts first new (h ++ more) → HasOpen old one → IsOver new one → StandsIn more one
ended_stands first old new h more one a b is_open over = elim (b.all one over) [
  | inl was ↦ absurd ((a.before one was).ended is_open)
  | inr s ↦ elim (get_both h more s.place (one, s.what) s.at_place) [
    | inl there ↦ absurd ((a.over s.place (one, s.what) there).ended is_open)
    | inr behind ↦ record { place = behind.0; what = s.what; at_place = behind.2 }
  ]
]

-- A history has no more places than tickets were given.
map_back : (h : History) (i n : ℕ) → slice_get (map (λ (e : Ticket × Became). e.0.0) h) i ≡ Some n → (e : Ticket × Became) × (slice_get h i ≡ Some e) × (e.0.0 ≡ n)
map_back [] i n at = absurd (cc (at))
map_back (e ∷ h) zero n at = (e, refl, cc (at))
map_back (e ∷ h) (suc i) n at = map_back h i n at

all_below : (h : History) (most : ℕ) → ((place : ℕ) (e : Ticket × Became) → slice_get h place ≡ Some e → e.0.0 < most) → AllByRecursion (λ (k : ℕ). k < most) (map (λ (e : Ticket × Became). e.0.0) h)
all_below [] most low = tt
all_below (e ∷ h) most low = (low 0 e refl, all_below h most (λ place x at. low (suc place) x at))

all_apart : (h : History) → IsOnce h → IsDistinct eqb (map (λ (e : Ticket × Became). e.0.0) h)
all_apart h once =
    let ns : List ℕ = map (λ (e : Ticket × Became). e.0.0) h in
    IsDistinct-from_apart eqb ns (λ i j d less within.
    let a = map_back h i (get_or ns i d) (slice_get-get_or ns i d (omega (arith, less, within))) in
    let b = map_back h j (get_or ns j d) (slice_get-get_or ns j d within) in
    differ (get_or ns i d) (get_or ns j d) (λ same.
    let one : i ≡ j = once i j a.0 b.0 a.1 b.1 (a.2 ∙ (same ∙ sym b.2)) in
    absurd (omega (arith, one, less))))
  where
    by : (x y : ℕ) (b : Bool) → eqb x y ≡ b → (x ≡ y → ⊥) → eqb x y ≡ false
    by x y true is apart = absurd (apart (eqb-true x y is))
    by x y false is apart = is

    differ : (x y : ℕ) → (x ≡ y → ⊥) → eqb x y ≡ false
    differ x y apart = by x y (eqb x y) refl apart

pub few_places : (first now : Store) (h : History) (n : ℕ) → n ≡ length h → AreTickets now.tickets → Accounts first now h → n + 1 < 2 ^ 64
few_places first now h n counted tickets a =
    let ns : List ℕ = map (λ (e : Ticket × Became). e.0.0) h in
    let few : length ns ≤ now.tickets.given = few_distinct now.tickets.given ns (all_apart h a.legal.once) (all_below h now.tickets.given (λ place e at. (a.over place e at).given)) in
    let low : now.tickets.given ≤ most_tickets = tickets.few in
    omega (arith, few, low, counted, length-map h (λ (e : Ticket × Became). e.0.0))

-- what begins a history begins a longer one
pub begins_more : (h longer : History) (e : Ticket × Became) → longer ≡ h ++ e ∷ [] → Begins h longer
begins_more h longer e is = (e ∷ [], is)

-- so there is always a number for one more
pub place_left : (first now : Store) (h : History) (n : ℕ) → n ≡ length h → AreTickets now.tickets → ∥ Accounts first now h ∥₁ → n + 1 < 2 ^ 64
place_left first now h n counted tickets a = ∥∥₁_elim a le_prop (few_places first now h n counted tickets)

-- one more is counted
pub counted_more : (n m : ℕ) (h longer : History) (e : Ticket × Became) → n ≡ length h → m ≡ n + 1 → longer ≡ h ++ e ∷ [] → m ≡ length longer
counted_more n m h longer e counted next is = omega (arith, counted, next, ap length is, length-append h (e ∷ []))

-- those that were left, and more of them
pub only_left_both : (a b c : History) → ((left : History) × (b ≡ a ++ left) × All (λ (e : Ticket × Became). e.1 ≡ became.Left) left) → ((left : History) × (c ≡ b ++ left) × All (λ (e : Ticket × Became). e.1 ≡ became.Left) left) → (left : History) × (c ≡ a ++ left) × All (λ (e : Ticket × Became). e.1 ≡ became.Left) left
only_left_both a b c p q = (
  p.0 ++ q.0,
  q.1 ∙ (ap (λ (x : History). x ++ q.0) p.1 ∙ append_assoc a p.0 q.0),
  All-append (λ (e : Ticket × Became). e.1 ≡ became.Left) p.0 q.0 p.2 q.2,
)
