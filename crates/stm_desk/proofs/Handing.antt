-- Who waits on, and who is told, over a call and over several.
use Rattle.std.proofs.Common.{◌≡◌, ◌≢◌, ◌∙◌, ◌⊎◌, inl, inr, ℕ, zero, suc, ◌+◌, List, [], ◌∷◌, ◌++◌, Option, Some, None, Result, Err, length, refl, sym, ap, subst, arith}
use Rattle.std.specs.List.{slice_get}
use Rattle.std.proofs.lemmas.Bool.{cases_eq}
use Rattle.std.proofs.lemmas.List.{append-nil, append_assoc}
use Rattle.stm_store.specs.declared.answers.Refused.{Refused}
use Rattle.stm_store.specs.declared.answers.Refused.TheVariants as refused
use Rattle.stm_store.specs.declared.job.Ticket.{Ticket}
use Rattle.stm_desk.specs.declared.answers.Answer.{Answer}
use Rattle.stm_desk.specs.declared.answers.Told.{Told}
use Rattle.stm_desk.specs.declared.waiters.Waiters.{Waiters}
use Rattle.stm_desk.specs.declared.waiters.Waiting.{Waiting}
use Rattle.stm_desk.specs.declared.work.Work.{Work}
use Rattle.stm_desk.specs.Asking.{GoesOn}
use Rattle.stm_desk.specs.History.{History}
use Rattle.stm_desk.specs.Waiting.{AreShutOut, HandsOn, IsToldIn, IsToldTo, OthersStay, waiting_at}
use Rattle.stm_desk.proofs.Flags.{get_append_left}

-- an element of two lists, one behind the other
pub get_both : {A : Type 0} (xs ys : List A) (k : ℕ) (x : A) → slice_get (xs ++ ys) k ≡ Some x → (slice_get xs k ≡ Some x) ⊎ ((j : ℕ) × (k ≡ length xs + j) × (slice_get ys j ≡ Some x))
get_both [] ys k x h = inr (k, omega arith, h)
get_both (y ∷ xs) ys zero x h = inl h
get_both (y ∷ xs) ys (suc k) x h = elim (get_both xs ys k x h) [
  | inl e ↦ inl e
  | inr e ↦ inr (e.0, omega (arith, e.1), e.2)
]

pub get_right : {A : Type 0} (xs ys : List A) (k : ℕ) (x : A) → slice_get ys k ≡ Some x → slice_get (xs ++ ys) (length xs + k) ≡ Some x
get_right {A = A} [] ys k x h = let at : k ≡ length {0} {A = A} [] + k = omega arith in subst (λ (n : ℕ). slice_get ys n ≡ Some x) at h
get_right {A = A} (y ∷ xs) ys k x h =
    let at : suc (length xs + k) ≡ length (y ∷ xs) + k = omega arith in
    subst (λ (n : ℕ). slice_get (y ∷ (xs ++ ys)) n ≡ Some x) at (get_right xs ys k x h)

not_there : (o : Option Waiting) (seat : Waiting) → o ≡ None → o ≡ Some seat → ⊥
not_there o seat none some = absurd (cc (none, some))

nothing_told : (P : Type 0) (k : ℕ) (t : Told) → slice_get [] k ≡ Some t → P
nothing_told P k t e = absurd (cc)

-- where those who wait are the same, and nobody is told
pub hands_nothing : (old new : Waiters) → new ≡ old → HandsOn old new
hands_nothing old new same = subst (HandsOn old) (sym same) (record {
  more = [];
  told = sym (append-nil old.told.items);
  each = λ t seat at. inl at;
  nobody = λ t none. none;
  only = λ k t e. nothing_told ((waiting_at old t.ticket.0 ≢ None) × (waiting_at old t.ticket.0 ≡ None)) k t e;
  once = λ i j a b p q same_one. nothing_told (i ≡ j) i a p;
})

in_first : (xs ys : List Told) (t : ℕ) (seat : Waiting) → IsToldIn xs t seat → IsToldIn (xs ++ ys) t seat
in_first xs ys t seat h = record { place = h.place; entry = h.entry; at_place = get_append_left xs ys h.place h.entry h.at_place; of = h.of; whose = h.whose; call = h.call }

in_second : (xs ys : List Told) (t : ℕ) (seat : Waiting) → IsToldIn ys t seat → IsToldIn (xs ++ ys) t seat
in_second xs ys t seat h = record { place = length xs + h.place; entry = h.entry; at_place = get_right xs ys h.place h.entry h.at_place; of = h.of; whose = h.whose; call = h.call }

-- over two calls
pub hands_both : (a b c : Waiters) → HandsOn a b → HandsOn b c → HandsOn a c
hands_both a b c p q =
    record {
      more = p.more ++ q.more;
      told = q.told ∙ (ap (λ (xs : List Told). xs ++ q.more) p.told ∙ append_assoc a.told.items p.more q.more);
      each = λ t seat at. elim (p.each t seat at) [
        | inl still ↦ elim (q.each t seat still) [
          | inl e ↦ inl e
          | inr e ↦ inr (in_second p.more q.more t seat e)
        ]
        | inr e ↦ inr (in_first p.more q.more t seat e)
      ];
      nobody = λ t none. q.nobody t (p.nobody t none);
      only = λ k t e. elim (get_both p.more q.more k t e) [
        | inl first ↦ ((p.only k t first).0, q.nobody t.ticket.0 (p.only k t first).1)
        | inr second ↦ (λ none. (q.only second.0 t second.2).0 (p.nobody t.ticket.0 none), (q.only second.0 t second.2).1)
      ];
      once = λ i j x y at_i at_j same. elim (get_both p.more q.more i x at_i) [
        | inl first ↦ elim (get_both p.more q.more j y at_j) [
          | inl other ↦ p.once i j x y first other same
          | inr other ↦ absurd ((q.only other.0 y other.2).0 (ap (waiting_at b) (sym same) ∙ (p.only i x first).1))
        ]
        | inr second ↦ elim (get_both p.more q.more j y at_j) [
          | inl other ↦ absurd ((q.only second.0 x second.2).0 (ap (waiting_at b) same ∙ (p.only j y other).1))
          | inr other ↦ second.1 ∙ (ap (λ (k : ℕ). length p.more + k) (q.once second.0 other.0 x y second.2 other.2 same) ∙ sym other.1)
        ]
      ];
    }

abbrev told_of : Waiting → Ticket → Result Answer Refused → Told
told_of seat t answer = record { whose = seat.whose; ticket = t; answer = answer; call = seat.call }

first_of : (x y : Told) (k : ℕ) → slice_get (x ∷ []) k ≡ Some y → (k ≡ 0) × (x ≡ y)
first_of x y zero e = (refl, cc)
first_of x y (suc k) e = absurd (cc)

-- whoever waited with a ticket is told
hands_one : (old new : Waiters) (t : Ticket) (seat : Waiting) (answer : Result Answer Refused) → waiting_at old t.0 ≡ Some seat → waiting_at new t.0 ≡ None → OthersStay old new t → new.told.items ≡ old.told.items ++ told_of seat t answer ∷ [] → HandsOn old new
hands_one old new t seat answer here gone others told =
    record {
      more = one ∷ [];
      told = told;
      each = λ other who at. elim (cases_eq other t.0) [
        | inl same ↦ inr (is_told other who same (sym here ∙ (ap (waiting_at old) (sym same) ∙ at)))
        | inr apart ↦ inl (others other apart ∙ at)
      ];
      nobody = λ other none. elim (cases_eq other t.0) [
        | inl same ↦ ap (waiting_at new) same ∙ gone
        | inr apart ↦ others other apart ∙ none
      ];
      only = λ k x e. was x (first_of one x k e).1;
      once = λ i j a b p q same. (first_of one a i p).0 ∙ sym (first_of one b j q).0;
    }
  where
    one : Told
    one = told_of seat t answer

    is_told : (other : ℕ) (who : Waiting) → other ≡ t.0 → Some seat ≡ Some who → IsToldIn (one ∷ []) other who
    is_told other who same mine = record { place = 0; entry = one; at_place = refl; of = sym same; whose = same_whose mine; call = same_calls mine }
      where
        same_whose : Some seat ≡ Some who → seat.whose ≡ who.whose
        same_whose e = let is : seat ≡ who = cc in ap (λ (w : Waiting). w.whose) is

        same_calls : Some seat ≡ Some who → seat.call ≡ who.call
        same_calls e = let is : seat ≡ who = cc in ap (λ (w : Waiting). w.call) is

    was : (x : Told) → one ≡ x → (waiting_at old x.ticket.0 ≢ None) × (waiting_at new x.ticket.0 ≡ None)
    was x is =
        let own : x.ticket.0 ≡ t.0 = ap (λ (y : Told). y.ticket.0) (sym is) in
        (λ none. not_there (waiting_at old t.0) seat (ap (waiting_at old) (sym own) ∙ none) here, ap (waiting_at new) own ∙ gone)

-- nobody waited with it
hands_none : (old new : Waiters) (t : Ticket) → waiting_at old t.0 ≡ None → waiting_at new t.0 ≡ None → OthersStay old new t → new.told.items ≡ old.told.items → HandsOn old new
hands_none old new t here gone others told =
    record {
      more = [];
      told = told ∙ sym (append-nil old.told.items);
      each = λ other who at. elim (cases_eq other t.0) [
        | inl same ↦ absurd (not_there (waiting_at old t.0) who here (ap (waiting_at old) (sym same) ∙ at))
        | inr apart ↦ inl (others other apart ∙ at)
      ];
      nobody = λ other none. elim (cases_eq other t.0) [
        | inl same ↦ ap (waiting_at new) same ∙ gone
        | inr apart ↦ others other apart ∙ none
      ];
      only = λ k x e. nothing_told ((waiting_at old x.ticket.0 ≢ None) × (waiting_at new x.ticket.0 ≡ None)) k x e;
      once = λ i j a b p q same. nothing_told (i ≡ j) i a p;
    }

pub hands_told : (old new : Waiters) (t : Ticket) (answer : Result Answer Refused) → waiting_at new t.0 ≡ None → OthersStay old new t → IsToldTo (waiting_at old t.0) old.told.items t answer new.told.items → HandsOn old new
hands_told old new t answer gone others told = by (waiting_at old t.0) refl told
  where
    by : (o : Option Waiting) → waiting_at old t.0 ≡ o → IsToldTo o old.told.items t answer new.told.items → HandsOn old new
    by None here is = hands_none old new t here gone others is
    by (Some seat) here is = hands_one old new t seat answer here gone others is

-- the same of those who are told that the desk is closed
pub shut_nothing : (old new : Waiters) → new ≡ old → AreShutOut old new
unfolding hands_nothing
shut_nothing old new same = subst (AreShutOut old) (sym same) (record {
  hands_on = hands_nothing old old refl;
  closed = λ k t e. nothing_told (t.answer ≡ Err refused.Closed) k t e;
})

pub shut_both : (a b c : Waiters) → AreShutOut a b → AreShutOut b c → AreShutOut a c
unfolding hands_both
shut_both a b c p q =
    record {
      hands_on = hands_both a b c p.hands_on q.hands_on;
      closed = λ k t e. elim (get_both p.hands_on.more q.hands_on.more k t e) [
        | inl first ↦ p.closed k t first
        | inr second ↦ q.closed second.0 t second.2
      ];
    }

pub shut_told : (old new : Waiters) (t : Ticket) → waiting_at new t.0 ≡ None → OthersStay old new t → IsToldTo (waiting_at old t.0) old.told.items t (Err refused.Closed) new.told.items → AreShutOut old new
unfolding hands_none hands_one
shut_told old new t gone others told = by (waiting_at old t.0) refl told
  where
    by : (o : Option Waiting) → waiting_at old t.0 ≡ o → IsToldTo o old.told.items t (Err refused.Closed) new.told.items → AreShutOut old new
    by None here is =
        record {
          hands_on = hands_none old new t here gone others is;
          closed = λ k x e. nothing_told (x.answer ≡ Err refused.Closed) k x e;
        }
    by (Some seat) here is =
        record {
          hands_on = hands_one old new t seat (Err refused.Closed) here gone others is;
          closed = λ k x e. ap (λ (y : Told). y.answer) (sym (first_of (told_of seat t (Err refused.Closed)) x k e).1);
        }

-- where nobody waited nobody is told
pub hands_nobody : (old new : Waiters) → HandsOn old new → ((t : ℕ) → waiting_at old t ≡ None) → new.told.items ≡ old.told.items
hands_nobody old new h none = h.told ∙ (ap (λ (xs : List Told). old.told.items ++ xs) (empty h.more (λ k t e. (h.only k t e).0 (none t.ticket.0))) ∙ append-nil old.told.items)
  where
    empty : (xs : List Told) → ((k : ℕ) (t : Told) → slice_get xs k ≡ Some t → ⊥) → xs ≡ []
    empty [] none = refl
    empty (x ∷ xs) none = absurd (none 0 x refl)

-- over several calls
pub goes_nothing : (w : Work) → GoesOn w w
goes_nothing w = record { first = refl; long = refl; catalogue = refl; chapter = refl; closed = refl; last = refl; history = ([], sym (append-nil w.history.items)) }

pub goes_both : (a b c : Work) → GoesOn a b → GoesOn b c → GoesOn a c
goes_both a b c p q =
    record {
      first = q.first ∙ p.first;
      long = q.long ∙ p.long;
      catalogue = q.catalogue ∙ p.catalogue;
      chapter = q.chapter ∙ p.chapter;
      closed = q.closed ∙ p.closed;
      last = q.last ∙ p.last;
      history = (p.history.0 ++ q.history.0, q.history.1 ∙ (ap (λ (h : History). h ++ q.history.0) p.history.1 ∙ append_assoc a.history.items p.history.0 q.history.0));
    }
