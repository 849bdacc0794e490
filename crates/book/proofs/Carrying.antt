-- The tasks that come over to the next chapter, moved down one after another.
use Rattle.std.proofs.Common.{◌≡◌, inl, inr, ℕ, zero, suc, ◌+◌, ◌-◌, ◌<◌, ◌≤◌, Bool, true, false, cond, List, [], ◌∷◌, ◌++◌, length, map, Option, Some, get_or, set, take, drop, replicate, refl, sym, ◌∙◌, ap, subst, arith, append_assoc, length-append}
use Rattle.std.specs.List.{slice_get, All}
use Rattle.std.proofs.lemmas.Bool.{cases_lt, cond_both}
use Rattle.std.proofs.lemmas.List.{take_more, take_more_set, take-set-le, take-append-drop, take_all, length-drop, length-map, length-set, drop-set-lt, get_or-drop, replicate-append-replicate, append-nil, map-append}
use Rattle.std.proofs.lemmas.List.Elements.{All-nil, All-cons, All-head, All-tail, All-from_get_or}
use Rattle.std.proofs.lemmas.Option.{same_Some, slice_get-get_or}
use Rattle.book.specs.declared.task.Slot.{Slot}
use Rattle.book.specs.declared.task.Slot.TheVariants as standing
use Rattle.book.specs.Tasks.{Task}
use Rattle.book.specs.Tasks.{Ready, Running, Parked, Done, GivenUp}
use Rattle.book.specs.Standings.{shown, shown_from, HaveRows, bare, Kept}
use Rattle.book.specs.Turns.{readied_one}
use Rattle.book.specs.Table.{is_ready, waits_low, IsWaiting}
use Rattle.book.specs.TableInside.{AreSets, places}
use Rattle.book.specs.Carrying.{stays, carried, settled}
use Rattle.book.proofs.Lists.{get_append_left, get_set_same, get_set_other}
use Rattle.book.proofs.Sets.{at_place, from_place}
use Rattle.book.proofs.Staying.{next_drop, same_next}

-- what has ended stands in no set
pub ended_unready : (t : Task) → stays t ≡ false → is_ready t ≡ false
ended_unready Ready e = absurd (cc)
ended_unready Running e = refl
ended_unready (Parked log) e = refl
ended_unready (Done n) e = refl
ended_unready GivenUp e = refl

pub ended_asleep : (x : ℕ) (t : Task) → stays t ≡ false → waits_low x t ≡ false
ended_asleep x Ready e = refl
ended_asleep x Running e = refl
ended_asleep x (Parked log) e = absurd (cc)
ended_asleep x (Done n) e = refl
ended_asleep x GivenUp e = refl

pub carried_append : (xs ys : List Task) → carried (xs ++ ys) ≡ carried xs ++ carried ys
carried_append [] ys = refl
carried_append (t ∷ ts) ys =
    cond_both (stays t) (readied_one t ∷ carried (ts ++ ys)) (carried (ts ++ ys)) (λ (r : List Task). r ≡ cond (stays t) (readied_one t ∷ carried ts) (carried ts) ++ carried ys)
    (λ e. ap (λ (r : List Task). readied_one t ∷ r) (carried_append ts ys) ∙ ap (λ (b : Bool). cond b (readied_one t ∷ carried ts) (carried ts) ++ carried ys) (sym e))
    (λ e. carried_append ts ys ∙ ap (λ (b : Bool). cond b (readied_one t ∷ carried ts) (carried ts) ++ carried ys) (sym e))

-- what has ended, or runs, is in no set
pub ended_rests : (o : Option Task) (t : Task) → o ≡ Some t → stays t ≡ false → IsWaiting o → ⊥
ended_rests o t e gone w =
    elim w [
      | inl ready ↦ let bad : true ≡ false = sym (ap stays (same_Some t Ready (sym e ∙ ready))) ∙ gone in cc
      | inr parked ↦ let bad : true ≡ false = sym (ap stays (same_Some t (Parked parked.0) (sym e ∙ parked.1))) ∙ gone in cc
    ]

pub running_rests : (o : Option Task) → o ≡ Some Running → IsWaiting o → ⊥
running_rests o e w =
    elim w [
      | inl ready ↦ let bad : Running ≡ Ready = same_Some Running Ready (sym e ∙ ready) in cc
      | inr parked ↦ let bad : Running ≡ Parked parked.0 = same_Some Running (Parked parked.0) (sym e ∙ parked.1) in cc
    ]

-- of the first i tasks those that stay stand at the beginning and none between waits, and the others are as they were
pub record MovedDown (was : List Task) (i kept : ℕ) (now : List Task) : Type 0 where
  pub count : kept ≡ length (carried (take i was))
  pub low : kept ≤ i
  pub size : length now ≡ length was
  pub head : take kept now ≡ carried (take i was)
  pub free : (k : ℕ) → kept ≤ k → k < i → IsWaiting (slice_get now k) → ⊥
  pub rest : drop i now ≡ drop i was

pub moved_first : (was : List Task) → MovedDown was 0 0 was
moved_first was = record { count = refl; low = omega arith; size = refl; head = refl; free = λ k from below w. omega (arith, below); rest = refl }

pub moved_next_is : (was : List Task) (i kept : ℕ) (now : List Task) → i < length was → MovedDown was i kept now → get_or now i Running ≡ get_or was i Running
moved_next_is was i kept now within h = same_next now was i Running (omega (arith, within, h.size)) within h.rest

carried_more : (was : List Task) (i : ℕ) → i < length was → carried (take (i + 1) was) ≡ carried (take i was) ++ carried (get_or was i Running ∷ [])
carried_more was i within = ap carried (take_more was i Running within) ∙ carried_append (take i was) (get_or was i Running ∷ [])

one_stays : (t : Task) → stays t ≡ true → carried (t ∷ []) ≡ readied_one t ∷ []
one_stays t e = ap (λ (b : Bool). cond b (readied_one t ∷ []) []) e

none_stays : (t : Task) → stays t ≡ false → carried (t ∷ []) ≡ []
none_stays t e = ap (λ (b : Bool). cond b (readied_one t ∷ []) []) e

stays_next : (was : List Task) (i kept : ℕ) (now : List Task) → i < length was → MovedDown was i kept now → stays (get_or was i Running) ≡ true → MovedDown was (i + 1) (kept + 1) (set (set now i Running) kept (readied_one (get_or was i Running)))
stays_next was i kept now within h e =
    let a = carried (take i was) in
    let t = get_or was i Running in
    let left = set now i Running in
    let here : i < length now = omega (arith, within, h.size) in
    let size : length left ≡ length now = length-set now i Running in
    let more : carried (take (i + 1) was) ≡ a ++ readied_one t ∷ [] = carried_more was i within ∙ ap (λ (xs : List Task). a ++ xs) (one_stays t e) in
    let gone : slice_get left i ≡ Some Running = get_set_same now i (get_or now i Running) Running (slice_get-get_or now i Running here) in
    record {
      count = omega (arith, h.count, ap length more, length-append a (readied_one t ∷ []));
      low = omega (arith, h.low);
      size = length-set left kept (readied_one t) ∙ (size ∙ h.size);
      head = take_more_set left kept (readied_one t) (omega (arith, h.low, here, size))
          ∙ (ap (λ (xs : List Task). xs ++ readied_one t ∷ []) (take-set-le kept now i Running h.low ∙ h.head) ∙ sym more);
      free = λ k from below w.
          let same : slice_get (set left kept (readied_one t)) k ≡ slice_get left k = get_set_other left kept k (readied_one t) (omega (arith, from)) in
          elim (cases_lt k i) [
            | inl less ↦ h.free k (omega (arith, from)) less (subst IsWaiting (same ∙ get_set_other now i k Running (omega (arith, less))) w)
            | inr past ↦
                let last : k ≡ i = omega (arith, past, below) in
                running_rests (slice_get left k) (ap (slice_get left) last ∙ gone) (subst IsWaiting same w)
          ];
      rest = drop-set-lt (i + 1) left kept (readied_one t) (omega (arith, h.low)) ∙ (drop-set-lt (i + 1) now i Running (omega arith) ∙ next_drop now was i Running here within h.rest);
    }

goes_next : (was : List Task) (i kept : ℕ) (now : List Task) → i < length was → MovedDown was i kept now → stays (get_or was i Running) ≡ false → MovedDown was (i + 1) kept now
goes_next was i kept now within h e =
    let a = carried (take i was) in
    let t = get_or was i Running in
    let here : i < length now = omega (arith, within, h.size) in
    let more : carried (take (i + 1) was) ≡ a = carried_more was i within ∙ (ap (λ (xs : List Task). a ++ xs) (none_stays t e) ∙ append-nil a) in
    let at : slice_get now i ≡ Some t = slice_get-get_or now i Running here ∙ ap Some (moved_next_is was i kept now within h) in
    record {
      count = omega (arith, h.count, ap length more);
      low = omega (arith, h.low);
      size = h.size;
      head = h.head ∙ sym more;
      free = λ k from below w.
          elim (cases_lt k i) [
            | inl less ↦ h.free k from less w
            | inr past ↦
                let last : k ≡ i = omega (arith, past, below) in
                ended_rests (slice_get now k) t (ap (slice_get now) last ∙ at) e w
          ];
      rest = next_drop now was i Running here within h.rest;
    }

-- one more task is settled
pub moved_next : (was : List Task) (i kept : ℕ) (now : List Task) → i < length was → MovedDown was i kept now → MovedDown was (i + 1) (kept + cond (stays (get_or now i Running)) 1 0) (settled (get_or now i Running) i kept now)
moved_next was i kept now within h =
    let t = get_or was i Running in
    subst (λ (u : Task). MovedDown was (i + 1) (kept + cond (stays u) 1 0) (settled u i kept now)) (sym (moved_next_is was i kept now within h))
    (either was now (set (set now i Running) kept (readied_one t)) i kept (stays t) (stays_next was i kept now within h) (goes_next was i kept now within h)) where
      either : (was now next : List Task) (i kept : ℕ) (b : Bool) → (b ≡ true → MovedDown was (i + 1) (kept + 1) next) → (b ≡ false → MovedDown was (i + 1) kept now) → MovedDown was (i + 1) (kept + cond b 1 0) (cond b next now)
      either was now next i kept true stay go = stay refl
      either was now next i kept false stay go = let none : kept ≡ kept + 0 = omega arith in subst (λ (j : ℕ). MovedDown was (i + 1) j now) none (go refl)

-- while fewer were found than stay there is a next task
pub moved_left : (was : List Task) (i kept : ℕ) (now : List Task) → kept < length (carried was) → MovedDown was i kept now → i < length was
moved_left was i kept now less h =
    elim (cases_lt i (length was)) [
      | inl within ↦ within
      | inr past ↦ absurd (omega (arith, less, h.count, ap (λ (ts : List Task). length (carried ts)) (take_all i was past)))
    ]

nothing : (ts : List Task) → length ts ≡ 0 → ts ≡ []
nothing [] e = refl
nothing (t ∷ ts) e = absurd (omega (arith, e))

-- where none stays each has ended
all_ended : (ts : List Task) (m : ℕ) (d : Task) → length (carried ts) ≡ 0 → m < length ts → stays (get_or ts m d) ≡ false
all_ended [] m d none low = absurd (omega (arith, low))
all_ended (t ∷ ts) zero d none low = first t ts (stays t) refl none where
  first : (t : Task) (ts : List Task) (b : Bool) → stays t ≡ b → length (cond b (readied_one t ∷ carried ts) (carried ts)) ≡ 0 → stays t ≡ false
  first t ts true e none = absurd (omega (arith, none))
  first t ts false e none = e
all_ended (t ∷ ts) (suc m) d none low = all_ended ts m d (later t ts (stays t) none) (omega (arith, low)) where
  later : (t : Task) (ts : List Task) (b : Bool) → length (cond b (readied_one t ∷ carried ts) (carried ts)) ≡ 0 → length (carried ts) ≡ 0
  later t ts true none = absurd (omega (arith, none))
  later t ts false none = none

readied_waits : (t : Task) → stays t ≡ true → IsWaiting (Some (readied_one t))
readied_waits Ready e = inl refl
readied_waits Running e = inl refl
readied_waits (Parked log) e = inr (log, refl)
readied_waits (Done n) e = absurd (cc)
readied_waits GivenUp e = absurd (cc)

-- what a task of the table may do behind those that stay, and what these do
abbrev pub Rests : Task → Type 0
Rests t = IsWaiting (Some t) → ⊥

abbrev pub Waits : Task → Type 0
Waits t = IsWaiting (Some t)

carried_wait : (ts : List Task) → All Waits (carried ts)
carried_wait [] = All-nil Waits
carried_wait (t ∷ ts) =
    let rest = carried_wait ts in
    cond_both (stays t) (readied_one t ∷ carried ts) (carried ts) (λ (us : List Task). All Waits us) (λ e. All-cons Waits (readied_one t) (carried ts) (readied_waits t e) rest) (λ e. rest)

-- all that stay are found
pub record AllMoved (was : List Task) (kept : ℕ) (now : List Task) : Type 0 where
  pub count : kept ≡ length (carried was)
  pub head : take kept now ≡ carried was
  pub waiting : All Waits (take kept now)
  pub free : All Rests (drop kept now)

pub moved_all : (was : List Task) (i kept : ℕ) (now : List Task) → length (carried was) ≤ kept → MovedDown was i kept now → AllMoved was kept now
moved_all was i kept now enough h =
    let a = carried (take i was) in
    let rest = drop i was in
    let split : carried was ≡ a ++ carried rest = ap carried (sym (take-append-drop i was)) ∙ carried_append (take i was) rest in
    let none : length (carried rest) ≡ 0 = omega (arith, ap length split, length-append a (carried rest), h.count, enough) in
    let all : a ≡ carried was = sym (split ∙ (ap (λ (xs : List Task). a ++ xs) (nothing (carried rest) none) ∙ append-nil a)) in
    let head : take kept now ≡ carried was = h.head ∙ all in
    record {
      count = h.count ∙ ap length all;
      head = head;
      waiting = subst (λ (ts : List Task). All Waits ts) (sym head) (carried_wait was);
      free = All-from_get_or Rests (drop kept now) Running (λ j low w.
          let k = kept + j in
          let x = get_or (drop kept now) j Running in
          let within : k < length now = omega (arith, low, length-drop kept now) in
          let at : slice_get now k ≡ Some x = slice_get-get_or now k Running within ∙ ap Some (sym (get_or-drop kept now j Running)) in
          elim (cases_lt k i) [
            | inl less ↦ h.free k (omega arith) less (subst IsWaiting (sym at) w)
            | inr past ↦
                let m = k - i in
                let here : k ≡ i + m = omega (arith, past) in
                let same : x ≡ get_or rest m Running =
                get_or-drop kept now j Running
                ∙ (ap (λ (n : ℕ). get_or now n Running) here
                ∙ (sym (get_or-drop i now m Running) ∙ ap (λ (ts : List Task). get_or ts m Running) h.rest)) in
                ended_rests (Some x) x refl (ap stays same ∙ all_ended rest m Running none (omega (arith, within, here, h.size, length-drop i was))) w
          ]);
    }

-- behind those that stay no task is in a set
no_flags : (f : Task → Bool) → f Running ≡ false → ((t : Task) → Rests t → f t ≡ false) → (ts : List Task) → All Rests ts → map f ts ≡ map f (replicate (length ts) Running)
no_flags f running rests [] h = refl
no_flags f running rests (t ∷ ts) h =
    ap (λ (b : Bool). b ∷ map f ts) (rests t (All-head Rests t ts h) ∙ sym running)
    ∙ ap (λ (bs : List Bool). f Running ∷ bs) (no_flags f running rests ts (All-tail Rests t ts h))

unready : (t : Task) → Rests t → is_ready t ≡ false
unready Ready rests = absurd (rests (inl refl))
unready Running rests = refl
unready (Parked log) rests = refl
unready (Done n) rests = refl
unready GivenUp rests = refl

asleep_for_none : (x : ℕ) (t : Task) → Rests t → waits_low x t ≡ false
asleep_for_none x Ready rests = refl
asleep_for_none x Running rests = refl
asleep_for_none x (Parked log) rests = absurd (rests (inr (log, refl)))
asleep_for_none x (Done n) rests = refl
asleep_for_none x GivenUp rests = refl

-- what is free at the end is room
flags_cut : (f : Task → Bool) → f Running ≡ false → ((t : Task) → Rests t → f t ≡ false) → (ts : List Task) (n m : ℕ) → All Rests (drop n ts) → map f (places (take n ts) (m + (length ts - n))) ≡ map f (places ts m)
flags_cut f running rests ts n m free =
    let k = length ts - n in
    let head = take n ts in
    let rest = drop n ts in
    let room = replicate m Running in
    let behind : map f (replicate k Running) ≡ map f rest = ap (λ (j : ℕ). map f (replicate j Running)) (sym (length-drop n ts)) ∙ sym (no_flags f running rests rest free) in
    ap (λ (j : ℕ). map f (head ++ replicate j Running)) (let e : m + k ≡ k + m = omega arith in e)
    ∙ (ap (λ (xs : List Task). map f (head ++ xs)) (sym (replicate-append-replicate k m Running))
    ∙ (map-append f head (replicate k Running ++ room)
    ∙ (ap (λ (bs : List Bool). map f head ++ bs) (map-append f (replicate k Running) room ∙ (ap (λ (bs : List Bool). bs ++ map f room) behind ∙ sym (map-append f rest room)))
    ∙ (sym (map-append f head (rest ++ room))
    ∙ (ap (map f) (sym (append_assoc head rest room)) ∙ ap (λ (xs : List Task). map f (xs ++ room)) (take-append-drop n ts))))))

pub sets_cut : {v : ℕ} (ts : List Task) (n m : ℕ) (ready : List Bool) (sleepers : List (List Bool)) → All Rests (drop n ts) → AreSets v (places ts m) ready sleepers → AreSets v (places (take n ts) (m + (length ts - n))) ready sleepers
sets_cut ts n m ready sleepers free h =
    let now = places (take n ts) (m + (length ts - n)) in
    let flags = flags_cut is_ready refl unready ts n m free in
    record {
      few = omega (arith, h.few, ap length flags, length-map now is_ready, length-map (places ts m) is_ready);
      ready = h.ready ∙ sym flags;
      one_each = h.one_each;
      asleep = λ x low. h.asleep x low ∙ sym (flags_cut (waits_low x) refl (asleep_for_none x) ts n m free);
      known = λ t log e.
          let first = from_place (take n ts) (m + (length ts - n)) t (Parked log) e (λ bad. cc) in
          h.known t log (at_place ts m t (Parked log) (ap (λ (xs : List Task). slice_get xs t) (sym (take-append-drop n ts)) ∙ get_append_left (take n ts) (drop n ts) t (Parked log) first));
    }

take_from : (w : ℕ) (names : Kept) (k : ℕ) (ss : List Slot) (n : ℕ) → shown_from w names k (take n ss) ≡ take n (shown_from w names k ss)
take_from w names k ss zero = refl
take_from w names k [] (suc n) = refl
take_from w names k (s ∷ ss) (suc n) = ap (λ (ts : List Task). shown w names k s ∷ ts) (take_from w names (k + 1) ss n)

pub shown_take : (w : ℕ) (names : Kept) (ss : List Slot) (n : ℕ) → shown_from w names 0 (take n ss) ≡ take n (shown_from w names 0 ss)
shown_take w names ss n = take_from w names 0 ss n

pub rows_cut : (w : ℕ) (names : Kept) (ss : List Slot) (n : ℕ) → HaveRows w names ss → HaveRows w names (take n ss)
rows_cut w names ss n rows =
    record {
      fits = λ t m e. rows.fits t m (before t m e);
      whole = λ few t m e. rows.whole few t m (before t m e);
      logged = λ wide t m e. rows.logged wide t m (before t m e);
    } where
      before : (t m : ℕ) → slice_get (take n ss) t ≡ Some (standing.Parked m) → slice_get ss t ≡ Some (standing.Parked m)
      before t m e = ap (λ (xs : List Slot). slice_get xs t) (sym (take-append-drop n ss)) ∙ get_append_left (take n ss) (drop n ss) t (standing.Parked m) e

-- whether a task stays is told by its standing
pub stays_shown : (w : ℕ) (names : Kept) (k : ℕ) (s : Slot) → stays (bare s) ≡ stays (shown w names k s)
stays_shown w names k standing.Ready = refl
stays_shown w names k standing.Running = refl
stays_shown w names k (standing.Parked n) = refl
stays_shown w names k (standing.Done n) = refl
stays_shown w names k standing.GivenUp = refl
