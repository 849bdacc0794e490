-- What holds of a world, and how the events of readers keep it.
use Rattle.std.proofs.Common.{◌≡◌, ◌≢◌, ℕ, ◌+◌, ◌-◌, ◌*◌, ◌%◌, ◌<◌, ◌≤◌, true, false, List, [], ◌∷◌, ◌++◌, length, take, get_or, set, sym, refl, ap, ◌∙◌, subst, ⊎_elim, inl, arith, Option, Some, None, slice_get}
use Rattle.std.proofs.lemmas.Bool.{false≢true}
use Rattle.std.proofs.lemmas.Option.{slice_get_within}
use Rattle.txn_programs.specs.Listing.{Listing, task_program}
use Rattle.txn_programs.specs.Meaning.{State, outcome, after}
use Rattle.txn_programs.specs.Tree.{Program}
use Rattle.txn_words.specs.Words.{Commit, WordsMean, state_value, state_of, last_state}
use Rattle.txn_words.specs.Stores.{Change, with_changes, AreChanges}
use Rattle.txn_words.specs.Loads.{SamplingHolds}
use Rattle.txn_programs.specs.declared.ast.TaskId.{TaskId}
use Rattle.txn_programs.specs.declared.ast.VarId.{VarId}
use Rattle.txn_programs.specs.declared.ast.Outcome.{Outcome}
use Rattle.txn_programs.specs.declared.ast.Outcome.TheVariants.{Retries}
use Rattle.attempt.specs.Asking.{Known, Needs, Ends}
use Rattle.attempt.specs.Frame.{Agrees, store}
use Rattle.world_law.specs.declared.events.Fate.{Fate}
use Rattle.world_law.specs.declared.events.Fate.TheVariants as fate
use Rattle.world_law.specs.declared.events.Loads.{Loads}
use Rattle.world_law.specs.declared.events.Loads.TheVariants as loads
use Rattle.world_law.specs.World.{Check, Started, World, Committer, is_live, CanBegin, IsRunning, Stands, Apart, stand, wanted, bound_by, bound, with_attempt, changed, version_now, value_now, committing, stores, differences, words_loaded}
use Rattle.world_law.specs.Commits.{RestsAt, IsAsFar, after_stores}
use Rattle.world_law.specs.Opacity.{Explains, IsPast, Makes, Made, Opaque, WordsFit}
use Rattle.world_law.proofs.Places.{get_set_other, get_set, get_push_old, get_push, same_some}
use Rattle.world_law.proofs.Framed.{IsSound, ends_as, length-store}
use Rattle.world_law.proofs.Differ.{changes_lead, are_changes}
use Rattle.world_law.proofs.Resting.{Phase, Locking}

-- a commit that is under way: the words' record as it began, and the attempt that it is of
pub record Pending (k : Listing) (attempts : List Started) (c : Committer) (commit : Commit) : Type 0 where
  pub base : Commit
  pub before : ℕ
  pub number : c.number ≡ before + 1
  pub rest : RestsAt base before
  pub are : AreChanges (last_state base.history) c.changes
  pub phase : Phase base before c.changes c.stored commit
  pub done : commit ≡ after_stores (take c.stored (stores c.changes)) base
  pub owner : Started
  pub was : slice_get attempts c.place ≡ Some owner
  pub running : owner.fate ≡ fate.Running
  pub explained : Explains k (last_state base.history) (with_changes base.values c.changes) owner

abbrev pub Under : Listing → List Started → Option Committer → Commit → Type 0
Under k attempts None commit = (n : ℕ) × RestsAt commit n
Under k attempts (Some c) commit = Pending k attempts c commit

-- a read that goes on found an unlocked version no later than its state
abbrev pub WasFirst : ℕ → List ℕ → Type 0
WasFirst rv [] = Unit {0}
WasFirst rv (first ∷ more) = (first % 2 ≡ 0) × (first ≤ 2 * rv)

-- what an attempt has loaded of x
abbrev pub LoadedOf : World → ℕ → VarId → Loads → Type 0
LoadedOf w rv x ls =
    SamplingHolds (version_now w x) (value_now w x) rv (state_value (state_of w.history rv) x.0) (words_loaded ls) × WasFirst rv (words_loaded ls)

abbrev pub LoadsHold : Listing → World → Started → Type 0
LoadsHold k w y = (x : VarId) → wanted k y ≡ Some x → LoadedOf w (bound y) x y.loads

-- what an attempt has checked is so in the state that it checks
pub record CheckedSo (h : List State) (log : Known) (c : Check) : Type 0 where
  pub within : c.candidate < length h
  pub agrees : Agrees (take c.checked log) (state_of h c.candidate)

abbrev pub CheckHolds : List State → Known → Option Check → Type 0
CheckHolds h log None = Unit {0}
CheckHolds h log (Some c) = CheckedSo h log c

-- what an attempt read is so in its state
abbrev pub ReadsHold : List State → Started → Type 0
ReadsHold h y = (y.rv < length h) × Agrees y.log (state_of h y.rv) × CheckHolds h y.log y.check

-- it loads the values of a state of the history
pub bound_within : (h : List State) (log : Known) (rv : ℕ) (o : Option Check) → rv < length h → CheckHolds h log o → bound_by rv o < length h
bound_within h log rv None low c = low
bound_within h log rv (Some d) low c = c.within

-- it stays so while the history grows
pub check_grows : (h g : List State) (log : Known) (o : Option Check) → ((n : ℕ) → n < length h → (n < length g) × (state_of g n ≡ state_of h n)) → CheckHolds h log o → CheckHolds g log o
check_grows h g log None grows c = tt
check_grows h g log (Some d) grows c = let e = grows d.candidate c.within in record { within = e.0; agrees = subst (Agrees (take d.checked log)) (sym e.1) c.agrees }

check_of : (h : List State) (log : Known) (o : Option Check) (c : Check) → CheckHolds h log o → o ≡ Some c → CheckedSo h log c
check_of h log o c holds e = subst (CheckHolds h log) e holds

pub record Holds (k : Listing) (w : World) : Type 0 where
  pub commit : Commit
  pub history : commit.history ≡ w.history
  pub words : WordsMean w.words commit
  pub under : Under k w.attempts w.committer commit
  pub states : (n : ℕ) → n < length w.history → length (state_of w.history n) ≡ length k.initial
  pub begins : state_of w.history 0 ≡ k.initial
  pub reads : (i : ℕ) (y : Started) → slice_get w.attempts i ≡ Some y → ReadsHold w.history y
  pub loads : (i : ℕ) (y : Started) → slice_get w.attempts i ≡ Some y → LoadsHold k w y
  pub alone : (i j : ℕ) (y z : Started) → slice_get w.attempts i ≡ Some y → slice_get w.attempts j ≡ Some z → y.task ≡ z.task → is_live y.fate ≡ true → is_live z.fate ≡ true → i ≡ j
  pub numbered : (i n : ℕ) (y : Started) → Makes w n i y → n < length w.history
  pub made : (n : ℕ) → 0 < n → n < length w.history → Made k w n

as_far : (k : Listing) (l : List Started) (o : Option Committer) (commit : Commit) → Under k l o commit → IsAsFar o commit
as_far k l None commit u = u
as_far k l (Some c) commit u = (u.base, u.before, u.number, u.rest, u.are, u.done)

pub opaque_from : (k : Listing) (w : World) → IsSound k → Holds k w → Opaque k w
opaque_from k w sound h = record {
  reads = λ i y at. let r = h.reads i y at in (r.0, (r.1, λ o ws ends. sym (ends_as k sound y.task y.log ws o (state_of w.history y.rv) (h.states y.rv r.0) r.1 ends).0));
  makers = h.made;
  once = λ i j m n y z at at' e e' same. h.alone i j y z at at' same (ap is_live e) (ap is_live e');
}

pub words_from : (k : Listing) (w : World) → Holds k w → WordsFit k w
words_from k w h = record {
  commit = h.commit;
  history = h.history;
  words = h.words;
  far = as_far k w.attempts w.committer h.commit h.under;
  loads = λ i y x at wants. (h.loads i y at x wants).0;
  checks = λ i y c at is. let so = check_of w.history y.log y.check c (h.reads i y at).2 is in (so.within, so.agrees);
}

pub running_not : (n : ℕ) → fate.Running ≢ fate.Committed n
running_not n e = absurd (cc)

pub same_number : (m n : ℕ) → fate.Committed m ≡ fate.Committed n → m ≡ n
same_number m n e = cc

not_past : (o : Option Committer) (i n : ℕ) → Apart o i → IsPast o i n → ⊥
not_past None i n a p = p
not_past (Some c) i n a p = a c refl p.0

-- no two of these attempts that are live are of one task
abbrev pub AreAlone : List Started → Type 0
AreAlone l = (i j : ℕ) (y z : Started) → slice_get l i ≡ Some y → slice_get l j ≡ Some z → y.task ≡ z.task → is_live y.fate ≡ true → is_live z.fate ≡ true → i ≡ j

-- the attempt y at the place i, which has not committed, becomes y'
pub record Replaces (k : Listing) (w : World) (i : ℕ) (y y' : Started) : Type 0 where
  pub was : slice_get w.attempts i ≡ Some y
  pub standing : (n : ℕ) → y.fate ≢ fate.Committed n
  pub alone : AreAlone (set w.attempts i y')
  pub reads : ReadsHold w.history y'
  pub loads : LoadsHold k w y'
  pub apart : Apart w.committer i

-- a live attempt was live before it, and of the same task
back : (l : List Started) (i : ℕ) (y y' : Started) → slice_get l i ≡ Some y → is_live y.fate ≡ true → y'.task ≡ y.task → (j : ℕ) (z : Started) → slice_get (set l i y') j ≡ Some z → is_live z.fate ≡ true
    → (z0 : Started) × (slice_get l j ≡ Some z0) × (z0.task ≡ z.task) × (is_live z0.fate ≡ true)
back l i y y' was run task j z at live = ⊎_elim
    (λ (t : (j ≢ i) × (slice_get l j ≡ Some z)). (z, t.1, refl, live))
    (λ (t : (j ≡ i) × (y' ≡ z)). (y, ap (slice_get l) t.0 ∙ was, sym task ∙ ap (λ (u : Started). u.task) t.1, run))
    (get_set l i j y' y z was at)

pub alone_changed : (k : Listing) (w : World) (i : ℕ) (y y' : Started) → Holds k w → slice_get w.attempts i ≡ Some y → y.fate ≡ fate.Running → y'.task ≡ y.task → AreAlone (set w.attempts i y')
alone_changed k w i y y' h was run task j l u z at at' same live live' =
    let b = back w.attempts i y y' was (ap is_live run) task j u at live in let c = back w.attempts i y y' was (ap is_live run) task l z at' live' in
    h.alone j l b.0 c.0 b.1 c.1 (b.2 ∙ (same ∙ sym c.2)) b.3 c.3

-- where the task had no live attempt
pub alone_again : (k : Listing) (w : World) (a : TaskId) (i : ℕ) (y y' : Started) → Holds k w → slice_get w.attempts i ≡ Some y → CanBegin k w a → y'.task ≡ a → AreAlone (set w.attempts i y')
alone_again k w a i y y' h was can task j l u z at at' same live live' = ⊎_elim
    (λ (t : (j ≢ i) × (slice_get w.attempts j ≡ Some u)). ⊎_elim
    (λ (t' : (l ≢ i) × (slice_get w.attempts l ≡ Some z)). h.alone j l u z t.1 t'.1 same live live')
    (λ (t' : (l ≡ i) × (y' ≡ z)). absurd (false≢true (sym (can.1 j u t.1 (same ∙ (ap (λ (v : Started). v.task) (sym t'.1) ∙ task))) ∙ live)))
    (get_set w.attempts i l y' y z was at'))
    (λ (t : (j ≡ i) × (y' ≡ u)). ⊎_elim
    (λ (t' : (l ≢ i) × (slice_get w.attempts l ≡ Some z)). absurd (false≢true (sym (can.1 l z t'.1 (sym same ∙ (ap (λ (v : Started). v.task) (sym t.1) ∙ task))) ∙ live')))
    (λ (t' : (l ≡ i) × (y' ≡ z)). t.0 ∙ sym t'.0)
    (get_set w.attempts i l y' y z was at'))
    (get_set w.attempts i j y' y u was at)

under_set : (k : Listing) (l : List Started) (i : ℕ) (y' : Started) (o : Option Committer) (commit : Commit) → Apart o i → Under k l o commit → Under k (set l i y') o commit
under_set k l i y' None commit a u = u
under_set k l i y' (Some c) commit a u = record {
  base = u.base;
  before = u.before;
  number = u.number;
  rest = u.rest;
  are = u.are;
  phase = u.phase;
  done = u.done;
  owner = u.owner;
  was = get_set_other l i c.place y' (a c refl) ∙ u.was;
  running = u.running;
  explained = u.explained;
}

under_push : (k : Listing) (l : List Started) (y' : Started) (o : Option Committer) (commit : Commit) → Under k l o commit → Under k (l ++ y' ∷ []) o commit
under_push k l y' None commit u = u
under_push k l y' (Some c) commit u = record {
  base = u.base;
  before = u.before;
  number = u.number;
  rest = u.rest;
  are = u.are;
  phase = u.phase;
  done = u.done;
  owner = u.owner;
  was = get_push_old l y' c.place u.owner u.was;
  running = u.running;
  explained = u.explained;
}

past_within : (k : Listing) (l : List Started) (o : Option Committer) (commit : Commit) (i n : ℕ) → Under k l o commit → IsPast o i n → i < length l
past_within k l None commit i n u p = absurd p
past_within k l (Some c) commit i n u p = let e = p.0 in omega (arith, slice_get_within l c.place u.owner u.was)

pub changed_kept : (k : Listing) (w : World) (i : ℕ) (y y' : Started) → Holds k w → Replaces k w i y y' → ((n : ℕ) → y'.fate ≢ fate.Committed n) → Holds k (changed w i y')
changed_kept k w i y y' h r never = record {
  commit = h.commit;
  history = h.history;
  words = h.words;
  under = under_set k w.attempts i y' w.committer h.commit r.apart h.under;
  states = h.states;
  begins = h.begins;
  reads = λ j z at. ⊎_elim
      (λ (t : (j ≢ i) × (slice_get w.attempts j ≡ Some z)). h.reads j z t.1)
      (λ (t : (j ≡ i) × (y' ≡ z)). subst (ReadsHold w.history) t.1 r.reads)
      (get_set w.attempts i j y' y z r.was at);
  loads = λ j z at. ⊎_elim
      (λ (t : (j ≢ i) × (slice_get w.attempts j ≡ Some z)). h.loads j z t.1)
      (λ (t : (j ≡ i) × (y' ≡ z)). subst (LoadsHold k w) t.1 r.loads)
      (get_set w.attempts i j y' y z r.was at);
  alone = r.alone;
  numbered = λ j n z m. h.numbered j n z (old j n z m).1;
  made = λ n low high. let m = h.made n low high in
      (m.0, m.1, (get_set_other w.attempts i m.0 y' (apart m.0 n m.1 m.2) ∙ m.2.0, m.2.1), m.3, λ j z mk. m.4 j z (old j n z mk).1);
}
  where
    apart : (j n : ℕ) (z : Started) → Makes w n j z → j ≢ i
    apart j n z m same = ⊎_elim
        (λ (e : z.fate ≡ fate.Committed n). r.standing n (ap (λ (u : Started). u.fate) (same_some y z (sym r.was ∙ (ap (slice_get w.attempts) (sym same) ∙ m.0))) ∙ e))
        (λ (p : IsPast w.committer j n). not_past w.committer i n r.apart (subst (λ (v : ℕ). IsPast w.committer v n) same p))
        m.1

    old : (j n : ℕ) (z : Started) → Makes (changed w i y') n j z → (j ≢ i) × Makes w n j z
    old j n z m = ⊎_elim
        (λ (t : (j ≢ i) × (slice_get w.attempts j ≡ Some z)). (t.0, (t.1, m.1)))
        (λ (t : (j ≡ i) × (y' ≡ z)). absurd (⊎_elim
        (λ (e : z.fate ≡ fate.Committed n). never n (ap (λ (u : Started). u.fate) t.1 ∙ e))
        (λ (p : IsPast w.committer j n). not_past w.committer i n r.apart (subst (λ (v : ℕ). IsPast w.committer v n) t.0 p))
        m.1))
        (get_set w.attempts i j y' y z r.was m.0)

pub attempt_kept : (k : Listing) (w : World) (a : TaskId) (f : Fate) → Holds k w → CanBegin k w a → ((n : ℕ) → f ≢ fate.Committed n) → Holds k (with_attempt w a f)
attempt_kept k w a f h can never = record {
  commit = h.commit;
  history = h.history;
  words = h.words;
  under = under_push k w.attempts new w.committer h.commit h.under;
  states = h.states;
  begins = h.begins;
  reads = λ j z at. ⊎_elim
      (λ (e : slice_get w.attempts j ≡ Some z). h.reads j z e)
      (λ (e : (j ≡ length w.attempts) × (new ≡ z)). subst (ReadsHold w.history) e.1 (let clock = h.words.clock in let same = ap (λ (l : List State). length l) h.history in omega arith, tt, tt))
      (get_push w.attempts new j z at);
  loads = λ j z at. ⊎_elim
      (λ (e : slice_get w.attempts j ≡ Some z). h.loads j z e)
      (λ (e : (j ≡ length w.attempts) × (new ≡ z)). subst (LoadsHold k w) e.1 (λ x needs. (tt, tt)))
      (get_push w.attempts new j z at);
  alone = λ i j y z at at' same live live'. ⊎_elim
      (λ (e : slice_get w.attempts i ≡ Some y). ⊎_elim
      (λ (e' : slice_get w.attempts j ≡ Some z). h.alone i j y z e e' same live live')
      (λ (e' : (j ≡ length w.attempts) × (new ≡ z)). absurd (false≢true (sym (can.1 i y e (same ∙ sym (ap (λ (u : Started). u.task) e'.1))) ∙ live)))
      (get_push w.attempts new j z at'))
      (λ (e : (i ≡ length w.attempts) × (new ≡ y)). ⊎_elim
      (λ (e' : slice_get w.attempts j ≡ Some z). absurd (false≢true (sym (can.1 j z e' (sym same ∙ sym (ap (λ (u : Started). u.task) e.1))) ∙ live')))
      (λ (e' : (j ≡ length w.attempts) × (new ≡ z)). e.0 ∙ sym e'.0)
      (get_push w.attempts new j z at'))
      (get_push w.attempts new i y at);
  numbered = λ j n z m. h.numbered j n z (old j n z m);
  made = λ n low high. let m = h.made n low high in
      (m.0, m.1, (get_push_old w.attempts new m.0 m.1 m.2.0, m.2.1), m.3, λ j z mk. m.4 j z (old j n z mk));
}
  where
    new : Started
    new = record { task = a; rv = get_or w.words 0 0; log = []; loads = loads.Nothing; fate = f; movable = false; check = None }

    old : (j n : ℕ) (z : Started) → Makes (with_attempt w a f) n j z → Makes w n j z
    old j n z m = ⊎_elim
        (λ (e : slice_get w.attempts j ≡ Some z). (e, m.1))
        (λ (e : (j ≡ length w.attempts) × (new ≡ z)). absurd (⊎_elim
        (λ (c : z.fate ≡ fate.Committed n). never n (ap (λ (u : Started). u.fate) e.1 ∙ c))
        (λ (p : IsPast w.committer j n). let low = past_within k w.attempts w.committer h.commit j n h.under p in let at = e.0 in absurd (omega arith))
        m.1))
        (get_push w.attempts new j z m.0)

pub asked_kept : (k : Listing) (w : World) (a : TaskId) (i : ℕ) (y : Started) (o : Outcome) (ws : Known) → IsSound k → Holds k w → Stands k w a i y (Ends o ws) → w.committer ≡ None → o ≢ Retries → Agrees y.log (last_state w.history)
    → Holds k (record w { committer = Some (committing w i ws) })
asked_kept k w a i y o ws sound h stands none goes agrees = record {
  commit = h.commit;
  history = h.history;
  words = h.words;
  under = record {
    base = h.commit;
    before = before;
    number = number;
    rest = resting.1;
    are = subst (λ (v : State). AreChanges v cs) (sym lasts) (are_changes m (store ws m));
    phase = Locking (omega arith) record { history = refl; values = refl; versions = refl; locked = refl; storing = resting.1.settled.0; in_order = resting.1.in_order };
    done = refl;
    owner = y;
    was = stands.0.0;
    running = stands.0.2;
    explained = record {
      agrees = subst (Agrees y.log) (sym lasts) agrees;
      ended = (ws, stands.1 ∙ ap (λ (u : Outcome). Ends u ws) (sym ends.0 ∙ ap (outcome t) (sym lasts)));
      goes_on = λ e. goes (sym ends.0 ∙ (ap (outcome t) (sym lasts) ∙ e));
      leads = leads ∙ (sym ends.1 ∙ ap (after t) (sym lasts));
    };
  };
  states = h.states;
  begins = h.begins;
  reads = h.reads;
  loads = h.loads;
  alone = h.alone;
  numbered = λ j n z mk. h.numbered j n z (old j n z mk);
  made = λ n low high. let v = h.made n low high in (v.0, v.1, (v.2.0, ⊎_elim (λ (e : v.1.fate ≡ fate.Committed n). inl e) (λ (p : IsPast w.committer v.0 n). absurd (subst (λ (q : Option Committer). IsPast q v.0 n) none p)) v.2.1), v.3, λ j z mk. v.4 j z (old j n z mk));
}
  where
    t : Program
    t = task_program k y.task

    m : State
    m = last_state w.history

    cs : List Change
    cs = differences 0 m (store ws m)

    resting : (n : ℕ) × RestsAt h.commit n
    resting = subst (λ (q : Option Committer). Under k w.attempts q h.commit) none h.under

    before : ℕ
    before = resting.0

    same : length h.commit.history ≡ length w.history
    same = ap (λ (l : List State). length l) h.history

    number : length w.history ≡ before + 1
    number = let many = resting.1.counted in omega (arith, same)

    some : 0 < length w.history
    some = omega (arith, number)

    lasts : last_state h.commit.history ≡ m
    lasts = ap last_state h.history

    ends : (outcome t m ≡ o) × (after t m ≡ store ws m)
    ends = ends_as k sound y.task y.log ws o m (h.states (length w.history - 1) (omega (arith, some))) agrees stands.1

    leads : with_changes h.commit.values cs ≡ store ws m
    leads = ap (λ (v : State). with_changes v cs) (resting.1.settled.1 ∙ lasts) ∙ changes_lead m (store ws m) (length-store ws m)

    old : (j n : ℕ) (z : Started) → Makes (record w { committer = Some (committing w i ws) }) n j z → Makes w n j z
    old j n z mk = (mk.0, ⊎_elim (λ (e : z.fate ≡ fate.Committed n). inl e) (λ (p : (i ≡ j) × (length w.history ≡ n) × (2 * length cs < 0)). let l = p.2 in absurd (omega arith)) mk.1)
