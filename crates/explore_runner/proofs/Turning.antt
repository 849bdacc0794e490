-- A turn that is given is one among the orders.
use Rattle.std.proofs.Common.{◌≡◌, ◌≢◌, Bool, true, false, if◌then◌else◌, ◌⊎◌, ℕ, zero, suc, ◌+◌, ◌-◌, ◌<◌, ◌≤◌, List, [], ◌∷◌, ◌++◌, length, map, get_or, set, replicate, Option, Some, None, refl, sym, ◌∙◌, ap, subst, ⊎_elim, arith, length-append}
use Rattle.std.specs.List.{slice_get}
use Rattle.std.specs.Option.{option_map}
use Rattle.std.proofs.lemmas.List.{length-map, map-append, map-set, get_or-map, get_or-set_same, get_or-set_other, get_or_past}
use Rattle.std.proofs.lemmas.Option.{same_Some, slice_get_within, slice_get-map}
use Rattle.std.proofs.lemmas.Bool.{cases_eq, cases_lt}
use Rattle.txn_programs.specs.declared.arguments.Call.{Call}
use Rattle.txn_programs.specs.declared.ast.TaskId.{TaskId}
use Rattle.txn_programs.specs.declared.report.Entry.{Entry}
use Rattle.txn_programs.specs.Meaning.{State, outcome, after}
use Rattle.txn_programs.specs.Listing.{Listing, calls, tasks, task_program, call_program}
use Rattle.txn_programs.specs.Replay.{Snapshot, applied, opening}
use Rattle.txn_programs.specs.Tree.{Program}
use Rattle.book.specs.Tasks.{Task, Ready, Running, Parked, Done, GivenUp}
use Rattle.book.specs.declared.task.Serial.{Serial}
use Rattle.book.specs.declared.task.Serial.TheVariants as serial
use Rattle.book.specs.View.{BookView, committed, entry_of, woken, names_changed, opened}
use Rattle.book.specs.Turns.{Served, Taken}
use Rattle.explore_law.specs.declared.instance.InstanceId.{InstanceId}
use Rattle.explore_law.specs.Instances.{instances, instance_at, instance_program}
use Rattle.explore_law.specs.Orders.{HasTurn, turned, first_config, counted, count_at}
use Rattle.explore_law.proofs.Instances.{apart_numbers, instances_apart, instance_gets}
use Rattle.explore_runner.specs.Ends.{call_as}
use Rattle.explore_runner.specs.Giving.{entered_by, HasGiven, IsTaken, queue_at, Leaves, IsOf, AreOwn, IsGiving, config_of}
use Rattle.explore_runner.proofs.Leading.{call_of, instance_does, config, applied_as}
use Rattle.explore_runner.proofs.Whole.{task_call}
use Rattle.explore_runner.proofs.Queueing.{get_append_at, get_append_left}

get_set_same : {X : Type 0} (xs : List X) (i : ℕ) (old v : X) → slice_get xs i ≡ Some old → slice_get (set xs i v) i ≡ Some v
get_set_same [] i old v h = absurd (cc)
get_set_same (x ∷ xs) zero old v h = refl
get_set_same (x ∷ xs) (suc i) old v h = get_set_same xs i old v h

get_set_other : {X : Type 0} (xs : List X) (i k : ℕ) (v : X) → (k ≡ i → ⊥) → slice_get (set xs i v) k ≡ slice_get xs k
get_set_other [] i k v h = refl
get_set_other (x ∷ xs) zero zero v h = absurd (h refl)
get_set_other (x ∷ xs) zero (suc k) v h = refl
get_set_other (x ∷ xs) (suc i) zero v h = refl
get_set_other (x ∷ xs) (suc i) (suc k) v h = get_set_other xs i k v (λ e. h (ap suc e))

running_is_not_ready : Some Running ≡ Some Ready → ⊥
running_is_not_ready e = let bad : Running ≡ Ready = same_Some Running Ready e in cc

-- in which no task is given up
abbrev pub Kept : List Task → Type 0
Kept ts = (t : ℕ) → slice_get ts t ≢ Some GivenUp

kept_ready : (n t : ℕ) → slice_get (replicate n Ready) t ≡ Some GivenUp → ⊥
kept_ready zero t e = absurd (cc)
kept_ready (suc n) zero e = let bad : Ready ≡ GivenUp = same_Some Ready GivenUp e in cc
kept_ready (suc n) (suc t) e = kept_ready n t e

kept_set : (ts : List Task) (i : ℕ) (v : Task) → (v ≡ GivenUp → ⊥) → Kept ts → Kept (set ts i v)
kept_set [] i v other h t e = h t e
kept_set (x ∷ ts) zero v other h zero e = other (same_Some v GivenUp e)
kept_set (x ∷ ts) zero v other h (suc t) e = h (suc t) e
kept_set (x ∷ ts) (suc i) v other h zero e = h zero e
kept_set (x ∷ ts) (suc i) v other h (suc t) e = kept_set ts i v other (λ u. h (suc u)) t e

kept_woken : (old new : State) (x : Task) → woken old new x ≡ GivenUp → x ≡ GivenUp
kept_woken old new Ready e = e
kept_woken old new Running e = e
kept_woken old new (Parked log) e = by (names_changed old new log) e
  where
    by : (b : Bool) → (if b then Ready else Parked log) ≡ GivenUp → Parked log ≡ GivenUp
    by true e = absurd (cc)
    by false e = e
kept_woken old new (Done n) e = e
kept_woken old new GivenUp e = e

kept_map : (f : Task → Task) (ts : List Task) → ((x : Task) → f x ≡ GivenUp → x ≡ GivenUp) → Kept ts → Kept (map f ts)
kept_map f [] back h t e = h t e
kept_map f (x ∷ ts) back h zero e = h zero (ap Some (back x (same_Some (f x) GivenUp e)))
kept_map f (x ∷ ts) back h (suc t) e = kept_map f ts back (λ u. h (suc u)) t e

-- one more task is taken
pub taken_more : (l : Listing) (n : ℕ) (b c : BookView) (r : Option TaskId) → n < length (tasks l) → Taken b r c → IsTaken l n b → IsTaken l (n + 1) c
taken_more l n b c None low t h = absurd (t.0 n (h.ready n (omega arith) low))
taken_more l n b c (Some task) low t h =
    let k = task.0 in
    let here : k ≡ n =
    ⊎_elim (λ (less : k < n). absurd (running_is_not_ready (sym (h.running k less) ∙ t.0)))
    (λ (more : n ≤ k).
    ⊎_elim (λ (less : n < k). absurd (t.1 n less (h.ready n (omega arith) low))) (λ (le : k ≤ n). omega (arith, more, le)) (cases_lt n k))
    (cases_lt k n) in
    let new : c.tasks ≡ set b.tasks k Running = ap (λ (x : BookView). x.tasks) t.2 in
    record {
      catalogue = ap (λ (x : BookView). x.catalogue) t.2 ∙ h.catalogue;
      base = ap (λ (x : BookView). x.base) t.2 ∙ h.base;
      present = ap (λ (x : BookView). x.present) t.2 ∙ h.present;
      journal = ap (λ (x : BookView). x.journal) t.2 ∙ h.journal;
      running = λ u less.
          ap (λ (ts : List Task). slice_get ts u) new
          ∙ ⊎_elim (λ (same : u ≡ k). ap (slice_get (set b.tasks k Running)) same ∙ get_set_same b.tasks k Ready Running t.0)
          (λ (apart : u ≡ k → ⊥). get_set_other b.tasks k u Running apart ∙ h.running u (omega (arith, less, here, apart)))
          (cases_eq u k);
      ready = λ u le within.
          ap (λ (ts : List Task). slice_get ts u) new
          ∙ (get_set_other b.tasks k u Running (λ e. omega (arith, e, here, le)) ∙ h.ready u (omega (arith, le)) within);
      kept = subst Kept (sym new) (kept_set b.tasks k Running (λ e. cc) h.kept);
    }

get_replicate : {X : Type 0} (n k : ℕ) (x : X) → k < n → slice_get (replicate n x) k ≡ Some x
get_replicate zero k x low = absurd (omega (arith, low))
get_replicate (suc n) zero x low = refl
get_replicate (suc n) (suc k) x low = get_replicate n k x (omega (arith, low))

pub taken_none : (b : BookView) → b ≡ opened b.catalogue b.cells 0 → IsTaken b.catalogue 0 b
taken_none b e =
    record {
      catalogue = refl;
      base = ap (λ (x : BookView). x.base) e;
      present = ap (λ (x : BookView). x.present) e;
      journal = ap (λ (x : BookView). x.journal) e;
      running = λ t low. absurd (omega (arith, low));
      ready = λ t le low. ap (λ (x : BookView). slice_get x.tasks t) e ∙ get_replicate (length (tasks b.catalogue)) t Ready low;
      kept = λ t given. kept_ready (length (tasks b.catalogue)) t (sym (ap (λ (x : BookView). slice_get x.tasks t) e) ∙ given);
    }

-- when all are taken, each that is left is running
pub all_taken : (l : Listing) (b : BookView) (qs : List (List ℕ)) → IsTaken l (length (tasks l)) b → AreOwn l qs → IsGiving b qs
all_taken l b qs h own =
    record {
      base = h.base ∙ ap opening (sym h.catalogue);
      own = subst (λ (x : Listing). AreOwn x qs) (sym h.catalogue) own;
      running = λ k i t e. h.running t (let mine = own.own k i t e in omega (arith, slice_get_within (calls l) t mine.call mine.made, length-map (calls l) (λ (c : Call). c.tx)));
      kept = h.kept;
    }

pub begins : (l : Listing) (b : BookView) (qs : List (List ℕ)) (n : ℕ) → IsTaken l n b → map length qs ≡ counted l (calls l) → config_of b qs ≡ first_config l
begins l b qs n h counts = ap (λ (m : State). config m (map length qs)) (ap (λ (s : Snapshot). s.state) h.present) ∙ ap (config l.initial) counts

-- the book in which these turns were given, from the one in which all tasks were taken
pub has_given : (l : Listing) (n : ℕ) (first b : BookView) (qs : List (List ℕ)) (turns : List InstanceId) → IsTaken l n first → IsGiving b qs
    → entered_by first.catalogue b.journal ≡ entered_by first.catalogue first.journal ++ map (instance_at first.catalogue) turns → b.catalogue ≡ first.catalogue → HasGiven l turns b
has_given l n first b qs turns taken given entered same =
    let of : b.catalogue ≡ l = same ∙ taken.catalogue in
    let behind : entered_by l b.journal ≡ entered_by l first.journal ++ map (instance_at l) turns =
    subst (λ (x : Listing). entered_by x b.journal ≡ entered_by x first.journal ++ map (instance_at x) turns) taken.catalogue entered in
    record {
      catalogue = of;
      base = given.base ∙ ap opening of;
      entered = behind ∙ ap (λ (es : List Entry). entered_by l es ++ map (instance_at l) turns) taken.journal;
      kept = given.kept;
    }

abbrev instance : ℕ → InstanceId
instance n = record { 0 = n }

-- what is popped
module _ (b : BookView) (qs more : List (List ℕ)) (inst : InstanceId) (t : ℕ) (u : IsGiving b qs) (w : Leaves qs inst (Some t) more) where
  abbrev task : TaskId
  task = record { 0 = t }

  at_end : slice_get (queue_at qs inst.0) (length w.0) ≡ Some t
  at_end = ap (λ (q : List ℕ). slice_get q (length w.0)) w.1 ∙ get_append_at w.0 t

  pub popped_runs : slice_get b.tasks t ≡ Some Running
  popped_runs = u.running inst.0 (length w.0) t at_end

  mine : IsOf b.catalogue inst t
  mine = u.own.own inst.0 (length w.0) t at_end

  popped_call : call_of b.catalogue t ≡ mine.call
  popped_call = task_call b.catalogue t mine.call mine.made

  -- the task does what the instance does
  popped_does : task_program b.catalogue task ≡ instance_program b.catalogue inst
  popped_does =
      ap (λ (c : Call). call_program b.catalogue c.tx c.arguments) popped_call ∙ sym (instance_does b.catalogue inst mine.call mine.instance)

  -- where it has a turn, it commits
  pub commits : (r : Serial) (c : BookView) → HasTurn b.catalogue (config_of b qs) inst → Served b task r c → ((r ≡ serial.NotRunning) ⊎ (r ≡ serial.Parked)) → ⊥
  commits serial.NotRunning c turn s which = s.0 popped_runs
  commits serial.Parked c turn s which = turn.ends (ap (λ (x : Program). outcome x b.present.state) (sym popped_does) ∙ s.1)
  commits (serial.Committed n) c turn s which = ⊎_elim (λ (e : serial.Committed n ≡ serial.NotRunning). cc) (λ (e : serial.Committed n ≡ serial.Parked). cc) which
  commits serial.Abandoned c turn s which = ⊎_elim (λ (e : serial.Abandoned ≡ serial.NotRunning). cc) (λ (e : serial.Abandoned ≡ serial.Parked). cc) which

  still_queued : (k i v : ℕ) → slice_get (queue_at more k) i ≡ Some v → (slice_get (queue_at qs k) i ≡ Some v) × (v ≡ t → ⊥)
  still_queued k i v e =
      let moved : queue_at more k ≡ queue_at (set qs inst.0 w.0) k = ap (λ (x : List (List ℕ)). queue_at x k) w.2 in
      let e' : slice_get (queue_at (set qs inst.0 w.0) k) i ≡ Some v = ap (λ (q : List ℕ). slice_get q i) (sym moved) ∙ e in
      ⊎_elim
      (λ (same : k ≡ inst.0).
      ⊎_elim
      (λ (low : inst.0 < length qs).
      let in_rest : slice_get w.0 i ≡ Some v = ap (λ (q : List ℕ). slice_get q i) (sym (ap (queue_at (set qs inst.0 w.0)) same ∙ get_or-set_same qs inst.0 w.0 [] low)) ∙ e' in
      let before : slice_get (queue_at qs inst.0) i ≡ Some v = ap (λ (q : List ℕ). slice_get q i) w.1 ∙ get_append_left w.0 (t ∷ []) i v in_rest in (
        ap (λ (j : ℕ). slice_get (queue_at qs j) i) same ∙ before,
        λ is. let one : i ≡ length w.0 = u.own.once inst.0 i (length w.0) v before (at_end ∙ ap Some (sym is)) in omega (arith, one, slice_get_within w.0 i v in_rest),
      ))
      (λ (high : length qs ≤ inst.0).
      let empty : List ℕ = [] in
      let bad : slice_get empty (length w.0) ≡ Some t = ap (λ (q : List ℕ). slice_get q (length w.0)) (sym (get_or_past qs inst.0 [] high)) ∙ at_end in
      absurd (cc))
      (cases_lt inst.0 (length qs)))
      (λ (apart : k ≡ inst.0 → ⊥).
      let before : slice_get (queue_at qs k) i ≡ Some v = ap (λ (q : List ℕ). slice_get q i) (sym (get_or-set_other qs inst.0 k w.0 [] apart)) ∙ e' in (
        before,
        λ is.
            let a = u.own.own k i v before in
            let d : a.call ≡ mine.call = same_Some a.call mine.call (sym a.made ∙ (ap (slice_get (calls b.catalogue)) is ∙ mine.made)) in
            apart (apart_numbers (instances b.catalogue) k inst.0 mine.call (instances_apart b.catalogue) (a.instance ∙ ap Some d) mine.instance),
      ))
      (cases_eq k inst.0)

  committed_base : (committed b task).base ≡ b.base
  unfolding committed
  committed_base = refl

  committed_catalogue : (committed b task).catalogue ≡ b.catalogue
  unfolding committed
  committed_catalogue = refl

  committed_journal : (committed b task).journal ≡ b.journal ++ entry_of b task ∷ []
  unfolding committed
  committed_journal = refl

  committed_present : (committed b task).present ≡ applied b.catalogue (entry_of b task) b.present
  unfolding committed
  committed_present = refl

  abbrev new_state : State
  new_state = after (task_program b.catalogue task) b.present.state

  committed_tasks : (committed b task).tasks ≡ map (woken b.present.state new_state) (set b.tasks t (Done (b.present.number + 1)))
  unfolding committed
  committed_tasks = refl

  committed_runs : (v : ℕ) → (v ≡ t → ⊥) → slice_get b.tasks v ≡ Some Running → slice_get (committed b task).tasks v ≡ Some Running
  committed_runs v apart e =
      ap (λ (ts : List Task). slice_get ts v) committed_tasks
      ∙ (slice_get-map (woken b.present.state new_state) (set b.tasks t (Done (b.present.number + 1))) v
      ∙ ap (option_map (woken b.present.state new_state)) (get_set_other b.tasks t v (Done (b.present.number + 1)) apart ∙ e))

  committed_on : IsGiving (committed b task) more
  committed_on =
      record {
        base = committed_base ∙ (u.base ∙ ap opening (sym committed_catalogue));
        own = subst (λ (x : Listing). AreOwn x more) (sym committed_catalogue)
            (record {
              own = λ k i v e. u.own.own k i v (still_queued k i v e).0;
              once = λ k i j v p q. u.own.once k i j v (still_queued k i v p).0 (still_queued k j v q).0;
            });
        running = λ k i v e. let s = still_queued k i v e in committed_runs v s.1 (u.running k i v s.0);
        kept = subst Kept (sym committed_tasks)
            (kept_map (woken b.present.state new_state) (set b.tasks t (Done (b.present.number + 1))) (kept_woken b.present.state new_state)
            (kept_set b.tasks t (Done (b.present.number + 1)) (λ e. cc) u.kept));
      }

  committed_turned : inst.0 < length qs → config_of (committed b task) more ≡ turned b.catalogue (config_of b qs) inst
  committed_turned low =
      let state : (committed b task).present.state ≡ after (instance_program b.catalogue inst) b.present.state =
      ap (λ (s : Snapshot). s.state) committed_present
      ∙ (applied_as b.catalogue (entry_of b task) b.present ∙ ap (λ (x : Program). after x b.present.state) popped_does) in
      let count : get_or (map length qs) inst.0 0 ≡ length w.0 + 1 = get_or-map length qs inst.0 [] 0 low ∙ (ap length w.1 ∙ length-append w.0 (t ∷ [])) in
      let less : length w.0 ≡ count_at (map length qs) inst - 1 = omega (arith, count) in
      let left : map length more ≡ set (map length qs) inst.0 (count_at (map length qs) inst - 1) =
      ap (map length) w.2 ∙ (map-set length qs inst.0 w.0 ∙ ap (set (map length qs) inst.0) less) in
      ap (λ (m : State). config m (map length more)) state ∙ ap (config (after (instance_program b.catalogue inst) b.present.state)) left

  committed_entered : entered_by b.catalogue (committed b task).journal ≡ entered_by b.catalogue b.journal ++ instance_at b.catalogue inst ∷ []
  committed_entered =
      ap (entered_by b.catalogue) committed_journal
      ∙ (map-append (λ (e : Entry). call_as b.catalogue e.task e.tx) b.journal (entry_of b task ∷ [])
      ∙ ap (λ (c : Call). entered_by b.catalogue b.journal ++ c ∷ []) (popped_call ∙ sym (instance_gets b.catalogue inst mine.call mine.instance)))

  pub turn_on : (c : BookView) → c ≡ committed b task → IsGiving c more
  turn_on c is = subst (λ (x : BookView). IsGiving x more) (sym is) committed_on

  pub turn_turned : (c : BookView) → c ≡ committed b task → inst.0 < length qs → config_of c more ≡ turned b.catalogue (config_of b qs) inst
  turn_turned c is low = ap (λ (x : BookView). config_of x more) is ∙ committed_turned low

  pub turn_entered : (c : BookView) → c ≡ committed b task → entered_by b.catalogue c.journal ≡ entered_by b.catalogue b.journal ++ instance_at b.catalogue inst ∷ []
  turn_entered c is = ap (λ (x : BookView). entered_by b.catalogue x.journal) is ∙ committed_entered

-- an instance with tasks left has a queue
pub has_queue : (qs : List (List ℕ)) (inst : InstanceId) → 0 < count_at (map length qs) inst → inst.0 < length qs
has_queue qs inst some =
    ⊎_elim (λ (low : inst.0 < length qs). low)
    (λ (high : length qs ≤ inst.0). absurd (omega (arith, some, get_or_past (map length qs) inst.0 0 (omega (arith, high, length-map qs length)))))
    (cases_lt inst.0 (length qs))
