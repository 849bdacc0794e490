-- A report for each end: turns are given to tasks, the first that is left of each instance.
use Rattle.std.proofs.Common.{◌≡◌, ◌≢◌, ℕ, zero, suc, ◌+◌, ◌<◌, ◌≤◌, true, ℤ, List, [], ◌∷◌, ◌++◌, length, map, replicate, Some, refl, sym, ◌∙◌, ap, subst, arith, length-append}
use Rattle.std.specs.List.{slice_get, All, Contains, range_with_len}
use Rattle.std.proofs.lemmas.List.{length-map, map-append, append-nil, length-replicate}
use Rattle.std.proofs.lemmas.List.Elements.{All-nil, All-cons, All-head, All-tail}
use Rattle.std.proofs.lemmas.List.FromFn.{length-range_with_len}
use Rattle.std.proofs.lemmas.Option.{same_Some, slice_get_within, slice_get-get_or}
use Rattle.txn_programs.specs.declared.arguments.Call.{Call}
use Rattle.txn_programs.specs.declared.ast.TxId.{TxId}
use Rattle.txn_programs.specs.declared.ast.TaskId.{TaskId}
use Rattle.txn_programs.specs.declared.ast.Outcome.TheVariants.{Retries}
use Rattle.txn_programs.specs.declared.report.Entry.{Entry}
use Rattle.txn_programs.specs.Meaning.{State, outcome, after}
use Rattle.txn_programs.specs.Names.{names_hold}
use Rattle.txn_programs.specs.Standing.{Upholds}
use Rattle.txn_programs.specs.Listing.{Listing, tasks, task_arguments, transaction_at, call_program, program_as}
use Rattle.txn_programs.specs.Replay.{Snapshot, Applies, Replays, applied, opening, entered, Stands, Once}
use Rattle.txn_programs.specs.Told.{Told, snapshot_at, base_of, now_of}
use Rattle.txn_programs.proofs.Unwritten.{opening_begun, replays_begun, cells_begin}
use Rattle.txn_programs.specs.LawfulReport.{LawfulReport, FitsCatalogue, OutcomeKnown, Ascends, HasOwn}
use Rattle.txn_programs.specs.Limits.{most_tasks, limits_hold}
use Rattle.txn_programs.specs.Tree.{Program, Transaction}
use Rattle.txn_programs.specs.Instance.{instance_statement, instance_expression}
use Rattle.txn_programs.proofs.Lawful.{known_task, few_tasks}
use Rattle.txn_programs.proofs.Faults.{outcome_known}
use Rattle.explore_law.specs.declared.instance.InstanceId.{InstanceId}
use Rattle.explore_law.specs.Instances.{instances, instance_program}
use Rattle.explore_law.specs.Orders.{Config, first_config, turned, Leads, Reached, IsEnd, counted, count_at}
use Rattle.explore_law.specs.declared.found.Found.{Found}
use Rattle.explore_law.specs.Explored.{Explored, end_configs}
use Rattle.explore_runner.specs.Ends.{HasReport}
use Rattle.explore_runner.proofs.Counts.{place_of, counted_middle, counted_stands, stands_counted}
use Rattle.explore_runner.proofs.Shuffles.{split_at, stands_more, once_apart, once_cons, stands_right, range_stands}
use Rattle.explore_runner.proofs.Leading.{number, tx_of, call_of, calls_by, same_config, applied_state, turned_left, instance_of_task, instance_does, retries_or_not}
use Rattle.explore_runner.proofs.Whole.{replays_number, calls_numbered}
use Rattle.explore_runner.proofs.Sizes.{after_sized, versions_sized, versions_recent}

-- what is in its order without one
ascends_tail : (x : ℕ) (xs : List ℕ) → Ascends (x ∷ xs) → Ascends xs
ascends_tail x xs h i j s t less a b = h (suc i) (suc j) s t (omega (arith, less)) a b

ascends_cons : (x : ℕ) (xs : List ℕ) → ((u : ℕ) → Stands xs u → x < u) → Ascends xs → Ascends (x ∷ xs)
ascends_cons x xs first h i zero s t less a b = absurd (omega (arith, less))
ascends_cons x xs first h zero (suc j) s t less a b = let same : x ≡ s = same_Some x s a in omega (arith, same, first t (j, b))
ascends_cons x xs first h (suc i) (suc j) s t less a b = h i j s t (omega (arith, less)) a b

ascends_head : (x : ℕ) (xs : List ℕ) → Ascends (x ∷ xs) → (u : ℕ) → Stands xs u → x < u
ascends_head x xs h u on = h zero (suc on.0) x u (omega arith) refl on.1

ascends_without : (b a : List ℕ) (x : ℕ) → Ascends (b ++ x ∷ a) → Ascends (b ++ a)
ascends_without [] a x h = ascends_tail x a h
ascends_without (y ∷ b) a x h =
    ascends_cons y (b ++ a) (λ u on. ascends_head y (b ++ x ∷ a) h u (stands_more b a x u on)) (ascends_without b a x (ascends_tail y (b ++ x ∷ a) h))

ascends_range : (a n : ℕ) → Ascends (range_with_len a n)
ascends_range a zero = λ i j s t less p q. absurd (cc)
ascends_range a (suc n) =
    ascends_cons a (range_with_len (a + 1) n) (λ u on. let h = range_stands (a + 1) n u on in omega (arith, h.0)) (ascends_range (a + 1) n)

once_ascends : (xs : List ℕ) → Ascends xs → Once xs
once_ascends [] h = λ i j t p q. absurd (cc)
once_ascends (x ∷ xs) h =
    once_cons x xs (λ on. let less : x < x = ascends_head x xs h x on in omega (arith, less)) (once_ascends xs (ascends_tail x xs h))

get_mapped : {X Y : Type 0} (f : X → Y) (xs : List X) (i : ℕ) (y : Y) → slice_get (map f xs) i ≡ Some y → (x : X) × (slice_get xs i ≡ Some x) × (f x ≡ y)
get_mapped f [] i y e = absurd (cc)
get_mapped f (x ∷ xs) zero y e = (x, refl, same_Some (f x) y e)
get_mapped f (x ∷ xs) (suc i) y e = get_mapped f xs i y e

-- the snapshot's values and versions are those of the variables
pub record IsSound (l : Listing) (s : Snapshot) : Type 0 where
  pub values : length s.state ≡ length l.initial
  pub versions : length s.versions ≡ length l.initial
  pub recent : All (λ (v : ℕ). v ≤ s.number) s.versions

applied_sound : (l : Listing) (e : Entry) (s : Snapshot) → s.number ≤ e.number → IsSound l s → IsSound l (applied l e s)
unfolding applied
applied_sound l e s more h =
    let t = program_as l e.task e.tx in
    let size = after_sized t s.state in
    record {
      values = size ∙ h.values;
      versions = versions_sized e.number s.state (after t s.state) s.versions size (h.versions ∙ sym h.values) ∙ h.values;
      recent = versions_recent s.number e.number s.state (after t s.state) s.versions more h.recent;
    }

applied_number : (l : Listing) (e : Entry) (s : Snapshot) → (applied l e s).number ≡ e.number
unfolding applied
applied_number l e s = refl

-- tasks of these turns, and what is left
pub record Chosen (l : Listing) (s : Snapshot) (tasks_left : List ℕ) (turns : List InstanceId) (q : Config) : Type 0 where
  pub entries : List Entry
  pub now : Snapshot
  pub rest : List ℕ
  pub replays : Replays l s entries now
  pub sound : IsSound l now
  pub state : now.state ≡ q.state
  pub left : counted l (map (call_of l) rest) ≡ q.left
  pub once : Once (entered entries ++ rest)
  pub within : (u : ℕ) → Stands (entered entries ++ rest) u → Stands tasks_left u
  pub size : length entries + length rest ≡ length tasks_left
  pub ascends : Ascends rest
  pub numbers : now.number ≡ s.number + length entries

abbrev entry_of : Listing → Snapshot → ℕ → Entry
entry_of l s t = record { number = s.number + 1; task = number t; tx = tx_of l t; outcome = outcome (program_as l (number t) (tx_of l t)) s.state }

module _ (l : Listing) where
  -- each is a task of the catalogue
  abbrev AreTasks : List ℕ → Type 0
  AreTasks tasks_left = (u : ℕ) → Stands tasks_left u → u < length (tasks l)

  of_task : (t : ℕ) → t < length (tasks l) → slice_get (tasks l) t ≡ Some (tx_of l t)
  of_task t low = slice_get-get_or (tasks l) t (record { 0 = 0 }) low

  pub choose : (s : Snapshot) (tasks_left : List ℕ) (p : Config) (turns : List InstanceId) (q : Config) → IsSound l s → AreTasks tasks_left → Ascends tasks_left → p.state ≡ s.state
      → p.left ≡ counted l (map (call_of l) tasks_left) → Leads l p turns q → Chosen l s tasks_left turns q
  choose s tasks_left p [] q sound are asc state left leads =
      record {
        entries = [];
        now = s;
        rest = tasks_left;
        replays = refl;
        sound = sound;
        state = sym state ∙ ap (λ (x : Config). x.state) (sym leads);
        left = sym left ∙ ap (λ (x : Config). x.left) (sym leads);
        once = once_ascends tasks_left asc;
        within = λ u on. on;
        size = omega arith;
        ascends = asc;
        numbers = omega arith;
      }
  choose s tasks_left p (k ∷ turns) q sound are asc state left leads =
      let some : 0 < count_at (counted l (map (call_of l) tasks_left)) k = subst (λ (ns : List ℕ). 0 < count_at ns k) left leads.0.left in
      let at = counted_stands l (map (call_of l) tasks_left) k some in
      let found = get_mapped (call_of l) tasks_left at.place at.call at.there in
      let t = found.0 in
      let call = call_of l t in
      let instance : slice_get (instances l) k.0 ≡ Some call = at.instance ∙ ap Some (sym found.2) in
      let does : instance_program l k ≡ program_as l (number t) (tx_of l t) = instance_does l k call instance in
      let parts = split_at tasks_left at.place t found.1 in
      let b = parts.0 in
      let a = parts.1 in
      let low : t < length (tasks l) = are t (at.place, found.1) in
      let e = entry_of l s t in
      let apply : Applies l e s = record { number = refl; tx = of_task t low; outcome_is = refl; ends = λ h. leads.0.ends (ap (λ (x : Program). outcome x p.state) does ∙ (ap (outcome (program_as l (number t) (tx_of l t))) state ∙ h)) } in
      let mapped : map (call_of l) tasks_left ≡ map (call_of l) b ++ call ∷ map (call_of l) a = ap (map (call_of l)) parts.2 ∙ map-append (call_of l) b (t ∷ a) in
      let fewer : map (call_of l) b ++ map (call_of l) a ≡ map (call_of l) (b ++ a) = sym (map-append (call_of l) b a) in
      let first : p.left ≡ counted l (call ∷ map (call_of l) (b ++ a)) =
      left ∙ (ap (counted l) mapped ∙ (counted_middle l (map (call_of l) b) (map (call_of l) a) call ∙ ap (λ (cs : List Call). counted l (call ∷ cs)) fewer)) in
      let next : (turned l p k).state ≡ (applied l e s).state = ap (after (instance_program l k)) state ∙ sym (applied_state l e s k instance) in
      let after_left = turned_left l k call p (map (call_of l) (b ++ a)) instance first in
      let asc' : Ascends (b ++ t ∷ a) = subst Ascends parts.2 asc in
      let still : (u : ℕ) → Stands (b ++ a) u → Stands tasks_left u = λ u on. subst (λ (xs : List ℕ). Stands xs u) (sym parts.2) (stands_more b a t u on) in
      let c = choose (applied l e s) (b ++ a) (turned l p k) turns q (applied_sound l e s (omega arith) sound) (λ u on. are u (still u on)) (ascends_without b a t asc') next after_left leads.1 in
      let apart : Stands (b ++ a) t → ⊥ = once_apart b a t (once_ascends (b ++ t ∷ a) asc') in
      record {
        entries = e ∷ c.entries;
        now = c.now;
        rest = c.rest;
        replays = (apply, c.replays);
        sound = c.sound;
        state = c.state;
        left = c.left;
        once = once_cons t (entered c.entries ++ c.rest) (λ on. apart (c.within t on)) c.once;
        within = λ u on. first_or u t (entered c.entries ++ c.rest) (λ (x : ℕ). Stands tasks_left x) (at.place, found.1) (λ on'. still u (c.within u on')) on;
        size = omega (arith, c.size, ap length parts.2, length-append b (t ∷ a), length-append b a);
        ascends = c.ascends;
        numbers = omega (arith, c.numbers, applied_number l e s);
      }
    where
      first_or : (u t : ℕ) (xs : List ℕ) (P : ℕ → Type 0) → P t → (Stands xs u → P u) → Stands (t ∷ xs) u → P u
      first_or u t xs P here there (zero, e) = subst P (same_Some t u e) here
      first_or u t xs P here there (suc i, e) = there (i, e)

-- values beside their versions
abbrev paired : List ℤ → List ℕ → List (ℤ × ℕ)
paired [] ks = []
paired (x ∷ xs) [] = []
paired (x ∷ xs) (k ∷ ks) = (x, k) ∷ paired xs ks

paired_values : (xs : List ℤ) (ks : List ℕ) → length ks ≡ length xs → map (λ (v : ℤ × ℕ). v.0) (paired xs ks) ≡ xs
paired_values [] ks e = refl
paired_values (x ∷ xs) [] e = absurd (omega (arith, e))
paired_values (x ∷ xs) (k ∷ ks) e = ap (λ zs. x ∷ zs) (paired_values xs ks (omega (arith, e)))

paired_versions : (xs : List ℤ) (ks : List ℕ) → length ks ≡ length xs → map (λ (v : ℤ × ℕ). v.1) (paired xs ks) ≡ ks
paired_versions [] [] e = refl
paired_versions [] (k ∷ ks) e = absurd (omega (arith, e))
paired_versions (x ∷ xs) [] e = absurd (omega (arith, e))
paired_versions (x ∷ xs) (k ∷ ks) e = ap (λ zs. k ∷ zs) (paired_versions xs ks (omega (arith, e)))

paired_below : (m n : ℕ) (xs : List ℤ) (ks : List ℕ) → m ≤ n → All (λ (k : ℕ). k ≤ m) ks → All (λ (v : ℤ × ℕ). v.1 ≤ n) (paired xs ks)
paired_below m n [] ks le h = All-nil (λ (v : ℤ × ℕ). v.1 ≤ n)
paired_below m n (x ∷ xs) [] le h = All-nil (λ (v : ℤ × ℕ). v.1 ≤ n)
paired_below m n (x ∷ xs) (k ∷ ks) le h =
    let first : k ≤ m = All-head (λ (j : ℕ). j ≤ m) k ks h in
    All-cons (λ (v : ℤ × ℕ). v.1 ≤ n) (x, k) (paired xs ks) (omega (arith, first, le)) (paired_below m n xs ks le (All-tail (λ (j : ℕ). j ≤ m) k ks h))

zeros_below : (n k : ℕ) → All (λ (v : ℕ). v ≤ n) (replicate k 0)
zeros_below n zero = All-nil (λ (v : ℕ). v ≤ n)
zeros_below n (suc k) = All-cons (λ (v : ℕ). v ≤ n) 0 (replicate k 0) (omega arith) (zeros_below n k)

snapshot_told : (n : ℕ) (vars : List (ℤ × ℕ)) (s : Snapshot) → n ≡ s.number → map (λ v. v.0) vars ≡ s.state → map (λ v. v.1) vars ≡ s.versions → snapshot_at n vars ≡ s
snapshot_told n vars s a b c =
    let r : ℕ → State → List ℕ → Snapshot = λ x y z. record { number = x; state = y; versions = z } in
    ap (λ (x : ℕ). r x (map (λ v. v.0) vars) (map (λ v. v.1) vars)) a
    ∙ (ap (λ (y : State). r s.number y (map (λ v. v.1) vars)) b
    ∙ ap (λ (z : List ℕ). r s.number s.state z) c)

told_is : (s : Snapshot) → length s.versions ≡ length s.state → snapshot_at s.number (paired s.state s.versions) ≡ s
told_is s e = snapshot_told s.number (paired s.state s.versions) s refl (paired_values s.state s.versions e) (paired_versions s.state s.versions e)

abbrev Sound : Listing → ℕ → Entry → Type 0
Sound l most e =
    (e.number ≤ most) × (e.outcome ≢ Retries) × OutcomeKnown (length l.always) e.outcome × ((e.task.0 < length (tasks l)) × (e.tx.0 < length l.transactions))

-- a condition that the outcome of a call names is one of the listing's
call_known : (l : Listing) (tx : TxId) (given : List ℤ) (m : State) → OutcomeKnown (length l.always) (outcome (call_program l tx given) m)
call_known l tx given m =
    let t = transaction_at l tx in
    let called : Transaction = record t { body = instance_statement given t.body; result = instance_expression given t.result } in
    outcome_known (record l { transactions = called ∷ [] }) (record { 0 = 0 }) m

entries_sound : (l : Listing) (a b : Snapshot) (es : List Entry) (most : ℕ) → names_hold l ≡ true → Replays l a es b → b.number ≤ most → All (Sound l most) es
entries_sound l a b [] most names r le = All-nil (Sound l most)
entries_sound l a b (e ∷ es) most names r le =
    let n : b.number ≡ (applied l e a).number + length es = replays_number l (applied l e a) b es r.1 in
    let known = known_task l e.task.0 e.tx names r.0.tx in
    All-cons (Sound l most) e es
    (omega (arith, n, applied_number l e a, le), r.0.ends, subst (OutcomeKnown (length l.always)) (sym r.0.outcome_is) (call_known l e.tx (task_arguments l e.task) a.state), (slice_get_within (tasks l) e.task.0 e.tx r.0.tx, known))
    (entries_sound l (applied l e a) b es most names r.1 le)

abbrev pair : Listing → ℕ → TaskId × TxId
pair l t = (number t, tx_of l t)

pair_ids : (l : Listing) (ts : List ℕ) → map (λ (p : TaskId × TxId). p.0.0) (map (pair l) ts) ≡ ts
pair_ids l [] = refl
pair_ids l (t ∷ ts) = ap (λ xs. t ∷ xs) (pair_ids l ts)

pair_calls : (l : Listing) (ts : List ℕ) → calls_by l (map (pair l) ts) ≡ map (call_of l) ts
pair_calls l [] = refl
pair_calls l (t ∷ ts) = ap (λ cs. call_of l t ∷ cs) (pair_calls l ts)

all_pairs : (l : Listing) (P : TaskId × TxId → Type 0) (ts : List ℕ) → ((t : ℕ) → Stands ts t → P (pair l t)) → All P (map (pair l) ts)
all_pairs l P [] h = All-nil P
all_pairs l P (t ∷ ts) h = All-cons P (pair l t) (map (pair l) ts) (h t (zero, refl)) (all_pairs l P ts (λ u on. h u (suc on.0, on.1)))

mapped_get : {X Y : Type 0} (f : X → Y) (xs : List X) (i : ℕ) (x : X) → slice_get xs i ≡ Some x → slice_get (map f xs) i ≡ Some (f x)
mapped_get f [] i x e = absurd (cc)
mapped_get f (y ∷ ys) zero x e = ap (λ z. Some (f z)) (same_Some y x e)
mapped_get f (y ∷ ys) (suc i) x e = mapped_get f ys i x e

module _ (l : Listing) (names : names_hold l ≡ true) (limits : limits_hold l ≡ true) (upheld : Upholds l l.initial) (q : Config) (last : IsEnd l q) (turns : List InstanceId)
    (c : Chosen l (opening l) (range_with_len 0 (length (tasks l))) turns q) where
  abbrev none : List ℕ
  none = replicate (length l.initial) 0

  abbrev report : Told
  report =
      record {
        base = 0;
        base_vars = paired l.initial none;
        entries = c.entries;
        current = c.now.number;
        current_vars = paired c.now.state c.now.versions;
        parked = map (pair l) c.rest;
        memory = [];
      }

  zeros_size : length none ≡ length l.initial
  zeros_size = length-replicate (length l.initial) 0

  now_size : length c.now.versions ≡ length c.now.state
  now_size = c.sound.versions ∙ sym c.sound.values

  base_is : base_of report ≡ opening l
  base_is = told_is (opening l) zeros_size

  now_is : now_of report ≡ c.now
  now_is = told_is c.now now_size

  all_tasks : length c.entries + length c.rest ≡ length (tasks l)
  all_tasks = c.size ∙ length-range_with_len 0 (length (tasks l))

  few : c.now.number ≤ most_tasks
  few = omega (arith, c.numbers, all_tasks, few_tasks l limits)

  sound : All (Sound l most_tasks) c.entries
  sound = entries_sound l (opening l) c.now c.entries most_tasks names c.replays few

  rest_low : (t : ℕ) → Stands c.rest t → t < length (tasks l)
  rest_low t on =
      let h = range_stands 0 (length (tasks l)) t (c.within t (stands_right (entered c.entries) c.rest t on)) in
      omega (arith, h.1)

  rest_own : (t : ℕ) → Stands c.rest t → slice_get (tasks l) t ≡ Some (tx_of l t)
  rest_own t on = of_task l t (rest_low t on)

  rest_known : (t : ℕ) → Stands c.rest t → (tx_of l t).0 < length l.transactions
  rest_known t on = known_task l t (tx_of l t) names (rest_own t on)

  rest_waits : (t : ℕ) → Stands c.rest t → outcome (program_as l (number t) (tx_of l t)) c.now.state ≡ Retries
  rest_waits t on =
      let call = call_of l t in
      let k = place_of l call in
      let at = instance_of_task l (number t) (tx_of l t) names (rest_own t on) in
      let does : program_as l (number t) (tx_of l t) ≡ instance_program l k = sym (instance_does l k call at) in
      let many : 0 < count_at (counted l (map (call_of l) c.rest)) k =
      stands_counted l (map (call_of l) c.rest) on.0 k call at (mapped_get (call_of l) c.rest on.0 t on.1) in
      retries_or_not (outcome (program_as l (number t) (tx_of l t)) c.now.state) (λ go.
      last k (record {
        left = subst (λ (xs : List ℕ). 0 < count_at xs k) c.left many;
        ends = λ h. go (ap (λ (x : Program). outcome x c.now.state) does ∙ (ap (outcome (instance_program l k)) c.state ∙ h));
      }))

  fits : FitsCatalogue l report
  fits =
      record {
        base_vars = sym (length-map (paired l.initial none) (λ (v : ℤ × ℕ). v.0)) ∙ ap length (paired_values l.initial none zeros_size);
        current_vars =
            sym (length-map (paired c.now.state c.now.versions) (λ (v : ℤ × ℕ). v.0))
            ∙ (ap length (paired_values c.now.state c.now.versions now_size) ∙ c.sound.values);
        base = omega arith;
        current = few;
        base_versions = paired_below 0 most_tasks l.initial none (omega arith) (zeros_below 0 (length l.initial));
        current_versions = paired_below c.now.number most_tasks c.now.state c.now.versions few c.sound.recent;
        base_cells = cells_begin l 0 (paired l.initial none) (opening l) base_is (opening_begun l);
        current_cells =
            cells_begin l c.now.number (paired c.now.state c.now.versions) c.now now_is (replays_begun l (opening l) c.now c.entries c.replays (opening_begun l));
        numbers = λ k d w. (sound k d w).0;
        ends = λ k d w. (sound k d w).1;
        faults = λ k d w. (sound k d w).2;
        entries = λ k d w. (sound k d w).3;
        parked = all_pairs l (λ p. (p.0.0 < length (tasks l)) × (p.1.0 < length l.transactions)) c.rest (λ t on. (rest_low t on, rest_known t on));
        memory = All-nil (λ (p : TaskId × TxId). (p.0.0 < length (tasks l)) × (p.1.0 < length l.transactions));
      }

  lawful : LawfulReport l report
  lawful =
      record {
        fits = fits;
        replays =
            subst (λ (s : Snapshot). Replays l s c.entries (now_of report)) (sym base_is)
            (subst (λ (s : Snapshot). Replays l (opening l) c.entries s) (sym now_is) c.replays);
        base_versions = paired_below 0 0 l.initial none (omega arith) (zeros_below 0 (length l.initial));
        from_opening = λ e. base_is;
        upheld = subst (λ (s : Snapshot). Upholds l s.state) (sym base_is) upheld;
        parked_own = all_pairs l (λ p. HasOwn l p.0 p.1) c.rest rest_own;
        memory_own = All-nil (λ (p : TaskId × TxId). HasOwn l p.0 p.1);
        once =
            subst (λ (xs : List ℕ). Once (entered c.entries ++ xs)) (sym (append-nil (map (λ (p : TaskId × TxId). p.0.0) (map (pair l) c.rest)) ∙ pair_ids l c.rest)) c.once;
        parked_ascend = subst Ascends (sym (pair_ids l c.rest)) c.ascends;
        memory_ascend = λ i j s t less a b. absurd (cc);
        accounted = omega (arith, all_tasks, length-map c.rest (pair l));
        retries =
            all_pairs l (λ p. outcome (program_as l p.0 p.1) (now_of report).state ≡ Retries) c.rest
            (λ t on. ap (λ (s : Snapshot). outcome (program_as l (number t) (tx_of l t)) s.state) now_is ∙ rest_waits t on);
      }

  pub made : HasReport l q
  made =
      record {
        report = report;
        ends = record {
          lawful = lawful;
          opens = refl;
          none_stopped = refl;
          config = same_config q (now_of report).state (counted l (calls_by l report.parked))
              (sym (ap (λ (s : Snapshot). s.state) now_is ∙ c.state)) (sym (ap (counted l) (pair_calls l c.rest) ∙ c.left));
        };
      }

pub end_has_report : (l : Listing) (p : Config) → names_hold l ≡ true → limits_hold l ≡ true → Upholds l l.initial → Reached l p → IsEnd l p → HasReport l p
end_has_report l p names limits upheld reached last =
    let n = length (tasks l) in
    let start : IsSound l (opening l) =
    record {
      values = refl;
      versions = length-replicate (length l.initial) 0;
      recent = zeros_below 0 (length l.initial);
    } in
    let chosen : Chosen l (opening l) (range_with_len 0 n) reached.turns p =
    choose l (opening l) (range_with_len 0 n) (first_config l) reached.turns p start (λ u on. let h = range_stands 0 n u on in omega (arith, h.1)) (ascends_range 0 n) refl
    (ap (counted l) (sym (calls_numbered l))) reached.leads in
    made l names limits upheld p last reached.turns chosen

pub listed_has_report : (l : Listing) (f : Found) (p : Config) → names_hold l ≡ true → limits_hold l ≡ true → Upholds l l.initial → Explored l f → Contains (end_configs f) p → HasReport l p
listed_has_report l f p names limits upheld found on =
    let h = (found.ends p).0 on in
    end_has_report l p names limits upheld h.0 h.1
