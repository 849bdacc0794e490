-- What is sought shows in the report of a run that stops behind the turns to it.
use Rattle.std.proofs.Common.{◌≡◌, ◌≢◌, ◌⊎◌, ℕ, zero, suc, ◌-◌, ◌<◌, true, List, [], ◌∷◌, ◌++◌, length, map, Some, refl, sym, ◌∙◌, ap, subst, inl, inr, ⊎_elim, arith, length-append}
use Rattle.std.specs.List.{slice_get, All}
use Rattle.std.proofs.lemmas.List.{length-map, length-set, map-append, append-nil}
use Rattle.std.proofs.lemmas.List.Elements.{All-head, All-tail}
use Rattle.std.proofs.lemmas.Option.{same_Some, slice_get_within, get_or_from_slice_get, slice_get-get_or}
use Rattle.txn_programs.specs.declared.arguments.Call.{Call}
use Rattle.txn_programs.specs.declared.ast.TxId.{TxId}
use Rattle.txn_programs.specs.declared.ast.TaskId.{TaskId}
use Rattle.txn_programs.specs.declared.ast.Outcome.{Outcome}
use Rattle.txn_programs.specs.declared.ast.Outcome.TheVariants.{Retries}
use Rattle.txn_programs.specs.declared.report.Entry.{Entry}
use Rattle.txn_programs.specs.Meaning.{outcome, after}
use Rattle.txn_programs.specs.Names.{names_hold}
use Rattle.txn_programs.specs.Listing.{Listing, calls, tasks, call_program}
use Rattle.txn_programs.specs.Replay.{Snapshot, Replays, applied, opening, entered, Stands}
use Rattle.txn_programs.specs.Told.{Told, now_of}
use Rattle.txn_programs.specs.LawfulReport.{LawfulReport, on_lines}
use Rattle.txn_programs.specs.Tree.{Program}
use Rattle.explore_law.specs.declared.sought.Sought.{Sought}
use Rattle.explore_law.specs.declared.sought.Sought.TheVariants.{Returned, Threw, Overflow, ZeroDiv, Broke, Parks, Outside}
use Rattle.explore_law.specs.declared.instance.InstanceId.{InstanceId}
use Rattle.explore_law.specs.Instances.{instances, instance_at, instance_program}
use Rattle.explore_law.specs.Finding.{IsSought, ShowsBy}
use Rattle.explore_law.specs.Orders.{Config, first_config, HasTurn, turned, Leads, counted, count_at}
use Rattle.explore_law.proofs.Instances.{instance_gets, length-counted}
use Rattle.explore_search.proofs.Whole.{turn_known}
use Rattle.explore_runner.specs.Ends.{call_as}
use Rattle.explore_runner.specs.Giving.{GoesSomewhere, entered_by}
use Rattle.explore_runner.specs.Stopping.{StopsAfter, EndsWith, HasParked, ShowsIn, turns_to}
use Rattle.explore_runner.proofs.Counts.{counted_stands}
use Rattle.explore_runner.proofs.Shuffles.{stands_either, stands_within}
use Rattle.explore_runner.proofs.Leading.{call_of, calls_by, config, applied_state, entered_calls, listed_calls, turns_of, turns_are, instance_does, leads_by, leads_once}
use Rattle.explore_runner.proofs.Whole.{counted_all}

abbrev ids : List (TaskId × TxId) → List ℕ
ids ps = map (λ (p : TaskId × TxId). p.0.0) ps

-- where the entries of a report lead, with the tasks that its other lines name left
module _ (l : Listing) (r : Told) (names : names_hold l ≡ true) (lawful : LawfulReport l r) (opens : r.base ≡ 0) where
  lines_within : (u : ℕ) → Stands (on_lines r) u → u < length (tasks l)
  lines_within u on =
      let n = length (tasks l) in
      ⊎_elim
      (λ (h : Stands (entered r.entries) u). stands_within (λ (e : Entry). e.task.0) n r.entries u (λ k d w. (lawful.fits.entries k d w).0) h)
      (λ (h : Stands (ids r.parked ++ ids r.memory) u).
      ⊎_elim
      (λ (g : Stands (ids r.parked) u). stands_within (λ (p : TaskId × TxId). p.0.0) n r.parked u (λ k d w. (lawful.fits.parked k d w).0) g)
      (λ (g : Stands (ids r.memory) u). stands_within (λ (p : TaskId × TxId). p.0.0) n r.memory u (λ k d w. (lawful.fits.memory k d w).0) g)
      (stands_either (ids r.parked) (ids r.memory) u h))
      (stands_either (entered r.entries) (ids r.parked ++ ids r.memory) u on)

  from_opening : Replays l (opening l) r.entries (now_of r)
  from_opening = subst (λ (s : Snapshot). Replays l s r.entries (now_of r)) (lawful.from_opening opens) lawful.replays

  pub stopped_leads : Leads l (first_config l) (turns_of l r.entries) (config (now_of r).state (counted l (calls_by l r.parked ++ calls_by l r.memory)))
  stopped_leads =
      let rest = ids r.parked ++ ids r.memory in
      let size : length (on_lines r) ≡ length (tasks l) =
      length-append (entered r.entries) rest
      ∙ omega (
        arith,
        length-map r.entries (λ (e : Entry). e.task.0),
        length-append (ids r.parked) (ids r.memory),
        length-map r.parked (λ (p : TaskId × TxId). p.0.0),
        length-map r.memory (λ (p : TaskId × TxId). p.0.0),
        lawful.accounted,
        opens,
      ) in
      let left : map (call_of l) rest ≡ calls_by l r.parked ++ calls_by l r.memory =
      map-append (call_of l) (ids r.parked) (ids r.memory)
      ∙ (ap (λ (cs : List Call). cs ++ map (call_of l) (ids r.memory)) (listed_calls l r.parked lawful.parked_own)
      ∙ ap (λ (cs : List Call). calls_by l r.parked ++ cs) (listed_calls l r.memory lawful.memory_own)) in
      let parts : map (call_of l) (on_lines r) ≡ entered_by l r.entries ++ (calls_by l r.parked ++ calls_by l r.memory) =
      map-append (call_of l) (entered r.entries) rest
      ∙ (ap (λ (cs : List Call). cs ++ map (call_of l) rest) (entered_calls l (opening l) r.entries (now_of r) from_opening)
      ∙ ap (λ (cs : List Call). entered_by l r.entries ++ cs) left) in
      leads_by l (opening l) r.entries (now_of r) (first_config l) (calls_by l r.parked ++ calls_by l r.memory) names from_opening refl
      (sym (counted_all l (on_lines r) lawful.once lines_within size) ∙ ap (counted l) parts)

-- an entry is the last
pub record LastOf (l : Listing) (es : List Entry) (c : Call) (o : Outcome) : Type 0 where
  pub before : List Entry
  pub last : Entry
  pub entries : es ≡ before ++ last ∷ []
  pub own : call_as l last.task last.tx ≡ c
  pub ends : last.outcome ≡ o

last_behind : (l : Listing) (e : Entry) (es : List Entry) (c : Call) (o : Outcome) → LastOf l es c o → LastOf l (e ∷ es) c o
last_behind l e es c o h =
    record {
      before = e ∷ h.before;
      last = h.last;
      entries = ap (λ (xs : List Entry). e ∷ xs) h.entries;
      own = h.own;
      ends = h.ends;
    }

none_left : (l : Listing) (es : List Entry) → entered_by l es ≡ [] → es ≡ []
none_left l [] e = refl
none_left l (x ∷ es) e = absurd (cc)

same_first : (x y : Call) (xs ys : List Call) → x ∷ xs ≡ y ∷ ys → (x ≡ y) × (xs ≡ ys)
same_first x y xs ys e = (same_Some x y (ap (λ (cs : List Call). slice_get cs 0) e), cc)

no_more : (c : Call) (cs : List Call) → [] ≡ cs ++ c ∷ [] → ⊥
no_more c [] e = cc
no_more c (d ∷ cs) e = cc

-- the instance of a turn
turn_at : (l : Listing) (p : Config) (k : InstanceId) → length p.left ≡ length (instances l) → HasTurn l p k → slice_get (instances l) k.0 ≡ Some (instance_at l k)
turn_at l p k size turn =
    slice_get-get_or (instances l) k.0 (record { tx = record { 0 = 0 }; arguments = [] }) (omega (arith, size, turn_known l p k turn))

-- the last of these turns is the last entry, and ends as its call does where the turns before it lead
pub last_turn : (l : Listing) (s now : Snapshot) (es : List Entry) (turns : List InstanceId) (c : Call) (p q : Config) → Replays l s es now
    → entered_by l es ≡ map (instance_at l) turns ++ c ∷ [] → p.state ≡ s.state → length p.left ≡ length (instances l)
    → Leads l p turns q → LastOf l es c (outcome (call_program l c.tx c.arguments) q.state)
last_turn l s now [] turns c p q r is state size leads = absurd (no_more c (map (instance_at l) turns) is)
last_turn l s now (e ∷ es) [] c p q r is state size leads =
    let parts = same_first (call_as l e.task e.tx) c (entered_by l es) [] is in
    let none : es ≡ [] = none_left l es parts.1 in
    record {
      before = [];
      last = e;
      entries = ap (λ (xs : List Entry). e ∷ xs) none;
      own = parts.0;
      ends = r.0.outcome_is
          ∙ (ap (λ (d : Call). outcome (call_program l d.tx d.arguments) s.state) parts.0
          ∙ ap (outcome (call_program l c.tx c.arguments)) (sym state ∙ ap (λ (x : Config). x.state) (sym leads)));
    }
last_turn l s now (e ∷ es) (k ∷ turns) c p q r is state size leads =
    let parts = same_first (call_as l e.task e.tx) (instance_at l k) (entered_by l es) (map (instance_at l) turns ++ c ∷ []) is in
    let at : slice_get (instances l) k.0 ≡ Some (call_as l e.task e.tx) = turn_at l p k size leads.0 ∙ ap Some (sym parts.0) in
    let next : (turned l p k).state ≡ (applied l e s).state = ap (after (instance_program l k)) state ∙ sym (applied_state l e s k at) in
    let sized = length-set p.left k.0 (count_at p.left k - 1) ∙ size in
    last_behind l e es c (outcome (call_program l c.tx c.arguments) q.state) (last_turn l (applied l e s) now es turns c (turned l p k) q r.1 parts.1 next sized leads.1)

get_either : {X : Type 0} (xs ys : List X) (i : ℕ) (x : X) → slice_get (xs ++ ys) i ≡ Some x → ((j : ℕ) × (slice_get xs j ≡ Some x)) ⊎ ((j : ℕ) × (slice_get ys j ≡ Some x))
get_either [] ys i x e = inr (i, e)
get_either (z ∷ xs) ys zero x e = inl (zero, e)
get_either (z ∷ xs) ys (suc i) x e =
    ⊎_elim (λ (h : (j : ℕ) × (slice_get xs j ≡ Some x)). inl (suc h.0, h.1)) (λ (h : (j : ℕ) × (slice_get ys j ≡ Some x)). inr h) (get_either xs ys i x e)

all_by : (l : Listing) (P : Call → Type 0) (ps : List (TaskId × TxId)) (i : ℕ) (c : Call) → All (λ (p : TaskId × TxId). P (call_as l p.0 p.1)) ps → slice_get (calls_by l ps) i ≡ Some c → P c
all_by l P [] i c h e = absurd (cc)
all_by l P (p ∷ ps) zero c h e = subst P (same_Some (call_as l p.0 p.1) c e) (All-head (λ (q : TaskId × TxId). P (call_as l q.0 q.1)) p ps h)
all_by l P (p ∷ ps) (suc i) c h e = all_by l P ps i c (All-tail (λ (q : TaskId × TxId). P (call_as l q.0 q.1)) p ps h) e

-- a task whose call is listed is of its transaction
parked_tx : (l : Listing) (ps : List (TaskId × TxId)) (i : ℕ) (c : Call) → slice_get (calls_by l ps) i ≡ Some c → slice_get (map (λ (p : TaskId × TxId). p.1) ps) i ≡ Some c.tx
parked_tx l [] i c e = absurd (cc)
parked_tx l (p ∷ ps) zero c e = ap (λ (d : Call). Some d.tx) (same_Some (call_as l p.0 p.1) c e)
parked_tx l (p ∷ ps) (suc i) c e = parked_tx l ps i c e

abbrev by : List (TaskId × TxId) → List TxId
by ps = map (λ (p : TaskId × TxId). p.1) ps

module _ (l : Listing) (r : Told) (names : names_hold l ≡ true) (tx : TxId) (k : InstanceId) (own : (instance_at l k).tx ≡ tx) where
  -- the instance of a task
  its_tx : (c : Call) → slice_get (instances l) k.0 ≡ Some c → c.tx ≡ tx
  its_tx c e = ap (λ (d : Call). d.tx) (sym (instance_gets l k c e)) ∙ own

  -- a task that is left, and retries, is parked
  pub parked_there : (turns : List InstanceId) (p : Config) → StopsAfter l turns r → Leads l (first_config l) turns p → 0 < count_at p.left k → outcome (instance_program l k) p.state ≡ Retries → HasParked tx r
  parked_there turns p h leads some retries =
      let rest = calls_by l r.parked ++ calls_by l r.memory in
      let left = counted l rest in
      let same_way : turns_of l r.entries ≡ turns = turns_are l r.entries turns [] p leads (h.entered ∙ sym (append-nil (map (instance_at l) turns))) ∙ append-nil turns in
      let whole : Leads l (first_config l) turns (config (now_of r).state left) =
      subst (λ (ks : List InstanceId). Leads l (first_config l) ks (config (now_of r).state left)) same_way (stopped_leads l r names h.lawful h.opens) in
      let same : p ≡ config (now_of r).state left = leads_once l (first_config l) turns p (config (now_of r).state left) leads whole in
      let many : 0 < count_at left k = subst (λ (x : Config). 0 < count_at x.left k) same some in
      let at = counted_stands l rest k many in
      let c = at.call in
      let waits : outcome (call_program l c.tx c.arguments) (now_of r).state ≡ Retries =
      ap (λ (t : Program). outcome t (now_of r).state) (sym (instance_does l k c at.instance)) ∙ subst (λ (x : Config). outcome (instance_program l k) x.state ≡ Retries) same retries in
      let mine = its_tx c at.instance in
      ⊎_elim
      (λ (g : (j : ℕ) × (slice_get (calls_by l r.parked) j ≡ Some c)).
      let there : slice_get (by r.parked) g.0 ≡ Some tx = parked_tx l r.parked g.0 c g.1 ∙ ap Some mine in
      (g.0, slice_get_within (by r.parked) g.0 tx there, get_or_from_slice_get (by r.parked) g.0 tx tx there))
      (λ (g : (j : ℕ) × (slice_get (calls_by l r.memory) j ≡ Some c)).
      absurd (all_by l (λ (d : Call). outcome (call_program l d.tx d.arguments) (now_of r).state ≢ Retries) r.memory g.0 c h.given_up g.1 waits))
      (get_either (calls_by l r.parked) (calls_by l r.memory) at.place c at.there)

  -- the turn that is sought is the last entry
  pub last_there : (s : Sought) (turns : List InstanceId) (p : Config) → StopsAfter l (turns ++ k ∷ []) r → Leads l (first_config l) turns p → IsSought s (outcome (instance_program l k) p.state) → EndsWith tx s r
  last_there s turns p h leads sought =
      let c = instance_at l k in
      let w = last_turn l (opening l) (now_of r) r.entries turns c (first_config l) p (from_opening l r names h.lawful h.opens)
      (h.entered ∙ map-append (instance_at l) turns (k ∷ [])) refl (length-counted l (calls l)) leads in
      record { before = w.before; last = w.last; entries = w.entries; own = ap (λ (d : Call). d.tx) w.own ∙ own; sought = subst (IsSought s) (sym w.ends) sought }

  pub shows_there : (s : Sought) (turns : List InstanceId) (p : Config) → StopsAfter l (turns_to k s turns) r → Leads l (first_config l) turns p → ShowsBy l k s p → ShowsIn tx s r
  shows_there (Returned w) turns p h leads shows = last_there (Returned w) turns p h leads shows.sought
  shows_there (Threw w) turns p h leads shows = last_there (Threw w) turns p h leads shows.sought
  shows_there Overflow turns p h leads shows = last_there Overflow turns p h leads shows.sought
  shows_there ZeroDiv turns p h leads shows = last_there ZeroDiv turns p h leads shows.sought
  shows_there Outside turns p h leads shows = last_there Outside turns p h leads shows.sought
  shows_there (Broke w) turns p h leads shows = last_there (Broke w) turns p h leads shows.sought
  shows_there Parks turns p h leads shows = parked_there turns p h leads shows.left shows.sought

leads_more : (l : Listing) (p : Config) (ks : List InstanceId) (q : Config) (k : InstanceId) → Leads l p ks q → HasTurn l q k → Leads l p (ks ++ k ∷ []) (turned l q k)
leads_more l p [] q k e turn = (subst (λ (r : Config). HasTurn l r k) e turn, ap (λ (r : Config). turned l r k) e)
leads_more l p (m ∷ ks) q k h turn = (h.0, leads_more l (turned l p m) ks q k h.1 turn)

turn_goes : (l : Listing) (k : InstanceId) (turns : List InstanceId) (p : Config) → Leads l (first_config l) turns p → HasTurn l p k → GoesSomewhere l (first_config l) (turns ++ k ∷ [])
turn_goes l k turns p leads turn = (turned l p k, leads_more l (first_config l) turns p k leads turn)

-- where it shows, the turns go on
pub goes_there : (l : Listing) (k : InstanceId) (s : Sought) (turns : List InstanceId) (p : Config) → Leads l (first_config l) turns p → ShowsBy l k s p → GoesSomewhere l (first_config l) (turns_to k s turns)
goes_there l k (Returned w) turns p leads shows = turn_goes l k turns p leads (record { left = shows.left; ends = λ e. let is = shows.sought.1 in cc })
goes_there l k (Threw w) turns p leads shows = turn_goes l k turns p leads (record { left = shows.left; ends = λ e. let is = shows.sought.1 in cc })
goes_there l k Overflow turns p leads shows = turn_goes l k turns p leads (record { left = shows.left; ends = λ e. let is = shows.sought in cc })
goes_there l k ZeroDiv turns p leads shows = turn_goes l k turns p leads (record { left = shows.left; ends = λ e. let is = shows.sought in cc })
goes_there l k Outside turns p leads shows = turn_goes l k turns p leads (record { left = shows.left; ends = λ e. let is = shows.sought in cc })
goes_there l k (Broke w) turns p leads shows = turn_goes l k turns p leads (record { left = shows.left; ends = λ e. let is = shows.sought.1 in cc })
goes_there l k Parks turns p leads shows = (p, leads)
