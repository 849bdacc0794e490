-- Where a whole report ends.
use Rattle.std.proofs.Common.{◌≡◌, ◌⊎◌, ℕ, zero, suc, ◌+◌, ◌<◌, List, [], ◌∷◌, ◌++◌, length, map, get_or, Some, refl, sym, ◌∙◌, ap, subst, ⊎_elim, arith, length-append, append_assoc, true}
use Rattle.std.specs.List.{slice_get, All, Contains, range_with_len}
use Rattle.std.proofs.lemmas.List.{length-map, map-append, append-nil}
use Rattle.std.proofs.lemmas.List.Elements.{All-head, All-tail}
use Rattle.std.proofs.lemmas.Option.{same_Some, get_or_from_slice_get}
use Rattle.std.proofs.lemmas.List.FromFn.{length-range_with_len}
use Rattle.txn_programs.specs.declared.arguments.Call.{Call}
use Rattle.txn_programs.specs.declared.ast.TxId.{TxId}
use Rattle.txn_programs.specs.declared.ast.TaskId.{TaskId}
use Rattle.txn_programs.specs.declared.ast.Outcome.TheVariants.{Retries}
use Rattle.txn_programs.specs.declared.report.Entry.{Entry}
use Rattle.txn_programs.specs.Meaning.{outcome}
use Rattle.txn_programs.specs.Names.{names_hold}
use Rattle.txn_programs.specs.Listing.{Listing, calls, tasks, call_program, program_as}
use Rattle.txn_programs.specs.Replay.{Snapshot, Replays, applied, opening, entered, Stands, Once}
use Rattle.txn_programs.specs.Told.{Told, base_of, now_of}
use Rattle.txn_programs.specs.Tree.{Program}
use Rattle.txn_programs.specs.LawfulReport.{LawfulReport, BaseReached, HasOwn, on_lines}
use Rattle.explore_law.specs.declared.instance.InstanceId.{InstanceId}
use Rattle.explore_law.specs.Orders.{first_config, Leads, Reached, IsEnd, counted, count_at}
use Rattle.explore_law.specs.declared.found.Found.{Found}
use Rattle.explore_law.specs.Explored.{Explored, end_config, end_configs}
use Rattle.explore_law.specs.Ways.{IsWayToEnd}
use Rattle.explore_runner.specs.Ends.{IsWhole, call_as, end_of, NobodyWaits, LeadsToEnd}
use Rattle.explore_runner.specs.Giving.{entered_by}
use Rattle.explore_runner.proofs.Counts.{place_of, counted_stands, stands_counted}
use Rattle.explore_runner.proofs.Shuffles.{counted_same, mapped_range, stands_range, stands_either, stands_within, once_append}
use Rattle.explore_runner.proofs.Leading.{call_of, calls_by, turns_of, entered_calls, listed_calls, instance_of_task, instance_does, leads_by}

replays_append : (l : Listing) (a b c : Snapshot) (xs ys : List Entry) → Replays l a xs b → Replays l b ys c → Replays l a (xs ++ ys) c
replays_append l a b c [] ys r s = subst (λ (z : Snapshot). Replays l z ys c) r s
replays_append l a b c (x ∷ xs) ys r s = (r.0, replays_append l (applied l x a) b c xs ys r.1 s)

applied_number : (l : Listing) (e : Entry) (s : Snapshot) → (applied l e s).number ≡ e.number
unfolding applied
applied_number l e s = refl

pub replays_number : (l : Listing) (a b : Snapshot) (xs : List Entry) → Replays l a xs b → b.number ≡ a.number + length xs
replays_number l a b [] r = ap (λ (z : Snapshot). z.number) r ∙ omega arith
replays_number l a b (x ∷ xs) r =
    let h : b.number ≡ (applied l x a).number + length xs = replays_number l (applied l x a) b xs r.1 in
    omega (arith, r.0.number, applied_number l x a, h)

-- the calls of the catalogue's tasks by their numbers
none : Call
none = record { tx = record { 0 = 0 }; arguments = [] }

call_got : (cs : List Call) (t : ℕ)
    → (let c : Call = record { tx = get_or (map (λ (c : Call). c.tx) cs) t (record { 0 = 0 }); arguments = get_or (map (λ (c : Call). c.arguments) cs) t [] } in c) ≡ get_or cs t none
unfolding none
call_got [] zero = refl
call_got [] (suc t) = refl
call_got (c ∷ cs) zero = refl
call_got (c ∷ cs) (suc t) = call_got cs t

-- a task's call, by its number
pub task_call : (l : Listing) (t : ℕ) (c : Call) → slice_get (calls l) t ≡ Some c → call_of l t ≡ c
task_call l t c e = call_got (calls l) t ∙ get_or_from_slice_get (calls l) t c none e

calls_got : (l : Listing) (ts : List ℕ) → map (call_of l) ts ≡ map (λ t. get_or (calls l) t none) ts
calls_got l [] = refl
calls_got l (t ∷ ts) = ap (λ c. c ∷ map (call_of l) ts) (call_got (calls l) t) ∙ ap (λ cs. get_or (calls l) t none ∷ cs) (calls_got l ts)

pub calls_numbered : (l : Listing) → map (call_of l) (range_with_len 0 (length (tasks l))) ≡ calls l
calls_numbered l =
    calls_got l (range_with_len 0 (length (tasks l)))
    ∙ (ap (λ n. map (λ t. get_or (calls l) t none) (range_with_len 0 n)) (length-map (calls l) (λ (c : Call). c.tx))
    ∙ mapped_range (calls l) (calls l) none 0 (λ i. let same : 0 + i ≡ i = omega arith in ap (λ k. get_or (calls l) k none) same))

-- all tasks, each once, count as the catalogue lists them
pub counted_all : (l : Listing) (xs : List ℕ) → Once xs → ((u : ℕ) → Stands xs u → u < length (tasks l)) → length xs ≡ length (tasks l) → counted l (map (call_of l) xs) ≡ counted l (calls l)
counted_all l xs once within size =
    let count = length (tasks l) in
    counted_same l (call_of l) xs (range_with_len 0 count) once
    (λ u on. stands_range 0 count u (omega arith) (let h = within u on in omega (arith, h)))
    (size ∙ sym (length-range_with_len 0 count))
    ∙ ap (counted l) (calls_numbered l)

abbrev ids : List (TaskId × TxId) → List ℕ
ids ps = map (λ (p : TaskId × TxId). p.0.0) ps

abbrev parked_by : Listing → Told → List Call
parked_by l r = calls_by l r.parked

-- entries that lead from the opening to the present, and with the parked tasks are all tasks
pub record Journey (l : Listing) (r : Told) : Type 0 where
  pub entries : List Entry
  pub replays : Replays l (opening l) entries (now_of r)
  pub once : Once (entered entries ++ ids r.parked)
  pub within : (u : ℕ) → Stands (entered entries ++ ids r.parked) u → u < length (tasks l)
  pub size : length entries + length r.parked ≡ length (tasks l)

module _ (l : Listing) (r : Told) (lawful : LawfulReport l r) (none : r.memory ≡ []) where
  lines : on_lines r ≡ entered r.entries ++ ids r.parked
  lines =
      ap (λ (ps : List (TaskId × TxId)). entered r.entries ++ (ids r.parked ++ ids ps)) none
      ∙ ap (λ (xs : List ℕ). entered r.entries ++ xs) (append-nil (ids r.parked))

  lines_once : Once (entered r.entries ++ ids r.parked)
  lines_once = subst Once lines lawful.once

  lines_within : (u : ℕ) → Stands (entered r.entries ++ ids r.parked) u → u < length (tasks l)
  lines_within u on =
      let n = length (tasks l) in
      ⊎_elim
      (λ (h : Stands (entered r.entries) u). stands_within (λ (e : Entry). e.task.0) n r.entries u (λ k d w. (lawful.fits.entries k d w).0) h)
      (λ (h : Stands (ids r.parked) u). stands_within (λ (p : TaskId × TxId). p.0.0) n r.parked u (λ k d w. (lawful.fits.parked k d w).0) h)
      (stands_either (entered r.entries) (ids r.parked) u on)

  -- of a report from the opening on, its entries
  from_opening : r.base ≡ 0 → Journey l r
  from_opening zero_is =
      record {
        entries = r.entries;
        replays = subst (λ (s : Snapshot). Replays l s r.entries (now_of r)) (lawful.from_opening zero_is) lawful.replays;
        once = lines_once;
        within = lines_within;
        size = omega (arith, lawful.accounted, zero_is, ap length none);
      }

  -- of a later one, those before it too
  from_past : BaseReached l r → Journey l r
  from_past h =
      let all : entered (h.past ++ r.entries) ≡ entered h.past ++ entered r.entries = map-append (λ (e : Entry). e.task.0) h.past r.entries in
      let parts : entered (h.past ++ r.entries) ++ ids r.parked ≡ entered h.past ++ (entered r.entries ++ ids r.parked) =
      ap (λ (xs : List ℕ). xs ++ ids r.parked) all ∙ append_assoc (entered h.past) (entered r.entries) (ids r.parked) in
      let number : r.base ≡ 0 + length h.past = replays_number l (opening l) (base_of r) h.past h.replays in
      let apart : (u : ℕ) → Stands (entered h.past) u → Stands (entered r.entries ++ ids r.parked) u → ⊥ =
      λ u a b. ((h.exactly u).0 a).1 (subst (λ (xs : List ℕ). Stands xs u) (sym lines) b) in
      record {
        entries = h.past ++ r.entries;
        replays = replays_append l (opening l) (base_of r) (now_of r) h.past r.entries h.replays lawful.replays;
        once = subst Once (sym parts) (once_append (entered h.past) (entered r.entries ++ ids r.parked) h.once lines_once apart);
        within = λ u on.
            ⊎_elim (λ (p : Stands (entered h.past) u). ((h.exactly u).0 p).0) (λ (p : Stands (entered r.entries ++ ids r.parked) u). lines_within u p)
            (stands_either (entered h.past) (entered r.entries ++ ids r.parked) u (subst (λ (xs : List ℕ). Stands xs u) parts on));
        size = omega (arith, lawful.accounted, number, ap length none, length-append h.past r.entries);
      }

  pub journey : (r.base ≡ 0) ⊎ BaseReached l r → Journey l r
  journey past = ⊎_elim from_opening from_past past

  -- by all entries the first configuration leads to the report's
  pub journey_leads : names_hold l ≡ true → (j : Journey l r) → Leads l (first_config l) (turns_of l j.entries) (end_of l r)
  journey_leads names j =
      let all = entered j.entries ++ ids r.parked in
      let size : length all ≡ length (tasks l) =
      length-append (entered j.entries) (ids r.parked)
      ∙ omega (arith, length-map j.entries (λ (e : Entry). e.task.0), length-map r.parked (λ (p : TaskId × TxId). p.0.0), j.size) in
      let parts : map (call_of l) all ≡ entered_by l j.entries ++ parked_by l r =
      map-append (call_of l) (entered j.entries) (ids r.parked)
      ∙ (ap (λ (cs : List Call). cs ++ map (call_of l) (ids r.parked)) (entered_calls l (opening l) j.entries (now_of r) j.replays)
      ∙ ap (λ (cs : List Call). entered_by l j.entries ++ cs) (listed_calls l r.parked lawful.parked_own)) in
      leads_by l (opening l) j.entries (now_of r) (first_config l) (parked_by l r) names j.replays refl
      (sym (counted_all l all j.once j.within size) ∙ ap (counted l) parts)

  -- of a report from the opening on, by its entries
  pub opening_leads : names_hold l ≡ true → r.base ≡ 0 → Leads l (first_config l) (turns_of l r.entries) (end_of l r)
  unfolding from_opening
  opening_leads names zero_is = journey_leads names (from_opening zero_is)

  -- a parked task retries
  abbrev Waits : TaskId × TxId → Type 0
  Waits p = outcome (program_as l p.0 p.1) (now_of r).state ≡ Retries

  parked_retries : (ps : List (TaskId × TxId)) (i : ℕ) (c : Call) → All Waits ps
      → slice_get (calls_by l ps) i ≡ Some c → outcome (call_program l c.tx c.arguments) (now_of r).state ≡ Retries
  parked_retries [] i c h e = absurd (cc)
  parked_retries (p ∷ ps) zero c h e =
      subst (λ (d : Call). outcome (call_program l d.tx d.arguments) (now_of r).state ≡ Retries) (same_Some (call_as l p.0 p.1) c e)
      (All-head Waits p ps h)
  parked_retries (p ∷ ps) (suc i) c h e = parked_retries ps i c (All-tail Waits p ps h) e

  -- and there no instance has a turn
  pub report_ends : IsEnd l (end_of l r)
  report_ends k turn =
      let on = counted_stands l (parked_by l r) k turn.left in
      turn.ends
      (ap (λ (t : Program). outcome t (now_of r).state) (instance_does l k on.call on.instance)
      ∙ parked_retries r.parked on.place on.call lawful.retries on.there)

  abbrev Own : TaskId × TxId → Type 0
  Own p = HasOwn l p.0 p.1

  none_parked : names_hold l ≡ true → (ps : List (TaskId × TxId)) → All Own ps → ((k : InstanceId) → count_at (counted l (calls_by l ps)) k ≡ 0) → ps ≡ []
  none_parked names [] h nobody = refl
  none_parked names (p ∷ ps) h nobody =
      let c = call_as l p.0 p.1 in
      let k = place_of l c in
      let at = instance_of_task l p.0 p.1 names (All-head Own p ps h) in
      absurd (omega (arith, nobody k, stands_counted l (calls_by l (p ∷ ps)) zero k c at refl))

  pub nobody_parked : names_hold l ≡ true → NobodyWaits (end_of l r) → r.parked ≡ []
  nobody_parked names nobody = none_parked names r.parked lawful.parked_own nobody

pub whole_reached : (l : Listing) (r : Told) → names_hold l ≡ true → IsWhole l r → Reached l (end_of l r)
whole_reached l r names h =
    let j = journey l r h.lawful h.none_stopped h.past in
    record { turns = turns_of l j.entries; leads = journey_leads l r h.lawful h.none_stopped names j }

pub whole_ends : (l : Listing) (r : Told) → names_hold l ≡ true → IsWhole l r → IsEnd l (end_of l r)
whole_ends l r names h = report_ends l r h.lawful h.none_stopped

pub whole_listed : (l : Listing) (f : Found) (r : Told) → names_hold l ≡ true → Explored l f → IsWhole l r → Contains (end_configs f) (end_of l r)
whole_listed l f r names found h = (found.ends (end_of l r)).1 (whole_reached l r names h, whole_ends l r names h)

pub whole_nobody : (l : Listing) (f : Found) (r : Told) → names_hold l ≡ true → Explored l f → All NobodyWaits (end_configs f) → IsWhole l r → r.parked ≡ []
whole_nobody l f r names found nobody h =
    let on = whole_listed l f r names found h in
    nobody_parked l r h.lawful h.none_stopped names (subst NobodyWaits on.2 (nobody on.0 (end_of l r) on.1))

mapped_at : {X Y : Type 0} (f : X → Y) (xs : List X) (i : ℕ) (x : X) → slice_get xs i ≡ Some x → (i < length (map f xs)) × ((d : Y) → get_or (map f xs) i d ≡ f x)
mapped_at f [] i x e = absurd (cc)
mapped_at f (y ∷ ys) zero x e = (omega arith, λ d. ap f (same_Some y x e))
mapped_at f (y ∷ ys) (suc i) x e = let h = mapped_at f ys i x e in (omega (arith, h.0), h.1)

pub way_leads : (l : Listing) (f : Found) (k : ℕ) (turns : List InstanceId) → Explored l f → IsWayToEnd l f k turns → LeadsToEnd l turns
way_leads l f k turns found w =
    let config = end_config w.end in
    let on = mapped_at end_config f.ends.items k w.end w.listed in
    record { config = config; leads = w.way.leads; last = ((found.ends config).0 (k, on.0, on.1 config)).1 }
