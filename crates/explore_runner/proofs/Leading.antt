-- A journal that is replayed is a way through the configurations.
use Rattle.std.proofs.Common.{◌≡◌, ◌≢◌, ℕ, ◌-◌, ◌<◌, true, List, [], ◌∷◌, ◌++◌, length, map, set, Some, refl, sym, ◌∙◌, ap, subst, arith}
use Rattle.std.specs.List.{slice_get, All}
use Rattle.std.proofs.lemmas.List.{length-set, map-append}
use Rattle.std.proofs.lemmas.List.Elements.{All-head, All-tail}
use Rattle.std.proofs.lemmas.Option.{get_or_from_slice_get, slice_get-get_or}
use Rattle.txn_programs.specs.declared.arguments.Call.{Call}
use Rattle.txn_programs.specs.declared.ast.TxId.{TxId}
use Rattle.txn_programs.specs.declared.ast.TaskId.{TaskId}
use Rattle.txn_programs.specs.declared.ast.Outcome.{Outcome}
use Rattle.txn_programs.specs.declared.ast.Outcome.TheVariants.{Returned, Thrown, Retries}
use Rattle.txn_programs.specs.declared.report.Entry.{Entry}
use Rattle.txn_programs.specs.Meaning.{State, outcome, after}
use Rattle.txn_programs.specs.Names.{names_hold}
use Rattle.txn_programs.specs.Listing.{Listing, calls, tasks, task_tx, call_program, program_as}
use Rattle.txn_programs.specs.Replay.{Snapshot, Applies, Replays, applied, entered}
use Rattle.txn_programs.specs.LawfulReport.{HasOwn}
use Rattle.txn_programs.specs.Tree.{Program}
use Rattle.txn_programs.proofs.Lawful.{known_task, task_calls}
use Rattle.explore_law.specs.declared.instance.InstanceId.{InstanceId}
use Rattle.explore_law.specs.Instances.{instances, instance_at, instance_program}
use Rattle.explore_law.specs.Orders.{Config, HasTurn, turned, first_config, Leads, IsEnd, counted, count_at}
use Rattle.explore_law.proofs.Instances.{in_get, instance_in, instance_gets, length-counted}
use Rattle.explore_search.proofs.Whole.{turn_known}
use Rattle.explore_runner.specs.Ends.{call_as}
use Rattle.explore_runner.specs.Giving.{entered_by}
use Rattle.explore_runner.proofs.Counts.{place_of, place_is, placed_in, counted_first, counted_less}

abbrev pub number : ℕ → TaskId
number t = record { 0 = t }

-- a task's transaction, and its call, by its number
abbrev pub tx_of : Listing → ℕ → TxId
tx_of l t = task_tx l (number t)

abbrev pub call_of : Listing → ℕ → Call
call_of l t = call_as l (number t) (tx_of l t)

pub own_tx : (l : Listing) (t : ℕ) (tx : TxId) → slice_get (tasks l) t ≡ Some tx → tx_of l t ≡ tx
own_tx l t tx e = get_or_from_slice_get (tasks l) t tx (record { 0 = 0 }) e

pub own_call : (l : Listing) (t : TaskId) (tx : TxId) → slice_get (tasks l) t.0 ≡ Some tx → call_of l t.0 ≡ call_as l t tx
own_call l t tx e = ap (call_as l t) (own_tx l t.0 tx e)

-- the instance of a task
pub instance_of_task : (l : Listing) (t : TaskId) (tx : TxId) → names_hold l ≡ true → slice_get (tasks l) t.0 ≡ Some tx
    → slice_get (instances l) (place_of l (call_as l t tx)).0 ≡ Some (call_as l t tx)
instance_of_task l t tx names e =
    let c = call_as l t tx in
    placed_in l c (instance_in l c (in_get (calls l) t.0 c (task_calls l t tx e)) (known_task l t.0 tx names e))

-- an instance does what its call does
pub instance_does : (l : Listing) (k : InstanceId) (c : Call) → slice_get (instances l) k.0 ≡ Some c → instance_program l k ≡ call_program l c.tx c.arguments
instance_does l k c e = ap (λ (d : Call). call_program l d.tx d.arguments) (instance_gets l k c e)

-- the instances of entries
abbrev pub turns_of : Listing → List Entry → List InstanceId
turns_of l es = map (λ (e : Entry). place_of l (call_as l e.task e.tx)) es

pub entered_calls : (l : Listing) (s : Snapshot) (es : List Entry) (now : Snapshot) → Replays l s es now → map (call_of l) (entered es) ≡ entered_by l es
entered_calls l s [] now r = refl
entered_calls l s (e ∷ es) now r =
    ap (λ c. c ∷ map (call_of l) (entered es)) (own_call l e.task e.tx r.0.tx)
    ∙ ap (λ cs. call_as l e.task e.tx ∷ cs) (entered_calls l (applied l e s) es now r.1)

abbrev Own : Listing → TaskId × TxId → Type 0
Own l p = HasOwn l p.0 p.1

-- the calls of tasks that are listed
abbrev pub calls_by : Listing → List (TaskId × TxId) → List Call
calls_by l ps = map (λ (p : TaskId × TxId). call_as l p.0 p.1) ps

pub listed_calls : (l : Listing) (ps : List (TaskId × TxId)) → All (λ p. HasOwn l p.0 p.1) ps → map (call_of l) (map (λ (p : TaskId × TxId). p.0.0) ps) ≡ calls_by l ps
listed_calls l [] h = refl
listed_calls l (p ∷ ps) h =
    ap (λ c. c ∷ map (call_of l) (map (λ (q : TaskId × TxId). q.0.0) ps)) (own_call l p.0 p.1 (All-head (Own l) p ps h))
    ∙ ap (λ cs. call_as l p.0 p.1 ∷ cs) (listed_calls l ps (All-tail (Own l) p ps h))

abbrev pub config : State → List ℕ → Config
config m left = record { state = m; left = left }

pub same_config : (p : Config) (m : State) (left : List ℕ) → p.state ≡ m → p.left ≡ left → config m left ≡ p
same_config p m left a b = ap (λ (x : State). config x left) (sym a) ∙ ap (λ (y : List ℕ). config p.state y) (sym b)

pub applied_as : (l : Listing) (e : Entry) (s : Snapshot) → (applied l e s).state ≡ after (program_as l e.task e.tx) s.state
unfolding applied
applied_as l e s = refl

-- a task does what its instance does
pub applied_state : (l : Listing) (e : Entry) (s : Snapshot) (k : InstanceId) → slice_get (instances l) k.0 ≡ Some (call_as l e.task e.tx) → (applied l e s).state ≡ after (instance_program l k) s.state
applied_state l e s k at = applied_as l e s ∙ ap (λ (t : Program). after t s.state) (sym (instance_does l k (call_as l e.task e.tx) at))

-- an entry that can be applied is a turn
applies_turn : (l : Listing) (e : Entry) (s : Snapshot) (p : Config) (k : InstanceId) (rest : List Call) → slice_get (instances l) k.0 ≡ Some (call_as l e.task e.tx) → Applies l e s → p.state ≡ s.state
    → p.left ≡ counted l (call_as l e.task e.tx ∷ rest) → HasTurn l p k
applies_turn l e s p k rest at r state left =
    let c = call_as l e.task e.tx in
    let one : count_at p.left k ≡ count_at (counted l (c ∷ rest)) k = ap (λ (ns : List ℕ). count_at ns k) left in
    record {
      left = omega (arith, one, counted_first l k c rest at);
      ends = λ h. r.ends (r.outcome_is ∙ (ap (λ (t : Program). outcome t s.state) (sym (instance_does l k c at)) ∙ (ap (outcome (instance_program l k)) (sym state) ∙ h)));
    }

pub turned_left : (l : Listing) (k : InstanceId) (c : Call) (p : Config) (rest : List Call) → slice_get (instances l) k.0 ≡ Some c
    → p.left ≡ counted l (c ∷ rest) → (turned l p k).left ≡ counted l rest
turned_left l k c p rest at left = ap (λ (ns : List ℕ). set ns k.0 (count_at ns k - 1)) left ∙ counted_less l k c rest at

pub leads_by : (l : Listing) (s : Snapshot) (es : List Entry) (now : Snapshot) (p : Config) (rest : List Call) → names_hold l ≡ true → Replays l s es now → p.state ≡ s.state
    → p.left ≡ counted l (entered_by l es ++ rest) → Leads l p (turns_of l es) (config now.state (counted l rest))
leads_by l s [] now p rest names r state left = same_config p now.state (counted l rest) (state ∙ ap (λ (x : Snapshot). x.state) (sym r)) left
leads_by l s (e ∷ es) now p rest names r state left =
    let c = call_as l e.task e.tx in
    let k = place_of l c in
    let at = instance_of_task l e.task e.tx names r.0.tx in
    let next : (turned l p k).state ≡ (applied l e s).state = ap (after (instance_program l k)) state ∙ sym (applied_state l e s k at) in (
      applies_turn l e s p k (entered_by l es ++ rest) at r.0 state left,
      leads_by l (applied l e s) es now (turned l p k) rest names r.1 next (turned_left l k c p (entered_by l es ++ rest) at left),
    )

-- turns lead to one configuration
pub leads_once : (l : Listing) (p : Config) (turns : List InstanceId) (q r : Config) → Leads l p turns q → Leads l p turns r → q ≡ r
leads_once l p [] q r a b = a ∙ sym b
leads_once l p (k ∷ rest) q r a b = leads_once l (turned l p k) rest q r a.1 b.1

-- from an end on there are no more turns
pub none_after : (l : Listing) (p : Config) (turns more : List InstanceId) (q r : Config) → Leads l p turns q → IsEnd l q → Leads l p (turns ++ more) r → more ≡ []
none_after l p [] [] q r a last b = refl
none_after l p [] (k ∷ more) q r a last b = absurd (last k (subst (λ (x : Config). HasTurn l x k) (sym a) b.0))
none_after l p (k ∷ rest) more q r a last b = none_after l (turned l p k) rest more q r a.1 last b.1

-- each turn is of an instance
places_back : (l : Listing) (p : Config) (turns : List InstanceId) (q : Config) → length p.left ≡ length (instances l) → Leads l p turns q → map (place_of l) (map (instance_at l) turns) ≡ turns
places_back l p [] q size leads = refl
places_back l p (k ∷ rest) q size leads =
    let low : k.0 < length (instances l) = omega (arith, size, turn_known l p k leads.0) in
    let at : slice_get (instances l) k.0 ≡ Some (instance_at l k) = slice_get-get_or (instances l) k.0 (record { tx = record { 0 = 0 }; arguments = [] }) low in
    let more = places_back l (turned l p k) rest q (length-set p.left k.0 (count_at p.left k - 1) ∙ size) leads.1 in
    ap (λ (m : InstanceId). m ∷ map (place_of l) (map (instance_at l) rest)) (place_is l k (instance_at l k) at) ∙ ap (λ (ms : List InstanceId). k ∷ ms) more

map_twice : {X Y Z : Type 0} (f : Y → Z) (g : X → Y) (xs : List X) → map f (map g xs) ≡ map (λ x. f (g x)) xs
map_twice f g [] = refl
map_twice f g (x ∷ xs) = ap (λ zs. f (g x) ∷ zs) (map_twice f g xs)

pub turns_by : (l : Listing) (es : List Entry) → map (place_of l) (entered_by l es) ≡ turns_of l es
turns_by l es = map_twice (place_of l) (λ (e : Entry). call_as l e.task e.tx) es

-- entries whose calls are those of turns and then others are of these turns and then others
pub turns_are : (l : Listing) (es : List Entry) (turns : List InstanceId) (more : List Call) (q : Config) → Leads l (first_config l) turns q → entered_by l es ≡ map (instance_at l) turns ++ more
    → turns_of l es ≡ turns ++ map (place_of l) more
turns_are l es turns more q leads is =
    sym (turns_by l es)
    ∙ (ap (map (place_of l)) is
    ∙ (map-append (place_of l) (map (instance_at l) turns) more
    ∙ ap (λ (ks : List InstanceId). ks ++ map (place_of l) more) (places_back l (first_config l) turns q (length-counted l (calls l)) leads)))

pub retries_or_not : (o : Outcome) → (o ≢ Retries → ⊥) → o ≡ Retries
retries_or_not (Returned v) h = absurd (h (λ e. cc))
retries_or_not (Thrown f) h = absurd (h (λ e. cc))
retries_or_not Retries h = refl
