-- Each task's run, and the call that it makes.
use Rattle.std.proofs.Common.{◌≡◌, ℕ, zero, suc, ◌+◌, ◌<◌, List, [], ◌∷◌, ◌++◌, length, map, take, replicate, slice_get, get_or, Option, Some, None, arith, refl, sym, ◌∙◌, ap}
use Rattle.std.specs.Option.{option_map}
use Rattle.std.proofs.lemmas.List.{append-nil, length-map, map-append, map-id, take_more}
use Rattle.std.proofs.lemmas.Option.{same_Some, slice_get-map, slice_get-get_or}
use Rattle.std.proofs.lemmas.Grind.{flat_map-append}
use Rattle.txn_programs.specs.declared.arguments.Call.{Call}
use Rattle.txn_programs.specs.declared.ast.TxId.{TxId}
use Rattle.txn_programs.specs.declared.ast.TaskId.{TaskId}
use Rattle.txn_programs.specs.Listing.{Listing, calls, calls_of, tasks, task_tx, task_arguments}
use Rattle.txn_programs.proofs.Lawful.{task_calls}
use Rattle.txn.specs.CatalogueInside.{call_at, listed, IsKept}
use Rattle.txn.specs.declared.catalogue.Catalogue.TheInside.{Inside}

map-replicate : {X Y : Type 0} (f : X → Y) (n : ℕ) (x : X) → map f (replicate n x) ≡ replicate n (f x)
map-replicate f zero x = refl
map-replicate f (suc n) x = ap (λ ys. f x ∷ ys) (map-replicate f n x)

-- the calls of the tasks of one run more
calls_more : (runs : List (Call × ℕ)) (i : ℕ) (d : Call × ℕ) → i < length runs → calls_of (take (i + 1) runs) ≡ calls_of (take i runs) ++ replicate (get_or runs i d).1 (get_or runs i d).0
calls_more runs i d lt =
    ap calls_of (take_more runs i d lt)
    ∙ flat_map-append (λ (run : Call × ℕ). replicate run.1 run.0) (take i runs) (get_or runs i d ∷ [])
    ∙ ap (λ cs. calls_of (take i runs) ++ cs) (append-nil (replicate (get_or runs i d).1 (get_or runs i d).0))

-- .. and what is told of each of them
pub told_more : {X Y : Type 0} (f : X → Y) (g : Call → Y) (told : List X) (runs : List (Call × ℕ)) (i : ℕ) (d : Call × ℕ) (x : X) → i < length runs → f x ≡ g (get_or runs i d).0
    → map f told ≡ map g (calls_of (take i runs)) → map f (told ++ replicate (get_or runs i d).1 x) ≡ map g (calls_of (take (i + 1) runs))
told_more f g told runs i d x lt same so_far =
    let run = get_or runs i d in
    map-append f told (replicate run.1 x)
    ∙ ap (λ ys. ys ++ map f (replicate run.1 x)) so_far
    ∙ ap (λ ys. map g (calls_of (take i runs)) ++ ys) (map-replicate f run.1 x ∙ ap (replicate run.1) same ∙ sym (map-replicate g run.1 run.0))
    ∙ sym (map-append g (calls_of (take i runs)) (replicate run.1 run.0))
    ∙ ap (map g) (sym (calls_more runs i d lt))

-- the call of the run of a place among the runs
pub call_here : (runs : List (Call × ℕ)) (i : ℕ) (d : Call × ℕ) → i < length runs → call_at runs i ≡ Some (get_or runs i d).0
call_here [] i d lt = absurd (omega (arith, lt))
call_here (run ∷ runs) zero d lt = refl
call_here (run ∷ runs) (suc i) d lt = call_here runs i d (omega (arith, lt))

-- a place at which there is a call is that of a run
pub run_there : (runs : List (Call × ℕ)) (i : ℕ) (c : Call) → call_at runs i ≡ Some c → i < length runs
run_there [] i c e = absurd (cc)
run_there (run ∷ runs) zero c e = omega arith
run_there (run ∷ runs) (suc i) c e = omega (arith, run_there runs i c e)

pub call_there : (runs : List (Call × ℕ)) (i : ℕ) (c : Call) (d : Call × ℕ) → call_at runs i ≡ Some c → (get_or runs i d).0 ≡ c
call_there runs i c d e = same_Some _ _ (sym (call_here runs i d (run_there runs i c e)) ∙ e)

only : {X : Type 0} (x y : Option X) → Some x ≡ option_map Some y → x ≡ y
only x None e = absurd (cc)
only x (Some y) e = same_Some _ _ e

-- the run of a task makes the task's call
pub run_calls : (runs : List (Call × ℕ)) (places : List ℕ) (calls : List Call) (t place : ℕ) (c : Call) → map (call_at runs) places ≡ map Some calls → slice_get places t ≡ Some place → slice_get calls t ≡ Some c → call_at runs place ≡ Some c
run_calls runs places calls t place c all at called =
    only (call_at runs place) (slice_get calls t)
    (sym (ap (option_map (call_at runs)) at) ∙ sym (slice_get-map (call_at runs) places t) ∙ ap (λ cs. slice_get cs t) all ∙ slice_get-map Some calls t)
    ∙ called

-- the transactions of the tasks of one run more
pub txs_more : (txs : List TxId) (runs : List (Call × ℕ)) (i : ℕ) (d : Call × ℕ) → i < length runs → txs ≡ map (λ (c : Call). c.tx) (calls_of (take i runs))
    → txs ++ replicate (get_or runs i d).1 (get_or runs i d).0.tx ≡ map (λ (c : Call). c.tx) (calls_of (take (i + 1) runs))
txs_more txs runs i d lt so_far =
    sym (map-id (txs ++ replicate (get_or runs i d).1 (get_or runs i d).0.tx))
    ∙ told_more (λ (tx : TxId). tx) (λ (c : Call). c.tx) txs runs i d (get_or runs i d).0.tx lt refl (map-id txs ∙ so_far)

-- the run that a catalogue keeps of a task makes the task's call
pub task_run : (c : Inside) (l : Listing) (t : TaskId) (place : ℕ) → IsKept c → listed c ≡ l → t.0 < length (tasks l) → place ≡ get_or c.task_runs.items t.0 place
    → call_at c.runs.items place ≡ Some (record { tx = task_tx l t; arguments = task_arguments l t })
task_run c l t place kept e lt at =
    let places = c.task_runs.items in
    let made : map (call_at c.runs.items) places ≡ map Some (calls l) = kept.task_runs ∙ ap (λ (l : Listing). map Some (calls l)) e in
    let many : length places ≡ length (calls l) = sym (length-map places (call_at c.runs.items)) ∙ ap length made ∙ length-map (calls l) Some in
    let here : t.0 < length places = omega (arith, lt, many, length-map (calls l) (λ (x : Call). x.tx)) in
    run_calls c.runs.items places (calls l) t.0 place _ made
    (slice_get-get_or places t.0 place here ∙ ap Some (sym at))
    (task_calls l t (task_tx l t) (slice_get-get_or (tasks l) t.0 _ lt))
