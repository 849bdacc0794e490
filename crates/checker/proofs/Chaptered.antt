-- The calls of chapters, and when two listings are one.
use Rattle.std.proofs.Common.{◌≡◌, ◌∙◌, ◌↔◌, ℕ, List, [], ◌∷◌, ◌++◌, length, take, map, replicate, get_or, true, ◌<◌, refl, sym, ap, subst, arith}
use Rattle.std.specs.List.{All}
use Rattle.std.proofs.lemmas.List.Elements.{All-map, All-weaker}
use Rattle.std.proofs.lemmas.Option.{slice_get-get_or}
use Rattle.std.proofs.lemmas.List.{length-map, length-take, get_or-take, take_all, take-append-le}
use Rattle.std.proofs.lemmas.Grind.{flat_map-append}
use Rattle.txn_programs.specs.declared.arguments.Call.{Call}
use Rattle.txn_programs.specs.declared.ast.TaskId.{TaskId}
use Rattle.txn_programs.specs.declared.ast.TxId.{TxId}
use Rattle.txn_programs.specs.Listing.{Listing, IsCallable, tasks, calls, calls_of}
use Rattle.txn_programs.specs.Meaning.{State}
use Rattle.txn_programs.specs.Tree.{Condition, Transaction}
use Rattle.txn_programs.specs.Names.{names_hold}
use Rattle.txn_programs.specs.LawfulReport.{HasOwn}
use Rattle.txn_programs.specs.Told.{Told, now_of}
use Rattle.txn_programs.proofs.Lawful.{callable_task, callable_as}
use Rattle.txn.specs.Grown.{grown}
use Rattle.checker.specs.Chapters.{line_call, waiting, next_chapter, beginning, GoesOnAfter}

-- a task for each call
abbrev one : Call → Call × ℕ
one c = (c, 1)

one_each : (cs : List Call) → calls_of (map one cs) ≡ cs
one_each [] = refl
one_each (c ∷ cs) = ap (λ (more : List Call). c ∷ more) (one_each cs)

calls_behind : (runs more : List (Call × ℕ)) → calls_of (runs ++ more) ≡ calls_of runs ++ calls_of more
calls_behind runs more = flat_map-append (λ (run : Call × ℕ). replicate run.1 run.0) runs more

length_waiting : (l : Listing) (ps : List (TaskId × TxId)) → length (map (line_call l) ps) ≡ length ps
length_waiting l ps = length-map ps (line_call l)

first_of_next : (l : Listing) (r : Told) → take (length r.parked) (calls (next_chapter l r)) ≡ waiting l r
first_of_next l r = ap (take (length r.parked)) (one_each (waiting l r)) ∙ take_all (length r.parked) (waiting l r) (let e = length_waiting l r.parked in omega (arith, e))

pub next_goes_on : (l : Listing) (r : Told) → GoesOnAfter l r (next_chapter l r)
next_goes_on l r = record { program = record { names = refl; tables = refl; always = refl; transactions = refl }; begins = refl; first = first_of_next l r }

pub grown_goes_on : (l : Listing) (r : Told) (next : Listing) (more : List Call) → GoesOnAfter l r next → GoesOnAfter l r (grown next more)
grown_goes_on l r next more g =
    let all : length (take (length r.parked) (calls next)) ≡ length r.parked = ap length g.first ∙ length_waiting l r.parked in
    record {
      program = record { names = g.program.names; tables = g.program.tables; always = g.program.always; transactions = g.program.transactions };
      begins = g.begins;
      first = ap (take (length r.parked)) (calls_behind next.runs (map one more)) ∙ (take-append-le (length r.parked) (calls next) (calls_of (map one more)) (omega (arith, all, length-take (length r.parked) (calls next))) ∙ g.first);
    }

abbrev made : List (List ℕ) → List (List ℕ × ℕ) → State → List (List ℕ × Condition) → List Transaction → List (Call × ℕ) → Listing
made n c i w t r = record { names = n; tables = c; initial = i; always = w; transactions = t; runs = r }

same_made : (n m : List (List ℕ)) (c d : List (List ℕ × ℕ)) (i j : State) (w v : List (List ℕ × Condition)) (t u : List Transaction) (r s : List (Call × ℕ))
    → n ≡ m → c ≡ d → i ≡ j → w ≡ v → t ≡ u → r ≡ s → made n c i w t r ≡ made m d j v u s
same_made n m c d i j w v t u r s e f g h k o = rw (e, f, g, h, k, o) refl

pub begins_as_told : (l : Listing) (r : Told) (next : Listing) → (GoesOnAfter l r next ↔ (beginning (length r.parked) next ≡ next_chapter l r))
begins_as_told l r next = (
  λ g. same_made next.names l.names next.tables l.tables next.initial (now_of r).state next.always l.always next.transactions l.transactions _ _
      (sym g.program.names) (sym g.program.tables) g.begins (sym g.program.always) (sym g.program.transactions) (ap (map one) g.first),
  λ e. record {
    program = record { names = sym (ap (λ (m : Listing). m.names) e); tables = sym (ap (λ (m : Listing). m.tables) e); always = sym (ap (λ (m : Listing). m.always) e); transactions = sym (ap (λ (m : Listing). m.transactions) e) };
    begins = ap (λ (m : Listing). m.initial) e;
    first = sym (one_each (take (length r.parked) (calls next))) ∙ (ap (λ (m : Listing). calls_of m.runs) e ∙ one_each (waiting l r));
  },
)

abbrev pub Callable : Listing → Call → Type 0
Callable l c = IsCallable l c.tx c.arguments

-- the first calls are calls of the listing
pub first_callable : (l : Listing) (n : ℕ) → names_hold l ≡ true → All (Callable l) (take n (calls l))
first_callable l n h k d lt =
    let sized = length-take n (calls l) in
    let few : k < n = omega (arith, sized, lt) in
    let within : k < length (calls l) = omega (arith, sized, lt) in
    subst (Callable l) (sym (get_or-take n (calls l) k d few)) (callable_task l k (get_or (calls l) k d) h (slice_get-get_or (calls l) k d within))

-- and so are those of tasks that are named with their own transactions
pub own_callable : (l : Listing) (ps : List (TaskId × TxId)) → names_hold l ≡ true → All (λ (p : TaskId × TxId). HasOwn l p.0 p.1) ps → All (Callable l) (map (line_call l) ps)
own_callable l ps h own =
    All-map (Callable l) (line_call l) ps (All-weaker (λ (p : TaskId × TxId). HasOwn l p.0 p.1) (λ (p : TaskId × TxId). Callable l (line_call l p)) (λ p is. callable_as l p.0 p.1 h is) ps own)

-- there are as many calls as tasks
pub calls_count : (l : Listing) → length (calls l) ≡ length (tasks l)
calls_count l = sym (length-map (calls l) (λ (c : Call). c.tx))
