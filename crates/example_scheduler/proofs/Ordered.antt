-- The journal of a plan's program is in order: a job's flag is set by its end alone, and its begin waits for the flags.
use Rattle.std.proofs.Common.{◌≡◌, ◌≢◌, ◌⊎◌, inl, inr, ℕ, zero, suc, ◌+◌, ◌-◌, ◌<◌, ◌≤◌, ℤ, pos, Bool, true, false, List, [], ◌∷◌, ◌++◌, length, map, replicate, get_or, slice_set, Option, Some, None, Result, Ok, Err, refl, sym, ◌∙◌, ap, subst, arith, append_assoc, append-nil, length-append}
use Rattle.std.specs.List.{slice_get}
use Rattle.std.specs.Ordering.{int_eq}
use Rattle.std.proofs.lemmas.Bool.{cases_lt, cases_eq}
use Rattle.std.proofs.lemmas.Bool.Decides.{Decides-int_eq}
use Rattle.std.proofs.lemmas.Option.{same_Some, slice_get_within, slice_get-get_or, get_or_from_slice_get}
use Rattle.std.proofs.lemmas.List.{length-map, get_or_append_left, get_or-append_right, get_or_at, get_or-set_other, get_or_past}
use Rattle.txn_programs.specs.declared.ast.Fault.{Fault}
use Rattle.txn_programs.specs.declared.ast.TxId.{TxId}
use Rattle.txn_programs.specs.declared.report.Entry.{Entry}
use Rattle.txn_programs.specs.declared.ast.Outcome.{Outcome}
use Rattle.txn_programs.specs.declared.ast.Outcome.TheVariants.{Retries}
use Rattle.txn_programs.specs.Meaning.{State, run, run_all, choose, then_do, Ending, Done, Threw, Retried, kept_by, state_after, outcome_of, final, outcome, after}
use Rattle.txn_programs.specs.Tree.{Int, Statement, Statements, More, Skip, Set, Seq, Transaction, Program}
use Rattle.txn_programs.specs.Instance.{instance_statement, instance_statements}
use Rattle.txn_programs.specs.Listing.{Listing, transaction_at, call_program, program_as, task_arguments}
use Rattle.txn_programs.specs.Replay.{Snapshot, Applies, applied, Replays, opening, Stands}
use Rattle.book.specs.View.{BookView}
use Rattle.book.specs.LawfulBook.{LawfulBook}
use Rattle.stm_store.specs.Working.{without_runs}
use Rattle.example_scheduler.specs.Order.{IsAt, InOrder, KeepsOrder}
use Rattle.example_scheduler.specs.Plan.{flag, wait_for, waits, ends, bodies, IsPlan}

abbrev flag_of : State → ℕ → ℤ
flag_of m k = get_or m k (pos 0)

-- what a begin that does not retry has seen: each flag is set
abbrev AllSet : List ℕ → State → Type 0
AllSet before m = (j : ℕ) → Stands before j → flag_of m j ≢ pos 0

not_zero : (v : ℤ) → int_eq v (pos 0) ≡ false → v ≢ pos 0
not_zero v e z = let yes : int_eq v (pos 0) ≡ true = (Decides-int_eq v (pos 0)).1 z in cc

no_wait : (j : ℕ) → Stands [] j → ⊥
no_wait j s = let e = s.1 in cc

first_or_rest : (i : ℕ) (rest : List ℕ) (m : State) → flag_of m i ≢ pos 0 → AllSet rest m → AllSet (i ∷ rest) m
first_or_rest i rest m set all j (zero, e) = let same : i ≡ j = same_Some _ _ e in subst (λ k. flag_of m k ≢ pos 0) same set
first_or_rest i rest m set all j (suc k, e) = all j (k, e)

abbrev waited : List ℕ → State → Bool → Ending State Fault
waited rest m b = then_do (choose (Ok b) Retried (Done m)) (run_all (waits rest))

-- waits are done with nothing changed, or retry
abbrev AreDone : List ℕ → State → Type 0
AreDone before m = ((run_all (waits before) m ≡ Done m) × AllSet before m) ⊎ (run_all (waits before) m ≡ Retried)

one_more : (i : ℕ) (rest : List ℕ) (m : State) (b : Bool) → int_eq (flag_of m i) (pos 0) ≡ b → AreDone rest m → AreDone (i ∷ rest) m
one_more i rest m true e r = inr (ap (waited rest m) e)
one_more i rest m false e (inl d) = inl (ap (waited rest m) e ∙ d.0, first_or_rest i rest m (not_zero (flag_of m i) e) d.1)
one_more i rest m false e (inr d) = inr (ap (waited rest m) e ∙ d)

waits_end : (before : List ℕ) (m : State) → AreDone before m
waits_end [] m = inl (refl, λ j s. absurd (no_wait j s))
waits_end (i ∷ rest) m = one_more i rest m (int_eq (flag_of m i) (pos 0)) refl (waits_end rest m)

-- the body of a transaction
abbrev none : Transaction
none = record { name = []; parameters = []; body = Skip; result = Int (pos 0) }

body_at : (txs : List Transaction) (t : ℕ) → (get_or txs t none).body ≡ get_or (map (λ (x : Transaction). x.body) txs) t Skip
body_at [] t = refl
body_at (x ∷ txs) zero = refl
body_at (x ∷ txs) (suc t) = body_at txs t

abbrev body_of_tx : Listing → ℕ → Statement
body_of_tx l t = (transaction_at l (record { 0 = t })).body

planned_body : (after' : List (List ℕ)) (l : Listing) (t : ℕ) → IsPlan after' l → body_of_tx l t ≡ get_or (bodies after') t Skip
planned_body after' l t plan = body_at l.transactions t ∙ ap (λ bs. get_or bs t Skip) plan.transactions

abbrev begin_of : List ℕ → Statement
begin_of before = Seq (waits before)

begin_at : (after' : List (List ℕ)) (i : ℕ) (before : List ℕ) → slice_get after' i ≡ Some before → get_or (map begin_of after') i Skip ≡ begin_of before
begin_at [] i before e = absurd (cc)
begin_at (b ∷ after') zero before e = ap begin_of (same_Some _ _ e)
begin_at (b ∷ after') (suc i) before e = begin_at after' i before e

begin_body : (after' : List (List ℕ)) (l : Listing) (i : ℕ) (before : List ℕ) → IsPlan after' l → slice_get after' i ≡ Some before → body_of_tx l i ≡ begin_of before
begin_body after' l i before plan e =
    let within = slice_get_within after' i before e in
    planned_body after' l i plan
    ∙ get_or_append_left (map begin_of after') (ends (length after')) Skip i (omega (arith, length-map after' begin_of))
    ∙ begin_at after' i before e

ends_long : (n : ℕ) → length (ends n) ≡ n
ends_long zero = refl
ends_long (suc n) = let e = ends_long n in omega (arith, length-append (ends n) (Set (flag n) (Int (pos 1)) ∷ []))

ends_at : (n k : ℕ) → k < n → get_or (ends n) k Skip ≡ Set (flag k) (Int (pos 1))
ends_at zero k lt = absurd (omega arith)
ends_at (suc n) k lt =
    elim (cases_eq k n) [
      | inl same ↦
          ap (λ i. get_or (ends (suc n)) i Skip) same
          ∙ get_or_at (ends n) (Set (flag n) (Int (pos 1))) [] Skip n (ends_long n)
          ∙ ap (λ i. Set (flag i) (Int (pos 1))) (sym same)
      | inr other ↦
          let less : k < n = omega (arith, other) in
          get_or_append_left (ends n) (Set (flag n) (Int (pos 1)) ∷ []) Skip k (omega (arith, ends_long n)) ∙ ends_at n k less
    ]

end_body : (after' : List (List ℕ)) (l : Listing) (t k : ℕ) → IsPlan after' l → k < length after' → t ≡ length after' + k → body_of_tx l t ≡ Set (flag k) (Int (pos 1))
end_body after' l t k plan lt is =
    let n = length after' in
    let less : t - n ≡ k = omega arith in
    planned_body after' l t plan
    ∙ get_or-append_right (map begin_of after') (ends n) n t Skip (length-map after' begin_of) (omega arith)
    ∙ ap (λ i. get_or (ends n) i Skip) less
    ∙ ends_at n k lt

no_body : (after' : List (List ℕ)) (l : Listing) (t : ℕ) → IsPlan after' l → length after' + length after' ≤ t → body_of_tx l t ≡ Skip
no_body after' l t plan past =
    planned_body after' l t plan
    ∙ get_or_past (bodies after') t Skip (omega (arith, length-append (map begin_of after') (ends (length after')), length-map after' begin_of, ends_long (length after')))

-- what a program leaves of a state that its body leaves
kept : (m m' : State) (r : Result ℤ Fault) → (kept_by m m' r ≡ m') ⊎ (kept_by m m' r ≡ m)
kept m m' (Ok v) = inl refl
kept m m' (Err f) = inr refl

left_done : (m m' : State) (result : State → Result ℤ Fault) (e : Ending State Fault) → e ≡ Done m' → (state_after m e result ≡ m') ⊎ (state_after m e result ≡ m)
left_done m m' result e is =
    subst (λ (x : Ending State Fault). (state_after m x result ≡ m') ⊎ (state_after m x result ≡ m)) (sym is) (kept m m' (result m'))

same_or_same : (m n : State) → (n ≡ m) ⊎ (n ≡ m) → n ≡ m
same_or_same m n (inl e) = e
same_or_same m n (inr e) = e

left_retried : (m : State) (result : State → Result ℤ Fault) (e : Ending State Fault) → e ≡ Retried → state_after m e result ≡ m
left_retried m result e is = ap (λ (x : Ending State Fault). state_after m x result) is

-- a begin has no parameters
waits_same : (given : List ℤ) (before : List ℕ) → instance_statements given (waits before) ≡ waits before
waits_same given [] = refl
waits_same given (i ∷ rest) = ap (λ (ws : Statements). More (wait_for i) ws) (waits_same given rest)

begin_runs : (l : Listing) (t : ℕ) (given : List ℤ) (before : List ℕ) (m : State) → body_of_tx l t ≡ begin_of before → run (call_program l (record { 0 = t }) given).body m ≡ run_all (waits before) m
begin_runs l t given before m is =
    ap (λ (s : Statement). run (instance_statement given s) m) is ∙ ap (λ (ws : Statements). run_all ws m) (waits_same given before)

-- a begin, and what is no transaction, change nothing
begin_leaves : (l : Listing) (t : ℕ) (given : List ℤ) (before : List ℕ) (m : State) → body_of_tx l t ≡ begin_of before → after (call_program l (record { 0 = t }) given) m ≡ m
begin_leaves l t given before m is =
    let p = call_program l (record { 0 = t }) given in
    let e : run p.body m ≡ run_all (waits before) m = begin_runs l t given before m is in
    elim (waits_end before m) [
      | inl d ↦ same_or_same m _ (left_done m m (final p) (run p.body m) (e ∙ d.0))
      | inr r ↦ left_retried m (final p) (run p.body m) (e ∙ r)
    ]

skip_leaves : (l : Listing) (t : ℕ) (given : List ℤ) (m : State) → body_of_tx l t ≡ Skip → after (call_program l (record { 0 = t }) given) m ≡ m
skip_leaves l t given m is =
    let p = call_program l (record { 0 = t }) given in
    same_or_same m _ (left_done m m (final p) (run p.body m) (ap (λ (s : Statement). run (instance_statement given s) m) is))

-- a flag that is set after a transaction was set before, or that is its end
set_by : (after' : List (List ℕ)) (l : Listing) → IsPlan after' l → (t : ℕ) (given : List ℤ) (m : State) (k : ℕ)
    → flag_of (after (call_program l (record { 0 = t }) given) m) k ≢ pos 0 → (flag_of m k ≢ pos 0) ⊎ (t ≡ length after' + k)
set_by after' l plan t given m k up =
    let n = length after' in
    let p = call_program l (record { 0 = t }) given in
    elim (cases_lt t n) [
      | inl begins ↦
          let before = get_or after' t [] in
          let same = begin_leaves l t given before m (begin_body after' l t before plan (slice_get-get_or after' t [] begins)) in
          inl (subst (λ (s : State). flag_of s k ≢ pos 0) same up)
      | inr more ↦
          elim (cases_lt t (n + n)) [
            | inl ends' ↦
                let j = t - n in
                let is : body_of_tx l t ≡ Set (flag j) (Int (pos 1)) = end_body after' l t j plan (omega arith) (omega arith) in
                let done = left_done m (slice_set m j (pos 1)) (final p) (run p.body m) (ap (λ (s : Statement). run (instance_statement given s) m) is) in
                elim (cases_eq k j) [
                  | inl own ↦ inr (omega arith)
                  | inr other ↦
                      elim done [
                        | inl changed ↦
                            let here : flag_of (after p m) k ≡ flag_of m k = ap (λ (s : State). flag_of s k) changed ∙ get_or-set_other m j k (pos 1) (pos 0) other in
                            inl (λ z. up (here ∙ z))
                        | inr stays ↦ inl (subst (λ (s : State). flag_of s k ≢ pos 0) stays up)
                      ]
                ]
            | inr past ↦ inl (subst (λ (s : State). flag_of s k ≢ pos 0) (skip_leaves l t given m (no_body after' l t plan past)) up)
          ]
    ]

-- a begin that does not retry has seen each flag set
begin_sees : (after' : List (List ℕ)) (l : Listing) → IsPlan after' l → (i : ℕ) (given : List ℤ) (before : List ℕ) (m : State)
    → slice_get after' i ≡ Some before → outcome (call_program l (record { 0 = i }) given) m ≢ Retries → AllSet before m
begin_sees after' l plan i given before m at ends' =
    let p = call_program l (record { 0 = i }) given in
    let e : run p.body m ≡ run_all (waits before) m = begin_runs l i given before m (begin_body after' l i before plan at) in
    elim (waits_end before m) [
      | inl d ↦ d.1
      | inr r ↦ absurd (ends' (ap (λ (x : Ending State Fault). outcome_of x (final p)) (e ∙ r)))
    ]

-- one entry more
at_push : (xs : List Entry) (e : Entry) (p : ℕ) (x : Entry) → slice_get (xs ++ e ∷ []) p ≡ Some x → (slice_get xs p ≡ Some x) ⊎ ((p ≡ length xs) × (x ≡ e))
at_push [] e zero x h = inr (refl, sym (same_Some _ _ h))
at_push [] e (suc p) x h = absurd (cc)
at_push (y ∷ xs) e zero x h = inl h
at_push (y ∷ xs) e (suc p) x h =
    elim (at_push xs e p x h) [
      | inl a ↦ inl a
      | inr b ↦ inr (ap suc b.0, b.1)
    ]

at_more : (xs ys : List Entry) (q : ℕ) (x : Entry) → slice_get xs q ≡ Some x → slice_get (xs ++ ys) q ≡ Some x
at_more [] ys q x h = absurd (cc)
at_more (y ∷ xs) ys zero x h = h
at_more (y ∷ xs) ys (suc q) x h = at_more xs ys q x h

at_end : (xs : List Entry) (e : Entry) → slice_get (xs ++ e ∷ []) (length xs) ≡ Some e
at_end [] e = refl
at_end (y ∷ xs) e = at_end xs e

-- each flag that is set was set by an entry
abbrev SetBy : List (List ℕ) → List Entry → State → Type 0
SetBy after' es m = (k : ℕ) → flag_of m k ≢ pos 0 → (q : ℕ) × IsAt es q (length after' + k)

module _ (after' : List (List ℕ)) (l : Listing) (plan : IsPlan after' l) where
  set_more : (es : List Entry) (e : Entry) (m : State) → SetBy after' es m → SetBy after' (es ++ e ∷ []) (after (program_as l e.task e.tx) m)
  set_more es e m h k up =
      elim (set_by after' l plan e.tx.0 (task_arguments l e.task) m k up) [
        | inl old ↦ let f = h k old in (f.0, (f.1.0, at_more es (e ∷ []) f.0 f.1.0 f.1.1, f.1.2))
        | inr own ↦ (length es, (e, at_end es e, own))
      ]

  order_more : (es : List Entry) (e : Entry) (s : Snapshot) → SetBy after' es s.state → InOrder after' es → Applies l e s → InOrder after' (es ++ e ∷ [])
  order_more es e s h ordered applies p i j before (x, at, is) after_is stands =
      elim (at_push es e p x at) [
        | inl old ↦
            let r = ordered p i j before (x, old, is) after_is stands in
            (r.0, r.1, (r.2.0, at_more es (e ∷ []) r.0 r.2.0 r.2.1, r.2.2))
        | inr last ↦
            let tx : e.tx.0 ≡ i = ap (λ (y : Entry). y.tx.0) (sym last.1) ∙ is in
            let given = task_arguments l e.task in
            let ends' : outcome (call_program l (record { 0 = i }) given) s.state ≢ Retries =
            λ r. applies.ends (applies.outcome_is ∙ ap (λ (t : ℕ). outcome (call_program l (record { 0 = t }) given) s.state) tx ∙ r) in
            let f = h j (begin_sees after' l plan i given before s.state after_is ends' j stands) in
            let within = slice_get_within es f.0 f.1.0 f.1.1 in
            (f.0, omega (arith, within, last.0), (f.1.0, at_more es (e ∷ []) f.0 f.1.0 f.1.1, f.1.2))
      ]

  ordered_on : (past es : List Entry) (base now : Snapshot) → SetBy after' past base.state → InOrder after' past → Replays l base es now → InOrder after' (past ++ es)
  unfolding applied
  ordered_on past [] base now h o r = subst (InOrder after') (sym (append-nil past)) o
  ordered_on past (e ∷ es) base now h o r =
      subst (InOrder after') (append_assoc past (e ∷ []) es)
      (ordered_on (past ++ e ∷ []) es (applied l e base) now (set_more past e base.state h) (order_more past e base h o r.0) r.1)

none_set : (n k : ℕ) → get_or (replicate n (pos 0)) k (pos 0) ≡ pos 0
none_set zero k = refl
none_set (suc n) zero = refl
none_set (suc n) (suc k) = none_set n k

replays_append : (l : Listing) (a b c : Snapshot) (xs ys : List Entry) → Replays l a xs b → Replays l b ys c → Replays l a (xs ++ ys) c
replays_append l a b c [] ys r s = subst (λ (z : Snapshot). Replays l z ys c) r s
replays_append l a b c (x ∷ xs) ys r s = (r.0, replays_append l (applied l x a) b c xs ys r.1 s)

same_plan : (after' : List (List ℕ)) (a b : Listing) → without_runs a ≡ without_runs b → IsPlan after' b → IsPlan after' a
same_plan after' a b same plan =
    record {
      flags = ap (λ (k : Listing). k.initial) same ∙ plan.flags;
      transactions = ap (λ (k : Listing). map (λ (t : Transaction). t.body) k.transactions) same ∙ plan.transactions;
    }

-- a book of a plan's program keeps the order
keeps_order : (after' : List (List ℕ)) (l : Listing) (b : BookView) → IsPlan after' l → without_runs b.catalogue ≡ without_runs l → LawfulBook b → KeepsOrder after' b
keeps_order after' l b plan same h =
    let c = b.catalogue in
    let own = same_plan after' c l same plan in
    let all = h.past ++ b.journal in
    let whole = replays_append c (opening c) b.base b.present h.past b.journal h.reached h.replays in
    record {
      past = h.past;
      replays = whole;
      in_order =
          ordered_on after' c own [] all (opening c) b.present
          (λ k up. absurd (up (ap (λ (m : State). flag_of m k) own.flags ∙ none_set (length after') k)))
          (λ p i j before at is s. absurd (no_entry at.0 p at.1)) whole;
    }
  where
    no_entry : (e : Entry) (p : ℕ) → slice_get [] p ≡ Some e → ⊥
    no_entry e p h' = cc

-- whatever a scheduler's lock guards keeps the order
pub order_of : (after' : List (List ℕ)) (c l : Listing) (b : BookView) → c ≡ l → IsPlan after' l → without_runs b.catalogue ≡ without_runs c → LawfulBook b → KeepsOrder after' b
order_of after' c l b named plan same h = keeps_order after' l b plan (same ∙ ap (λ (k : Listing). without_runs k) named) h
