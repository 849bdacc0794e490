use Rattle.std.proofs.Common.{◌≡◌, ℕ, ◌+◌, ◌<◌, ◌≤◌, true, false, List, ◌∙◌, ap, sym, subst, arith, length, map, get_or, set, take}
use Rattle.std.proofs.lemmas.List.{length-map, get_or_default}
use Rattle.std.proofs.lemmas.Option.{slice_get-get_or}
use Rattle.txn_programs.specs.declared.arguments.Call.{Call}
use Rattle.book.specs.Tasks.{Ready}
use Rattle.book.specs.Standings.{bare}
use Rattle.book.specs.Calls.{CallsView, with_calls}
use Rattle.book.specs.declared.task.Slot.{Slot}
use Rattle.book.specs.Carrying.{stays, carried}
use Rattle.book.proofs.Staying.{KeptSoFar, all_stay, kept_stays, kept_goes, kept_left, kept_enough, stays_read}
use Rattle.book.proofs.TaskCalls.{no_call}
use Rattle.book.proofs.calls.Calls.keep_staying.Goals as goal
use Rattle.book.proofs.calls.Calls.keep_staying.Goals.{then-stays, else-stays}

-- there is a next task
next : (ss : List Slot) (was now : List Call) (i kept count : ℕ) → length ss ≡ length was → i ≤ length was → kept < count → count ≡ length (carried (map bare ss)) → KeptSoFar was (map bare ss) i kept now → i < length was
next ss was now i kept count each low less enough h = kept_left was (map bare ss) i kept now (length-map ss bare ∙ each) low (omega (arith, less, enough)) h

pub bounds-standings-task : goal.bounds-standings-task
bounds-standings-task c =
    let l = c.tasks in
    omega (arith, next c.args.standings.now c.args.self.now.calls l.self.calls l.task l.kept c.args.count c.requires.each l.invariant.low c.tasks-test.true c.requires.count l.invariant.so_far, c.requires.each)

pub copy-requires-clause-from : goal.copy-requires-clause-from
copy-requires-clause-from c =
    let l = c.tasks in
    omega (arith, next c.args.standings.now c.args.self.now.calls l.self.calls l.task l.kept c.args.count c.requires.each l.invariant.low c.tasks-test.true c.requires.count l.invariant.so_far, l.invariant.so_far.size)

pub tasks-smaller : goal.tasks-smaller
tasks-smaller c =
    let l = c.tasks in
    omega (arith, next c.args.standings.now c.args.self.now.calls l.self.calls l.task l.kept c.args.count c.requires.each l.invariant.low c.tasks-test.true c.requires.count l.invariant.so_far, c.requires.each)

pub returns-then-count-standings : goal.returns-then-count-standings
returns-then-count-standings c =
    let ss = c.args.standings.now in
    ap (with_calls c.args.self.now) (sym (all_stay c.args.self.now.calls (map bare ss) (length-map ss bare ∙ c.requires.each) (omega (arith, c.requires.count, c.if-count-standings.true, length-map ss bare))))

pub returns : goal.returns
returns c =
    let ss = c.args.standings.now in
    let l = c.tasks in
    c.cut.ensures
    ∙ (ap (λ (v : CallsView). with_calls v (take l.kept l.self.calls)) l.invariant.same
    ∙ ap (with_calls c.args.self.now) (kept_enough c.args.self.now.calls (map bare ss) l.task l.kept l.self.calls (length-map ss bare ∙ c.requires.each) l.invariant.low (omega (arith, c.tasks-test.false, c.requires.count)) l.invariant.so_far))

pub tasks-preserved : goal.tasks-preserved
tasks-preserved c =
    let ss = c.args.standings.now in
    let ts = map bare ss in
    let was = c.args.self.now.calls in
    let l = c.tasks in
    let now = l.self.calls in
    let size : length ts ≡ length was = length-map ss bare ∙ c.requires.each in
    let within : l.task < length was = next ss was now l.task l.kept c.args.count c.requires.each l.invariant.low c.tasks-test.true c.requires.count l.invariant.so_far in
    let here : l.task < length ss = omega (arith, within, c.requires.each) in
    let there : l.task < length now = omega (arith, within, l.invariant.so_far.size) in
    let call = get_or now l.task no_call in
    elim c.if-stays.branch [
      | then-stays w ↦
          let stay : stays (get_or ts l.task Ready) ≡ true = stays_read ss l.task _ here ∙ (sym c.stays.ensures ∙ w.if-stays.true) in
          let kept = kept_stays was ts l.task l.kept now call size within stay (get_or_default now l.task no_call call there) l.invariant.so_far in
          let copied : c.if-stays.self ≡ with_calls l.self (set now l.kept call) = w.self-is ∙ w.copy.ensures call (slice_get-get_or now l.task no_call there) in
          record {
            low = omega (arith, within);
            so_far = subst (λ (k : ℕ). KeptSoFar was ts (l.task + 1) k c.if-stays.self.calls) (sym w.kept-is)
                (subst (λ (v : CallsView). KeptSoFar was ts (l.task + 1) (l.kept + 1) v.calls) (sym copied) kept);
            same = copied ∙ (ap (λ (v : CallsView). with_calls v (set now l.kept call)) l.invariant.same ∙ ap (λ (v : CallsView). with_calls c.args.self.now v.calls) (sym copied));
          }
      | else-stays w ↦
          let stay : stays (get_or ts l.task Ready) ≡ false = stays_read ss l.task _ here ∙ (sym c.stays.ensures ∙ w.if-stays.false) in
          let kept = kept_goes was ts l.task l.kept now no_call size within stay l.invariant.so_far in
          record {
            low = omega (arith, within);
            so_far = subst (λ (k : ℕ). KeptSoFar was ts (l.task + 1) k c.if-stays.self.calls) (sym w.kept-is)
                (subst (λ (v : CallsView). KeptSoFar was ts (l.task + 1) l.kept v.calls) (sym w.self-is) kept);
            same = w.self-is ∙ (l.invariant.same ∙ ap (λ (v : CallsView). with_calls c.args.self.now v.calls) (sym w.self-is));
          }
    ]
