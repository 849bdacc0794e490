use Rattle.std.proofs.Common.{◌≡◌, ℕ, ◌+◌, ◌<◌, ◌≤◌, true, false, List, ◌∙◌, ap, sym, subst, arith, length, get_or, Vec, Global, vec_capacity}
use Rattle.std.proofs.lemmas.Option.{slice_get-get_or}
use Rattle.book.specs.Tasks.{Task, Ready}
use Rattle.book.specs.Carrying.{stays, carried}
use Rattle.book.proofs.Staying.{KeptSoFar, all_stay, kept_stays, kept_goes, kept_left, kept_enough}
use Rattle.stm_store.proofs.tickets.keep_staying.Goals as goal
use Rattle.stm_store.proofs.tickets.keep_staying.Goals.{then-stays, else-stays}

-- there is a next task
next : (ts : List Task) (was now : List ℕ) (i kept count : ℕ) → length was ≡ length ts → i ≤ length was → kept < count → count ≡ length (carried ts) → KeptSoFar was ts i kept now → i < length was
next ts was now i kept count each low less enough h = kept_left was ts i kept now (sym each) low (omega (arith, less, enough)) h

pub stays-requires : goal.stays-requires
stays-requires c = let l = c.tasks in omega (arith, next c.args.book.now.tasks c.args.held.now.items l.held.items l.i l.kept c.staying-count.result c.requires.each l.invariant.low c.tasks-test.true c.staying-count.ensures l.invariant.so_far, c.requires.each)

pub index-ticket-requires : goal.index-ticket-requires
index-ticket-requires c = let l = c.tasks in omega (arith, next c.args.book.now.tasks c.args.held.now.items l.held.items l.i l.kept c.staying-count.result c.requires.each l.invariant.low c.tasks-test.true c.staying-count.ensures l.invariant.so_far, l.invariant.so_far.size, l.held.ok.0)

pub put-requires : goal.put-requires
put-requires c = let l = c.tasks in omega (arith, next c.args.book.now.tasks c.args.held.now.items l.held.items l.i l.kept c.staying-count.result c.requires.each l.invariant.low c.tasks-test.true c.staying-count.ensures l.invariant.so_far, l.invariant.so_far.size, l.invariant.so_far.low)

pub tasks-smaller : goal.tasks-smaller
tasks-smaller c = let l = c.tasks in omega (arith, next c.args.book.now.tasks c.args.held.now.items l.held.items l.i l.kept c.staying-count.result c.requires.each l.invariant.low c.tasks-test.true c.staying-count.ensures l.invariant.so_far)

pub returns-then-count-len-clause-items : goal.returns-then-count-len-clause-items
returns-then-count-len-clause-items c =
    sym (all_stay c.args.held.now.items c.args.book.now.tasks (sym c.requires.each) (omega (arith, c.staying-count.ensures, c.if-count-len.true, c.len.ensures, c.args.held.now.ok.0, c.requires.each)))

pub returns-clause-items : goal.returns-clause-items
returns-clause-items c =
    let l = c.tasks in
    c.truncate.ensures.items
    ∙ kept_enough c.args.held.now.items c.args.book.now.tasks l.i l.kept l.held.items (sym c.requires.each) l.invariant.low (omega (arith, c.tasks-test.false, c.staying-count.ensures)) l.invariant.so_far

pub tasks-preserved : goal.tasks-preserved
tasks-preserved c =
    let ts = c.args.book.now.tasks in
    let was = c.args.held.now.items in
    let l = c.tasks in
    let within : l.i < length was = kept_left was ts l.i l.kept l.held.items (sym c.requires.each) l.invariant.low (omega (arith, c.tasks-test.true, c.staying-count.ensures)) l.invariant.so_far in
    let low : l.i < length ts = omega (arith, within, c.requires.each) in
    let told : c.stays.result ≡ stays (get_or ts l.i Ready) = c.stays.ensures (get_or ts l.i Ready) (slice_get-get_or ts l.i Ready low) in
    elim c.if-stays.branch [
      | then-stays w ↦
          let stay : stays (get_or ts l.i Ready) ≡ true = sym told ∙ w.if-stays.true in
          let next = kept_stays was ts l.i l.kept l.held.items w.index-ticket.result.now (sym c.requires.each) within stay w.index-ticket.ensures l.invariant.so_far in
          record {
            low = omega (arith, within);
            so_far = subst (λ (k : ℕ). KeptSoFar was ts (l.i + 1) k c.if-stays.held.items) (sym w.kept-is)
                (subst (λ (v : Vec ℕ Global). KeptSoFar was ts (l.i + 1) (l.kept + 1) v.items) (sym w.held-is)
                (subst (KeptSoFar was ts (l.i + 1) (l.kept + 1)) (sym w.put.ensures.items) next));
            capacity = ap vec_capacity w.held-is ∙ (w.put.ensures.capacity ∙ l.invariant.capacity);
          }
      | else-stays w ↦
          let stay : stays (get_or ts l.i Ready) ≡ false = sym told ∙ w.if-stays.false in
          let next = kept_goes was ts l.i l.kept l.held.items 0 (sym c.requires.each) within stay l.invariant.so_far in
          record {
            low = omega (arith, within);
            so_far = subst (λ (k : ℕ). KeptSoFar was ts (l.i + 1) k c.if-stays.held.items) (sym w.kept-is) (subst (λ (v : Vec ℕ Global). KeptSoFar was ts (l.i + 1) l.kept v.items) (sym w.held-is) next);
            capacity = ap vec_capacity w.held-is ∙ l.invariant.capacity;
          }
    ]
