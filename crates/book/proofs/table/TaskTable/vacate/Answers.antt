use Rattle.std.proofs.Common.{◌≡◌, inl, inr, ℕ, ◌<◌, Bool, true, false, Some, length, get_or, refl, sym, ◌∙◌, ap, subst, arith}
use Rattle.std.proofs.lemmas.Option.{same_Some, slice_get-get_or}
use Rattle.book.specs.declared.task.Slot.{Slot}
use Rattle.book.specs.declared.table.TaskTable.TheInside.{Inside}
use Rattle.book.specs.Tasks.{Task}
use Rattle.book.specs.Tasks.{Ready, Running, Parked, Done, GivenUp}
use Rattle.book.specs.Standings.{bare}
use Rattle.book.specs.Table.{TableView, IsWaiting, with_tasks}
use Rattle.book.specs.TableInside.{table_of, kept_of}
use Rattle.book.specs.Carrying.{stays}
use Rattle.book.proofs.Lists.{set_same}
use Rattle.book.proofs.Rows.{length_shown}
use Rattle.book.proofs.Parking.{found_at}
use Rattle.book.proofs.Carrying.{stays_shown}
use Rattle.book.proofs.table.TaskTable.vacate.Goals as goal

-- what is read of a standing is so of the task
stays_here : (s : Inside) (v : TableView) (t : ℕ) (read : Slot) (b r : Bool) → table_of s ≡ v → t < length v.tasks → read ≡ get_or s.standings.items t read → r ≡ stays (bare read) → r ≡ b → stays (get_or v.tasks t Running) ≡ b
stays_here s v t read b r view low e is h =
    let same = same_Some _ _ (sym (slice_get-get_or v.tasks t Running low) ∙ found_at s v t read view low e) in
    ap stays same ∙ (sym (stays_shown s.variables (kept_of s) t read) ∙ (sym is ∙ h))

pub index-requires : goal.index-requires
index-requires c =
    let s = c.self.inside in
    omega (arith, c.requires.within, ap (λ (b : TableView). length b.tasks) c.self.view_is, length_shown s.variables (kept_of s) s.standings.items, s.standings.ok.0)

pub clear-requires-clause-ended : goal.clear-requires-clause-ended
clear-requires-clause-ended c = stays_here c.self.inside c.args.self.now c.args.task.0 c.index.result.now false c.stays.result c.self.view_is c.requires.within c.index.ensures c.stays.ensures c.if-not-stays.true

-- what neither waits nor has ended runs
runs : (t : Task) → stays t ≡ true → (IsWaiting (Some t) → ⊥) → t ≡ Running
runs Ready e rests = absurd (rests (inl refl))
runs Running e rests = refl
runs (Parked log) e rests = absurd (rests (inr (log, refl)))
runs (Done n) e rests = absurd (cc)
runs GivenUp e rests = absurd (cc)

pub returns-else-not-stays : goal.returns-else-not-stays
returns-else-not-stays c =
    let v = c.args.self.now in
    let k = c.args.task.0 in
    let at = slice_get-get_or v.tasks k Running c.requires.within in
    let h = stays_here c.self.inside v k c.index.result.now true c.stays.result c.self.view_is c.requires.within c.index.ensures c.stays.ensures c.if-not-stays.false in
    let running = runs (get_or v.tasks k Running) h (λ w. c.requires.free (subst IsWaiting (sym at) w)) in
    ap (with_tasks v) (sym (set_same v.tasks k Running (at ∙ ap Some running)))
