use Rattle.std.proofs.Common.{◌≡◌, ◌<◌, ℕ, inl, inr, Some, length, refl, sym, ◌∙◌, ap, arith}
use Rattle.std.specs.List.{slice_get}
use Rattle.std.proofs.lemmas.Option.{same_Some, slice_get_read}
use Rattle.book.specs.declared.table.TaskTable.TheInside.{Inside}
use Rattle.book.specs.declared.task.Slot.TheVariants as standing
use Rattle.book.specs.Standings.{kept_log}
use Rattle.book.specs.Tasks.{Task, Ready, Parked}
use Rattle.book.specs.Table.{TableView, IsWaiting}
use Rattle.book.specs.TableInside.{table_of, tasks_of, kept_of}
use Rattle.book.proofs.Rows.{length_shown, shown_at, stands_ready, stands_parked}
use Rattle.book.proofs.table.TaskTable.withdraw.Goals as goal

within : (s : Inside) (v : TableView) (t : ℕ) → table_of s ≡ v → t < length v.tasks → t < length s.standings.items
within s v t view low = omega (arith, low, ap (λ (b : TableView). length b.tasks) view, length_shown s.variables (kept_of s) s.standings.items)

pub index-requires : goal.index-requires
index-requires c = omega (arith, within c.self.inside c.args.self.now c.args.task.0 c.self.view_is c.requires, c.self.inside.standings.ok.0)

pub drop_ready-requires : goal.drop_ready-requires
drop_ready-requires c =
    let s = c.self.inside in
    let t = c.args.task.0 in
    let read = slice_get_read s.standings.items (length s.standings.items) t c.index.result.now refl (within s c.args.self.now t c.self.view_is c.requires) c.index.ensures in
    ap (λ (b : TableView). slice_get b.tasks t) (sym c.self.view_is) ∙ shown_at s.variables (kept_of s) s.standings.items t standing.Ready (read ∙ ap Some c.in-Ready.is)

pub drop_parked-requires : goal.drop_parked-requires
drop_parked-requires c =
    let s = c.self.inside in
    let t = c.args.task.0 in
    let read = slice_get_read s.standings.items (length s.standings.items) t c.index.result.now refl (within s c.args.self.now t c.self.view_is c.requires) c.index.ensures in
    (kept_log s.variables (kept_of s) t c.in-Parked.field-0, ap (λ (b : TableView). slice_get b.tasks t) (sym c.self.view_is) ∙ shown_at s.variables (kept_of s) s.standings.items t (standing.Parked c.in-Parked.field-0) (read ∙ ap Some c.in-Parked.is))

pub returns-in-Ready : goal.returns-in-Ready
returns-in-Ready c =
    let s = c.self.inside in
    let t = c.args.task.0 in
    let read = slice_get_read s.standings.items (length s.standings.items) t c.index.result.now refl (within s c.args.self.now t c.self.view_is c.requires) c.index.ensures in
    (inl (ap (λ (b : TableView). slice_get b.tasks t) (sym c.self.view_is) ∙ shown_at s.variables (kept_of s) s.standings.items t standing.Ready (read ∙ ap Some c.in-Ready.is)), c.drop_ready.ensures)

pub returns-in-Parked : goal.returns-in-Parked
returns-in-Parked c =
    let s = c.self.inside in
    let t = c.args.task.0 in
    let read = slice_get_read s.standings.items (length s.standings.items) t c.index.result.now refl (within s c.args.self.now t c.self.view_is c.requires) c.index.ensures in
    (inr (kept_log s.variables (kept_of s) t c.in-Parked.field-0, ap (λ (b : TableView). slice_get b.tasks t) (sym c.self.view_is) ∙ shown_at s.variables (kept_of s) s.standings.items t (standing.Parked c.in-Parked.field-0) (read ∙ ap Some c.in-Parked.is)), c.drop_parked.ensures)

pub returns-in_default : goal.returns-in_default
returns-in_default c =
    let s = c.self.inside in
    let t = c.args.task.0 in
    let read = slice_get_read s.standings.items (length s.standings.items) t c.index.result.now refl (within s c.args.self.now t c.self.view_is c.requires) c.index.ensures in
    let back : (w : Task) → slice_get c.args.self.now.tasks t ≡ Some w → slice_get (tasks_of s) t ≡ Some w = λ w e. ap (λ (b : TableView). slice_get b.tasks t) c.self.view_is ∙ e in (
      λ (w : IsWaiting (slice_get c.args.self.now.tasks t)). elim w [
        | inl e ↦ c.in_default.not-Ready (same_Some _ _ (sym read ∙ stands_ready s.variables (kept_of s) s.standings.items t (back Ready e)))
        | inr p ↦ let q = stands_parked s.variables (kept_of s) s.standings.items t p.0 (back (Parked p.0) p.1) in c.in_default.not-Parked q.0 (same_Some _ _ (sym read ∙ q.1))
      ],
      refl,
    )
