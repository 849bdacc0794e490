use Rattle.std.proofs.Common.{◌≡◌, ◌<◌, ℕ, Some, length, refl, sym, ◌∙◌, ap, arith}
use Rattle.std.specs.List.{slice_get}
use Rattle.std.proofs.lemmas.Option.{same_Some, slice_get_read}
use Rattle.book.specs.declared.table.TaskTable.TheInside.{Inside}
use Rattle.book.specs.declared.task.Slot.TheVariants as standing
use Rattle.book.specs.Table.{TableView}
use Rattle.book.specs.TableInside.{table_of, kept_of}
use Rattle.book.proofs.Rows.{length_shown, shown_at, stands_ready}
use Rattle.book.proofs.table.TaskTable.is_ready.Goals as goal

within : (s : Inside) (v : TableView) (t : ℕ) → table_of s ≡ v → t < length v.tasks → t < length s.standings.items
within s v t view low = omega (arith, low, ap (λ (b : TableView). length b.tasks) view, length_shown s.variables (kept_of s) s.standings.items)

pub index-requires : goal.index-requires
index-requires c = omega (arith, within c.self.inside c.args.self.now c.args.task.0 c.self.view_is c.requires, c.self.inside.standings.ok.0)

pub returns-in-Ready : goal.returns-in-Ready
returns-in-Ready c =
    let s = c.self.inside in
    let t = c.args.task.0 in
    let read = slice_get_read s.standings.items (length s.standings.items) t c.index.result.now refl (within s c.args.self.now t c.self.view_is c.requires) c.index.ensures in
    ap (λ (b : TableView). slice_get b.tasks t) (sym c.self.view_is) ∙ shown_at s.variables (kept_of s) s.standings.items t standing.Ready (read ∙ ap Some c.in-Ready.is)

pub returns-in_default : goal.returns-in_default
returns-in_default c =
    let s = c.self.inside in
    let t = c.args.task.0 in
    let read = slice_get_read s.standings.items (length s.standings.items) t c.index.result.now refl (within s c.args.self.now t c.self.view_is c.requires) c.index.ensures in
    λ e. c.in_default.not-Ready (same_Some _ _ (sym read ∙ stands_ready s.variables (kept_of s) s.standings.items t (ap (λ (b : TableView). slice_get b.tasks t) c.self.view_is ∙ e)))
