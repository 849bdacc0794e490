use Rattle.std.proofs.Common.{◌≡◌, ◌<◌, ℕ, Some, length, refl, sym, ◌∙◌, ap, arith}
use Rattle.std.specs.List.{slice_get}
use Rattle.std.proofs.lemmas.Option.{slice_get_read}
use Rattle.book.specs.declared.task.Slot.{Slot}
use Rattle.book.specs.declared.task.Slot.TheVariants as standing
use Rattle.book.specs.Standings.{bare, shown, Kept}
use Rattle.book.specs.Recorded.{told_as}
use Rattle.book.specs.Table.{TableView}
use Rattle.book.proofs.Lists.{map_get}
use Rattle.book.proofs.Rows.{length_shown, shown_at}
use Rattle.book.specs.TableInside.{kept_of}
use Rattle.book.proofs.table.TaskTable.standing.Goals as goal

-- what is told of a task does not depend on its log
told_bare : (w : ℕ) (names : Kept) (k : ℕ) (s : Slot) → told_as (shown w names k s) ≡ told_as (bare s)
told_bare w names k standing.Ready = refl
told_bare w names k standing.Running = refl
told_bare w names k (standing.Parked n) = refl
told_bare w names k (standing.Done n) = refl
told_bare w names k standing.GivenUp = refl

pub index-requires : goal.index-requires
index-requires c =
    let s = c.self.inside in
    omega (arith, c.requires, ap (λ (b : TableView). length b.tasks) c.self.view_is, length_shown s.variables (kept_of s) s.standings.items, s.standings.ok.0)

pub returns : goal.returns
returns c =
    let s = c.self.inside in
    let t = c.args.task.0 in
    let w = s.variables in
    let within : t < length s.standings.items = omega (arith, c.requires, ap (λ (b : TableView). length b.tasks) c.self.view_is, length_shown w (kept_of s) s.standings.items) in
    let read = slice_get_read s.standings.items (length s.standings.items) t c.index.result.now refl within c.index.ensures in
    let there = ap (λ (b : TableView). slice_get b.tasks t) (sym c.self.view_is) ∙ shown_at w (kept_of s) s.standings.items t c.index.result.now read in
    map_get told_as c.args.self.now.tasks t (shown w (kept_of s) t c.index.result.now) there
    ∙ ap Some (told_bare w (kept_of s) t c.index.result.now ∙ sym c.told.ensures)
