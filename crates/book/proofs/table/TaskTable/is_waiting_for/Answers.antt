use Rattle.std.proofs.Common.{[], Some, get_or, map, sym, ◌∙◌, ap, arith}
use Rattle.std.specs.List.{slice_get}
use Rattle.book.specs.Tasks.{Parked}
use Rattle.book.specs.Standings.{kept_log}
use Rattle.book.specs.Table.{TableView, waits_for, names}
use Rattle.book.specs.TableInside.{kept_of}
use Rattle.book.proofs.Lists.{map_get}
use Rattle.book.proofs.Rows.{log_of_list, named_unvalued}
use Rattle.book.proofs.Parking.{waiting, many_of, log_within, log_read}
use Rattle.book.proofs.table.TaskTable.is_waiting_for.Goals as goal

pub index-requires : goal.index-requires
index-requires c =
    let s = c.self.inside in
    let t = c.args.task.0 in
    let w = waiting s c.args.self.now t c.self.view_is c.requires.parked in
    omega (arith, log_within s t w c.self.invariant (many_of s c.args.self.now c.self.view_is c.requires.wide), s.logs.ok.0)

pub returns : goal.returns
returns c =
    let s = c.self.inside in
    let t = c.args.task.0 in
    let x = c.args.variable in
    let w = waiting s c.args.self.now t c.self.view_is c.requires.parked in
    let wide = many_of s c.args.self.now c.self.view_is c.requires.wide in
    let low = log_within s t w c.self.invariant wide in
    let read = c.as_slice.ensures.value ∙ log_read s.logs.items t c.index.result.now low c.index.ensures in
    ap (λ (b : TableView). slice_get (map (waits_for x) b.tasks) t) (sym c.self.view_is)
    ∙ (map_get (waits_for x) _ t (Parked (kept_log s.variables (kept_of s) t w.count)) w.shown_is
    ∙ ap Some
    (ap (names x) (log_of_list s.variables (kept_of s) t w.count wide)
    ∙ (named_unvalued x (get_or s.logs.items t []) ∙ (ap (names x) (sym read) ∙ sym c.has_name.ensures))))
