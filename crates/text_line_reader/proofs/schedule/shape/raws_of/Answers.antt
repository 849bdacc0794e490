use Rattle.std.proofs.Common.{◌≡◌, ◌++◌, ◌∷◌, []}
use Rattle.std.proofs.lemmas.List.{map_push}
use Rattle.std.proofs.lemmas.Result.{err_from_is_err_and}
use Rattle.text_line_reader.specs.Lines.{lines}
use Rattle.text_line_reader.specs.ScheduleView.{view_move, view_moves}
use Rattle.text_line_reader.proofs.ScheduleRows.{raws_more, raws_stop, raws_done}
use Rattle.text_line_reader.proofs.schedule.shape.raws_of.Goals as goal

pub moves-preserved : goal.moves-preserved
moves-preserved c =
    let made = c.in_ok-made.made in
    let front = view_moves c.moves.moves.items in
    let e : view_moves c.push.new.self.items ≡ front ++ view_move made ∷ [] = rw c.in_ok-push.ensures.items (map_push view_move c.moves.moves.items made) in
    rw e (raws_more c.args.cells front (lines c.moves.rest.now) (c.in-Some.line.now, lines c.in-Some.after.now) (view_move made) _ c.in-Some.ensures.value c.in_ok-made.ensures.value c.moves.invariant)

pub returns-in_err-end : goal.returns-in_err-end
returns-in_err-end c =
    let p = err_from_is_err_and c.from_residual-in_err-end.result c.from_residual-in_err-end.ensures.1 in
    rw (p.1, p.2) (raws_stop c.args.cells c.in_err-end.field-0.0 (view_moves c.moves.moves.items) (lines c.moves.rest.now) _ c.in_default.ensures.value c.in_err-end.ensures.value c.moves.invariant)

pub returns : goal.returns
returns c = raws_done c.args.cells (view_moves c.moves.moves.items) (lines c.moves.rest.now) c.in_ok-end.field-0 _ c.in_ok-end.ensures.value c.moves.invariant
