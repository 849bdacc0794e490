use Rattle.std.proofs.Common.{◌≡◌, ◌∙◌, ◌<◌, Some, sym, ap, arith, slice_get, get_or}
use Rattle.std.proofs.lemmas.Option.{slice_get-get_or}
use Rattle.attempt_writes.specs.Known.{Known, known_at}
use Rattle.attempt_writes.specs.LogTableInside.{pairs_of}
use Rattle.attempt_writes.specs.Places.{placed_value}
use Rattle.attempt_writes.proofs.Placed.{known_by_place}
use Rattle.attempt_writes.proofs.log_table.LogTable.find.Goals as goal

pub returns : goal.returns
returns c =
    let b = c.self.inside in
    let w = pairs_of b in
    let x = c.args.x in
    let low : x.0 < 256 = omega (arith, c.if-x-ge-MAX_VARIABLES.false) in
    let at : slice_get b.places x.0 ≡ Some (get_or b.places x.0 0) = slice_get-get_or b.places x.0 0 (omega (arith, low, c.self.invariant.wide)) in
    c.look.ensures ∙ ap (λ o. placed_value o w x) (sym at)
    ∙ sym (known_by_place w b.places x low c.self.invariant.placed) ∙ ap (λ (l : Known). known_at l x) c.self.view_is
