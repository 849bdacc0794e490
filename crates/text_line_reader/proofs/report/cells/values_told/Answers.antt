use Rattle.std.proofs.Common.{◌≡◌, ◌∙◌, ◌+◌, ◌-◌, ◌<◌, List, ◌∷◌, length, take, drop, get_or, ap, arith, below_more}
use Rattle.std.specs.Prelude.{ℤ, pos}
use Rattle.text_line_reader.specs.ReportResolving.{filled}
use Rattle.text_line_reader.proofs.Filling.{rest_is, values_done, all_fit, step_past, step_later, more_told, more_begun}
use Rattle.text_line_reader.proofs.report.cells.values_told.Goals as goal
use Rattle.text_line_reader.proofs.report.cells.values_told.Goals.{then-next-cells+then-cells-next, else-next-cells, else-next-cells-via-then-next-cells+else-cells-next, else-next-cells-via-else-next-cells}

pub cells-preserved : goal.cells-preserved
cells-preserved c =
    let n = c.var_count-count.result in
    let initial = c.initial.result.now in
    let begun : List ℤ = take (length initial - n) (drop n initial) in
    let cells = c.args.cells.now in
    let i = c.cells.i in
    let next = c.cells.next in
    let fits = below_more _ _ c.cells.invariant.fits c.unwritten-value.ensures.fits in
    let inside = c.cells.invariant.inside in
    elim c.if-next-cells.branch [
      | then-next-cells+then-cells-next w ↦
          let lt : next < length cells = w.if-next-cells.true in
          let at = w.next-is in
          record {
            told = more_told c.cells.values.items c.push.new.self.items c.if-next-cells.value begun cells i n next c.if-next-cells.next _ c.cells-test.true c.in_ok-push.ensures.items w.next-is w.value-is lt w.if-cells-next.true c.cells.invariant.told;
            inside = omega (arith, lt, at);
            fits = fits;
          }
      | else-next-cells w ↦
          let at = w.next-is in
          let step : filled (drop i begun) (i + n) (drop next cells) ≡ (get_or begun i (pos 0), 0) ∷ filled (drop (i + 1) begun) (i + 1 + n) (drop next cells) = elim w.else-next-cells.branch [
            | else-next-cells-via-then-next-cells+else-cells-next u ↦ step_later begun cells i n next c.cells-test.true u.if-next-cells.true u.if-cells-next.false
            | else-next-cells-via-else-next-cells u ↦ step_past begun cells i n next c.cells-test.true u.if-next-cells.false
          ] in
          record {
            told = more_begun c.cells.values.items c.push.new.self.items c.if-next-cells.value begun cells i n next c.if-next-cells.next _ c.cells-test.true c.in_ok-push.ensures.items w.next-is (w.value-is ∙ c.unwritten-value.ensures.value) step c.cells.invariant.told;
            inside = omega (arith, inside, at);
            fits = fits;
          }
    ]

pub returns-clause-value : goal.returns-clause-value
returns-clause-value c =
    let l = c.args.catalogue.now in
    let n = c.var_count-count.result in
    let initial = c.initial.result.now in
    let same = rest_is n initial ∙ ap (λ k. drop k initial) c.var_count-count.ensures.value ∙ ap (λ (zs : List ℤ). drop (length l.names) zs) c.initial.ensures.value in
    values_done l c.args.variables.items c.args.cells.now c.cells.values.items (take (length initial - n) (drop n initial)) c.cells.i n c.cells.next same c.var_count-count.ensures.value c.cells-test.false c.cells.invariant.told

pub returns-clause-fit : goal.returns-clause-fit
returns-clause-fit c =
    let l = c.args.catalogue.now in
    let n = c.var_count-count.result in
    let initial = c.initial.result.now in
    let same = rest_is n initial ∙ ap (λ k. drop k initial) c.var_count-count.ensures.value ∙ ap (λ (zs : List ℤ). drop (length l.names) zs) c.initial.ensures.value in
    all_fit l (take (length initial - n) (drop n initial)) c.cells.i same c.cells-test.false c.cells.invariant.fits
