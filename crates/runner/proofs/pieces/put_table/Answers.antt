use Rattle.std.proofs.Common.{◌≡◌, ◌≤◌, ◌∙◌, ◌+◌, ◌-◌, ℕ, ℤ, List, [], ◌++◌, length, length-drop, take, drop, ap, sym, refl, arith}
use Rattle.text_report_printer.specs.ReportText.{cell_lines}
use Rattle.text_report_printer.proofs.Lines.{cells_split}
use Rattle.runner.proofs.Gathering.{cut, gathers_text, on_err, puts_break, puts_more, puts_none}
use Rattle.runner.proofs.pieces.put_table.Goals as goal

-- the first lines, and the others as the code cuts them off
cells_cut : (table : List ℕ) (first n : ℕ) (rest : List (ℤ × ℕ)) → cell_lines table first rest ≡ cell_lines table first (take n rest) ++ cell_lines table (first + n) (take (length rest - n) (drop n rest))
cells_cut table first n rest =
    cells_split table first n rest ∙ ap (λ (vs : List (ℤ × ℕ)). cell_lines table first (take n rest) ++ cell_lines table (first + n) vs) (sym (cut n rest))

-- how many are left behind the first
left_over : (first n most : ℕ) (rest : List (ℤ × ℕ)) → n ≤ length rest → first + length rest ≤ most → first + n + length (take (length rest - n) (drop n rest)) ≤ most
left_over first n most rest le few = let same = ap length (cut n rest) in omega (arith, same, length-drop n rest)

pub loop-rest-init : goal.loop-rest-init
loop-rest-init g c =
    let few : length c.args.cells.now ≤ 1048576 = c.requires.few in
    record {
      puts = puts_none _ _ _;
      within = omega (arith, few);
      none_failed = refl;
      capacity = omega arith;
    }

pub returns-in_err-make_room-clause-breaks : goal.returns-in_err-make_room-clause-breaks
returns-in_err-make_room-clause-breaks g c = on_err _ (puts_break _ _ _ _ _ _ _ [] _ c.loop-rest.invariant.puts c.in_err-make_room.ensures.breaks refl)

pub loop-rest-preserved : goal.loop-rest-preserved
loop-rest-preserved g c =
    let before = c.loop-rest.invariant in
    record {
      puts = puts_more _ _ _ _ _ _ _ _ _ _ before.puts (gathers_text _ _ _ _ _ _ c.in_ok-make_room.ensures.gathers c.in-Ok.ensures.text) (cells_cut c.args.table.now c.loop-rest.first c.min-count.result c.loop-rest.rest.now);
      within = left_over c.loop-rest.first c.min-count.result 1048576 c.loop-rest.rest.now (omega (arith, c.min-count.ensures)) before.within;
      none_failed = c.in_ok-make_room.ensures.none_failed ∙ before.none_failed;
      capacity = omega (arith, before.capacity, c.make_room.ensures.capacity, c.put_cells.ensures.capacity);
    }
