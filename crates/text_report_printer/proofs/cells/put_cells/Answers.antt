use Rattle.std.proofs.Common.{string_bytes, pos, arith}
use Rattle.text_report_printer.proofs.Lines.{cells_more}
use Rattle.text_report_printer.proofs.cells.put_cells.Goals as goal

pub cells-preserved : goal.cells-preserved
cells-preserved c =
    record {
      text = cells_more c.args.table.now c.args.first c.args.cells.now c.cells.i (pos 0, 0)
          (string_bytes c.args.out.now) (string_bytes c.cells.out) (string_bytes c.put_cell.new.out)
          c.cells-test.true c.cells.invariant.text c.in_ok-put_cell.ensures.text;
      len = omega (arith, c.cells.invariant.len, c.in_ok-put_cell.ensures.len);
      capacity = omega (arith, c.cells.invariant.capacity, c.put_cell.ensures.capacity);
    }
